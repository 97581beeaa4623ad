-- When the shared state stands for a situation.
use Rattle.std.specs.Prelude.{◌≡◌, true, List, find, option_map, Option, Some}
use Rattle.std.specs.FinMap as map
use Rattle.estelle_tree.specs.declared.link.IpAddr.{IpAddr}
use Rattle.estelle_tree.specs.Paths.{Path}
use Rattle.module_tree.specs.Trees as trees
use Rattle.queue_store.specs.Queues.{Queue, has, is_declared, queue_of}
use Rattle.queue_store.specs.Holds.{holds, AllApart}
use Rattle.estelle_model.specs.declared.image.Part.{Part}
use Rattle.estelle_model.specs.declared.image.Interaction.{Interaction}
use Rattle.estelle_model.specs.declared.meaning.InteractionPoint.{InteractionPoint}
use Rattle.estelle_model.specs.Core.{Instance}
use Rattle.estelle_model.specs.Subject.{Subject}
use Rattle.estelle_model.specs.InteractionPoints.{point}
use Rattle.estelle_model.specs.Situation.{Situation}
use Rattle.estelle_model.specs.Queues.{one_queue, queue}
use Rattle.estelle_model.specs.Jobs.{part_of_entry}
use Rattle.effect_log.specs.declared.shared.Shared.{Shared}

-- an instance as the tree has it: as a part, with how many children it has had
abbrev pub kept_of : Path → Instance → trees.Instance Part
kept_of p i = record { part = part_of_entry (p, i); births = i.births }

-- the queue of an interaction point
abbrev pub queue_at : IpAddr → List (Queue Interaction) → Option (Queue Interaction)
queue_at a qs = find (has a) qs

pub record AreQueuesOf (s : Subject) (g : Situation) (qs : List (Queue Interaction)) : Type 0 where
  -- each interaction point of an instance has a queue, the common one where it shares that; no other point has one
  pub declared : (a : IpAddr) → option_map (λ q. q.common) (queue_at a qs) ≡ option_map (λ p. p.common) (point s g.core.instances a)
  -- in it are just the points that have one queue with it
  pub together : (a : IpAddr) (q : Queue Interaction) → queue_at a qs ≡ Some q → (b : IpAddr) → has b q ≡ one_queue s g.core.instances a b
  -- no point is in two queues
  pub apart : AllApart qs
  -- each queue has, in order, what waits at its points
  pub waiting : holds qs g.mail

-- the shared state stands for a situation: it has the instances with their births, the links, the queues and the count of outputs
pub record Stands (s : Subject) (shared : Shared) (g : Situation) : Type 0 where
  pub instances : (p : Path) → map.get shared.tree.instances p ≡ option_map (kept_of p) (map.get g.core.instances p)
  pub links : shared.links.links ≡ g.core.links
  pub queues : AreQueuesOf s g shared.queues.queues
  pub outputs : shared.outputs ≡ g.made

-- ---- the law

-- the queue of an interaction point that is there has, in order, what waits in it in the situation
abbrev pub QueuesAreHeld : Type 0
QueuesAreHeld = (s : Subject) (shared : Shared) (g : Situation) → Stands s shared g → (a : IpAddr) (p : InteractionPoint) → point s g.core.instances a ≡ Some p
    → (is_declared a shared.queues.queues ≡ true) × (queue_of a shared.queues.queues ≡ queue s g a)
