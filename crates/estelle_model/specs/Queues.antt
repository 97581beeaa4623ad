-- Queues in a situation: each interaction point has its own, or shares the one common queue of its instance (ISO/IEC 9074).
use Rattle.std.specs.Prelude.{Bool, ◌&&◌, ◌||◌, false, if◌then◌else◌, List, [], ◌∷◌, Option, Some, None}
use Rattle.std.specs.Str.{bytes_eq}
use Rattle.estelle_tree.specs.declared.link.IpAddr.{IpAddr}
use Rattle.estelle_tree.specs.Paths.{Path}
use Rattle.estelle_tree.specs.Links.{same_ip}
use Rattle.estelle_tree.specs.Queues as queues
use Rattle.estelle_tree.specs.Queues.{waits_at, in_queue}
use Rattle.estelle_model.specs.declared.image.Interaction.{Interaction}
use Rattle.estelle_model.specs.declared.meaning.InteractionPoint.{InteractionPoint}
use Rattle.estelle_model.specs.Core.{Instances}
use Rattle.estelle_model.specs.Transitions.{When}
use Rattle.estelle_model.specs.Subject.{Subject}
use Rattle.estelle_model.specs.InteractionPoints.{point}
use Rattle.estelle_model.specs.Situation.{Waiting, Situation}

abbrev pub common_at : Option InteractionPoint → Bool
common_at None = false
common_at (Some p) = p.common

-- an interaction point shares the common queue of its instance
abbrev pub is_common : Subject → Instances → IpAddr → Bool
is_common s instances a = common_at (point s instances a)

-- two interaction points have one queue
abbrev pub one_queue : Subject → Instances → IpAddr → IpAddr → Bool
one_queue s instances a b = same_ip a b || (bytes_eq a.path b.path && (is_common s instances a && is_common s instances b))

-- what waits in the queue of an interaction point, in order
abbrev pub queue : Subject → Situation → IpAddr → List Waiting
queue s g a = in_queue (one_queue s g.core.instances a) g.mail

-- without the first that is in that queue
abbrev pub without_head : Subject → Situation → IpAddr → List Waiting → List Waiting
without_head s g a = queues.without_head (one_queue s g.core.instances a)

-- ---- what a transition receives

-- what a transition finds of its interaction
pub data Found : Type 0 where
  -- it has no `when`
  NotNeeded : Found
  -- the head of the queue, which waits at the point of the `when`
  Head : (item : Interaction) → Found
  -- another point's interaction is the head, or there is none
  Absent : Found

abbrev pub head_at : IpAddr → List Waiting → Found
head_at a [] = Absent
head_at a (w ∷ ws) = if waits_at a w then Head w.item else Absent

-- the head of the queue where it waits at the point of the `when`, whatever its name
abbrev pub found : Subject → Situation → Path → Option When → Found
found s g p None = NotNeeded
found s g p (Some w) = head_at (record { path = p; ip = w.ip }) (queue s g (record { path = p; ip = w.ip }))

-- it is the interaction that the `when` names
abbrev pub is_named : Interaction → Option When → Bool
is_named i None = false
is_named i (Some w) = bytes_eq w.name i.name

abbrev pub named : Option When → Found → Found
named w (Head i) = if is_named i w then Head i else Absent
named w f = f

-- what a firing receives: that head, where it is the interaction that the `when` names
abbrev pub received : Subject → Situation → Path → Option When → Found
received s g p w = named w (found s g p w)
