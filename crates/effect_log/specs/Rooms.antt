-- For which effects there is memory.
use Rattle.std.specs.Prelude.{◌≡◌, ℕ, ◌+◌, ◌≤◌, Bool, true, false, if◌then◌else◌, List, [], length, sum_by, IsSome, All, vec_capacity}
use Rattle.std.specs.List.{list_any}
use Rattle.estelle_tree.specs.Paths.{Path}
use Rattle.module_tree.specs.Trees.{instance_at}
use Rattle.queue_store.specs.Queues.{Queue}
use Rattle.estelle_model.specs.declared.image.Interaction.{Interaction}
use Rattle.estelle_model.specs.declared.effect.Effect.{Effect}
use Rattle.estelle_model.specs.declared.effect.Effect.TheVariants.{Output, Connect, Attach, Create, Remove}
use Rattle.estelle_model.specs.declared.job.Outcome.{Outcome}
use Rattle.effect_log.specs.declared.shared.Shared.{Shared}
use Rattle.effect_log.specs.declared.notes.Notes.{Notes}
use Rattle.effect_log.specs.Putting.{log_of}

-- ---- what effects take

abbrev pub outputs_of : Effect → ℕ
outputs_of (Output from item out) = 1
outputs_of _ = 0

abbrev pub links_of : Effect → ℕ
links_of (Connect a b) = 1
links_of (Attach upper lower) = 1
links_of _ = 0

abbrev pub instances_of : Effect → ℕ
instances_of (Create path part ips) = 1
instances_of _ = 0

abbrev pub points_of : Effect → ℕ
points_of (Create path part ips) = length ips
points_of _ = 0

-- the length of the path of the instance that is made
abbrev pub depth_of : Effect → ℕ
depth_of (Create path part ips) = length path
depth_of _ = 0

abbrev pub removes : Effect → Bool
removes (Remove path) = true
removes _ = false

abbrev pub outputs_in : List Effect → ℕ
outputs_in = sum_by outputs_of

abbrev pub links_in : List Effect → ℕ
links_in = sum_by links_of

abbrev pub instances_in : List Effect → ℕ
instances_in = sum_by instances_of

abbrev pub points_in : List Effect → ℕ
points_in = sum_by points_of

-- at most so many interactions are dropped, where so many wait
abbrev pub drops_in : List Effect → ℕ → ℕ
drops_in effects waiting = if list_any removes effects then waiting + outputs_in effects else 0

-- ---- the room for them

pub record IsRoomFor (effects : List Effect) (waiting : ℕ) (shared : Shared) (notes : Notes) : Type 0 where
  pub instances : instances_in effects ≤ shared.tree.spare
  pub links : links_in effects ≤ shared.links.spare
  pub items : outputs_in effects ≤ shared.queues.spare
  pub points : points_in effects ≤ shared.queues.room
  pub outs : length notes.outs.items + outputs_in effects ≤ vec_capacity notes.outs
  pub drops : length notes.drops.items + drops_in effects waiting ≤ vec_capacity notes.drops
  pub arrivals : length notes.arrivals.items + outputs_in effects ≤ vec_capacity notes.arrivals
  -- each room is wide enough for the path of every instance that is there or is made
  pub rooms : outputs_in effects ≤ length notes.rooms.items
  pub widest : ℕ
  pub wide : All (λ room. widest ≤ room) notes.rooms.items
  pub within : (p : Path) → IsSome (instance_at shared.tree p) → length p ≤ widest
  pub made_within : All (λ e. depth_of e ≤ widest) effects
  -- the working space
  pub dropped : drops_in effects waiting ≤ vec_capacity notes.dropped
  pub new_points : points_in effects ≤ vec_capacity notes.points
  pub none_dropped : notes.dropped.items ≡ []
  pub no_points : notes.points.items ≡ []

-- how many interactions wait in all
abbrev pub waiting_in : List (Queue Interaction) → ℕ
waiting_in = sum_by (λ q. length q.items)

-- what reserving leaves, where nothing comes between
pub record HasRoomForAll (effects : List Effect) (shared : Shared) (notes : Notes) : Type 0 where
  pub room : IsRoomFor effects (waiting_in shared.queues.queues) shared notes
  pub log : length effects ≤ vec_capacity notes.log
  pub no_log : notes.log.items ≡ []

abbrev pub HasRoomFor : Outcome → Shared → Notes → Type 0
HasRoomFor o = HasRoomForAll (log_of o)

-- ---- what reserving keeps

pub record SeesTheSame (old new : Shared) : Type 0 where
  pub instances : new.tree.instances ≡ old.tree.instances
  pub links : new.links.links ≡ old.links.links
  pub queues : new.queues.queues ≡ old.queues.queues
  pub outputs : new.outputs ≡ old.outputs

pub record NotesTheSame (old new : Notes) : Type 0 where
  pub outs : new.outs.items ≡ old.outs.items
  pub drops : new.drops.items ≡ old.drops.items
  pub arrivals : new.arrivals.items ≡ old.arrivals.items
