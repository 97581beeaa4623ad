-- What a guard sees of a situation.
use Rattle.std.specs.Prelude.{◌≡◌, ℕ, slice_get, Some}
use Rattle.std.specs.FinMap as map
use Rattle.estelle_tree.specs.Paths.{Path, child}
use Rattle.estelle_tree.specs.Timers.{pair}
use Rattle.estelle_model.specs.Core.{Instance}
use Rattle.estelle_model.specs.Transitions.{When}
use Rattle.estelle_model.specs.Subject.{Subject}
use Rattle.estelle_model.specs.Situation.{Situation}
use Rattle.estelle_model.specs.Queues.{found}
use Rattle.estelle_model.specs.Firing.{transition_at}
use Rattle.estelle_model.specs.Jobs.{found_by}

-- the module variables of an instance hold children of its own
abbrev pub HoldsOwnChildren : Situation → Path → Type 0
HoldsOwnChildren g q = (i : Instance) (v : ℕ) (held : Path) → map.get g.core.instances q ≡ Some i → slice_get i.module_variables v ≡ Some (Some held) → (k : ℕ) × (held ≡ child q k)

-- two situations have the same record of an instance and the same records of its children
pub record HaveSameRecords (g h : Situation) (q : Path) : Type 0 where
  pub own : map.get h.core.instances q ≡ map.get g.core.instances q
  pub children : (k : ℕ) → map.get h.core.instances (child q k) ≡ map.get g.core.instances (child q k)

-- and of a transition of it the same head, as its `when` finds it, and the same timer
pub record HaveSameOf (s : Subject) (g h : Situation) (q : Path) (n : ℕ) : Type 0 where
  pub records : HaveSameRecords g h q
  pub head : found_by s h q (transition_at s n (map.get g.core.instances q)) ≡ found_by s g q (transition_at s n (map.get g.core.instances q))
  pub timed : map.contains_key h.timers (pair q n) ≡ map.contains_key g.timers (pair q n)

-- an instance is not touched: its record and its children's, the heads of its queues and its timers are the same
pub record IsUntouched (s : Subject) (g h : Situation) (q : Path) : Type 0 where
  pub records : HaveSameRecords g h q
  pub heads : (w : When) → found s h q (Some w) ≡ found s g q (Some w)
  pub timers : (n : ℕ) → map.contains_key h.timers (pair q n) ≡ map.contains_key g.timers (pair q n)
