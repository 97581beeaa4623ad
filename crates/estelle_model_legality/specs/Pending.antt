-- Which selected firings may be pending together, and which timers may run (ISO/IEC 9074: parent priority, `delay`).
use Rattle.std.specs.Prelude.{◌≡◌, ◌≢◌, ◌≤◌, ℕ, false, IsTrue, slice_get, Option, Some, None, Contains}
use Rattle.std.specs.FinMap as map
use Rattle.estelle_tree.specs.declared.transition.Pair.{Pair}
use Rattle.estelle_tree.specs.Paths.{Path, is_inside}
use Rattle.estelle_tree.specs.Timers.{Timer}
use Rattle.estelle_model.specs.Core.{Instance}
use Rattle.estelle_model.specs.Transitions.{Transition}
use Rattle.estelle_model.specs.Subject.{Subject}
use Rattle.estelle_model.specs.Situation.{Situation}
use Rattle.estelle_model.specs.Queues.{Absent, received}
use Rattle.estelle_model.specs.Firing.{transition_at}
use Rattle.estelle_model.specs.Attributes.{IsSystem}

-- it is a transition of an instance of a system, and what it receives is there
pub record MayBePending (s : Subject) (g : Situation) (p : Pair) : Type 0 where
  pub system : Path
  pub is_system : IsSystem s g system
  pub inside : IsTrue (is_inside system p.path)
  pub instance : Instance
  pub there : map.get g.core.instances p.path ≡ Some instance
  pub transition : Transition
  pub its : transition_at s p.trans (Some instance) ≡ Some transition
  pub head : received s g p.path transition.when ≢ Absent

-- of two of them neither instance is the other or above it
pub record ArePending (s : Subject) (g : Situation) : Type 0 where
  pub each : (p : Pair) → Contains g.pending p → MayBePending s g p
  pub apart : (i j : ℕ) (p q : Pair) → i ≢ j → slice_get g.pending i ≡ Some p → slice_get g.pending j ≡ Some q → is_inside p.path q.path ≡ false

-- a delay that ends is no shorter than its least
abbrev pub IsInOrder : Timer → Option ℕ → Type 0
IsInOrder t None = Unit {0}
IsInOrder t (Some high) = t.low ≤ high

abbrev pub AreInOrder : Situation → Type 0
AreInOrder g = (p : Pair) (t : Timer) → map.get g.timers p ≡ Some t → IsInOrder t t.high
