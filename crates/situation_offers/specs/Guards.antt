-- What is known of the guards of instances, one after another.
use Rattle.std.specs.Prelude.{◌≡◌, ◌+◌, ◌<◌, ◌≤◌, nat_le, ℕ, ℤ, Bool, true, false, if◌then◌else◌, Option, Some, None, List, [], ◌∷◌, ◌++◌, map as each, filter, flat_map}
use Rattle.std.specs.List.{AllByRecursion, range_with_len}
use Rattle.std.specs.FinMap as map
use Rattle.pascal_values.specs.declared.fault.Fault.{Fault}
use Rattle.estelle_tree.specs.declared.transition.Pair.{Pair}
use Rattle.estelle_tree.specs.declared.transition.Wanted.{Wanted}
use Rattle.estelle_tree.specs.Paths.{Path}
use Rattle.estelle_tree.specs.Timers.{Timer, pair, cap, due, ends_by, high_is_over}
use Rattle.estelle_model.specs.declared.job.Guard.{Guard}
use Rattle.estelle_model.specs.declared.job.Guard.TheVariants.{Off, On, Faulted}
use Rattle.estelle_model.specs.Subject.{Subject}
use Rattle.estelle_model.specs.Situation.{Situation}
use Rattle.estelle_model.specs.Firing.{guard}
use Rattle.estelle_model.specs.Delays.{has_delay, may, wanted_by, renew}
use Rattle.estelle_model.specs.Schedule.{numbers_of}
use Rattle.transition_select.specs.declared.countings.Countable.{Countable}
use Rattle.transition_select.specs.declared.countings.Counting.{Counting}
use Rattle.transition_select.specs.Countings.{IsCountable, IsCounting}

-- ---- faults

-- no guard of the instance faults
abbrev pub NoneFaults : Subject → ℕ → Situation → Path → Type 0
NoneFaults s budget g m = (n : ℕ) (kind : Fault) → guard s budget g m n ≡ Faulted kind → ⊥

-- this is the first guard of the instance that faults
pub record IsFirst (s : Subject) (budget : ℕ) (g : Situation) (m : Path) (n : ℕ) (kind : Fault) : Type 0 where
  pub faults : guard s budget g m n ≡ Faulted kind
  pub first : (k : ℕ) (other : Fault) → k < n → guard s budget g m k ≡ Faulted other → ⊥

-- ---- what a transition comes to by the answer of its guard

-- a delay with this low is over: that of the timer that runs, or else of one that starts now
abbrev pub is_over : ℕ → Option Timer → ℕ → Bool
is_over now None low = nat_le (cap (now + low)) now
is_over now (Some t) low = nat_le (due t) now

-- a delay with this high has ended: that of the timer that runs, or else of one that starts now
abbrev pub has_ended : ℕ → Option Timer → Option ℕ → Bool
has_ended now None high = ends_by now now high
has_ended now (Some t) high = high_is_over now (Some t)

-- once the timers are renewed it may be selected
abbrev pub may_by : ℕ → Option Timer → Bool → Guard → Bool
may_by now running delayed (On low high) = if delayed then is_over now running low else true
may_by now running delayed Off = false
may_by now running delayed (Faulted kind) = false

-- and it must be counted
abbrev pub must_by : ℕ → Option Timer → Bool → Guard → Bool
must_by now running delayed (On low high) = if delayed then has_ended now running high else true
must_by now running delayed Off = false
must_by now running delayed (Faulted kind) = false

-- what is counted of a transition with this priority
abbrev pub counted_if : Bool → ℕ → Option ℤ → Bool → List Countable
counted_if true n priority must = record { trans = n; priority = priority; must = must } ∷ []
counted_if false n priority must = []

-- what wants a timer of a transition, which has a delay or not
abbrev pub wanted_if : Bool → Pair → Guard → List Wanted
wanted_if true p answer = wanted_by p answer
wanted_if false p answer = []

abbrev pub wanted_at : Subject → ℕ → Situation → Path → ℕ → List Wanted
wanted_at s budget g m n = wanted_if (has_delay s g m n) (pair m n) (guard s budget g m n)

-- of all transitions of an instance
abbrev pub wanted_of : Subject → ℕ → Situation → Path → List Wanted
wanted_of s budget g m = flat_map (wanted_at s budget g m) (numbers_of s (map.get g.core.instances m))

-- ---- on the way

module _ (s : Subject) (budget : ℕ) (g : Situation) (system : Path) (now : ℕ) where
  -- of the transitions of an instance up to one, none faults, these may be selected once the timers are renewed, and these want a timer
  pub record AreCountedTo (m : Path) (n : ℕ) (cs : List Countable) (before after : List Wanted) : Type 0 where
    pub numbers : each (λ c. c.trans) cs ≡ filter (may s budget (renew s budget g system now) m) (range_with_len 1 n)
    pub known : AllByRecursion (IsCountable s budget (renew s budget g system now) m) cs
    pub wanted : after ≡ before ++ flat_map (wanted_at s budget g m) (range_with_len 1 n)
    pub sound : (k : ℕ) (kind : Fault) → k ≤ n → guard s budget g m k ≡ Faulted kind → ⊥

  -- of instances one after another none faults, this is what they count then, and these want a timer
  pub record HaveCounted (ms : List Path) (cs : List Counting) (ws : List Wanted) : Type 0 where
    pub paths : each (λ c. c.path) cs ≡ ms
    pub countings : AllByRecursion (IsCounting s budget (renew s budget g system now)) cs
    pub wanted : ws ≡ flat_map (wanted_of s budget g) ms
    pub sound : AllByRecursion (NoneFaults s budget g) ms
