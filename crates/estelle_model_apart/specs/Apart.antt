-- What events of other instances leave of a pending firing: all that it finds.
use Rattle.std.specs.Prelude.{◌≡◌, ℕ, false, List, ◌++◌, IsPermutation, Contains}
use Rattle.std.specs.List.{AllByRecursion}
use Rattle.std.specs.FinMap as map
use Rattle.estelle_tree.specs.Paths.{Path, is_inside}
use Rattle.estelle_tree.specs.Timers.{pair}
use Rattle.estelle_model.specs.declared.event.Event.{Event}
use Rattle.estelle_model.specs.declared.event.Event.TheVariants.{Start, Select, Fire, Fault}
use Rattle.estelle_model.specs.Subject.{Subject}
use Rattle.estelle_model.specs.Situation.{Situation}
use Rattle.estelle_model.specs.Queues.{Found}
use Rattle.estelle_model.specs.Firing.{transition_at}
use Rattle.estelle_model.specs.Jobs.{private, received_by}
use Rattle.estelle_model.specs.Runs.{same_pair, next, Applies, Goes, IsRun, after_events, situation}
use Rattle.estelle_model_legality.specs.Instances.{LeadsToStates}
use Rattle.estelle_model_legality.specs.Situations.{IsLegal}

-- ---- events of other instances

-- neither instance is the other, or above it
abbrev pub AreApart : Path → Path → Type 0
AreApart m q = (is_inside m q ≡ false) × (is_inside q m ≡ false)

-- an instance apart from this one fires, or a system to which it does not belong selects
abbrev pub IsApartFrom : Path → Event → Type 0
IsApartFrom m (Fire q k outs drops) = AreApart m q
IsApartFrom m (Select system now takes) = is_inside system m ≡ false
IsApartFrom m (Start outs drops) = ⊥
IsApartFrom m (Fault q k kind) = ⊥

-- or the event is a fault, which leaves the situation as it is
abbrev pub IsApartOrFault : Path → Event → Type 0
IsApartOrFault m (Fault q k kind) = Unit {0}
IsApartOrFault m e = IsApartFrom m e

-- the event does not fire this transition
abbrev pub IsOther : Path → ℕ → Event → Type 0
IsOther m n (Fire q k outs drops) = same_pair (pair m n) (pair q k) ≡ false
IsOther m n _ = Unit {0}

-- ---- what a firing finds

-- what a transition of an instance receives
abbrev pub received_in : Subject → Situation → Path → ℕ → Found
received_in s g m n = received_by s g m (transition_at s n (map.get g.core.instances m))

-- the firing is pending in the later situation, and finds there what it found in the earlier one
pub record FindsTheSame (s : Subject) (m : Path) (n : ℕ) (earlier later : Situation) : Type 0 where
  pub pending : Contains later.pending (pair m n)
  -- the private part is the same: the records at and below the instance, and the private links, in any order
  pub instances : (private s later.core m).instances ≡ (private s earlier.core m).instances
  pub links : IsPermutation (private s earlier.core m).links (private s later.core m).links
  -- and so is what it receives
  pub received : received_in s later m n ≡ received_in s earlier m n

-- ---- laws

-- an event apart from a pending firing leaves what it finds
abbrev pub EventsLeaveTheApart : Type 0
EventsLeaveTheApart = (s : Subject) → LeadsToStates s → (budget : ℕ) (g : Situation) → IsLegal s g → (m : Path) (n : ℕ) → Contains g.pending (pair m n)
    → (e : Event) → Applies s budget g e → IsApartFrom m e → FindsTheSame s m n g (next s budget g e)

-- and so do any number of them
abbrev pub ManyLeaveTheApart : Type 0
ManyLeaveTheApart = (s : Subject) → LeadsToStates s → (budget : ℕ) (g : Situation) → IsLegal s g → (m : Path) (n : ℕ) → Contains g.pending (pair m n)
    → (events : List Event) → Goes s budget g events → AllByRecursion (IsApartFrom m) events → FindsTheSame s m n g (after_events s budget g events)

-- while a firing is pending, every event that applies and is not that firing is apart from it, or a fault
abbrev pub EventsAreApart : Type 0
EventsAreApart = (s : Subject) (budget : ℕ) (g : Situation) → IsLegal s g → (m : Path) (n : ℕ) → Contains g.pending (pair m n)
    → (e : Event) → Applies s budget g e → IsOther m n e → IsApartOrFault m e

-- so from where a firing is pending until it fires, a run leaves what it finds
abbrev pub RunsLeaveTheApart : Type 0
RunsLeaveTheApart = (s : Subject) → LeadsToStates s → (budget : ℕ) (before more : List Event) → IsRun s budget (before ++ more) → (m : Path) (n : ℕ) → Contains (situation s budget before).pending (pair m n)
    → AllByRecursion (IsOther m n) more → FindsTheSame s m n (situation s budget before) (situation s budget (before ++ more))
