-- Runs: the start, and then events that each apply to the situation before them.
use Rattle.std.specs.Prelude.{◌≡◌, ◌⊎◌, ℕ, ◌^◌, ◌<◌, ◌≤◌, Bool, ◌&&◌, nat_eq, if◌then◌else◌, IsTrue, List, [], ◌∷◌, ◌++◌, take, fold, Contains}
use Rattle.std.specs.Str.{bytes_eq}
use Rattle.std.specs.declared.cmp.Ordering.TheVariants.{Less}
use Rattle.pascal_values.specs.declared.fault.Fault as fault
use Rattle.estelle_model.specs.declared.effect.Out.{Out}
use Rattle.estelle_tree.specs.declared.transition.Pair.{Pair}
use Rattle.estelle_model.specs.declared.event.Event.{Event}
use Rattle.estelle_model.specs.declared.event.Event.TheVariants.{Start, Select, Fire, Fault}
use Rattle.estelle_model.specs.declared.job.Guard.TheVariants.{Faulted}
use Rattle.estelle_tree.specs.Paths.{Path, is_inside}
use Rattle.estelle_model.specs.Subject.{Subject}
use Rattle.estelle_model.specs.Situation.{Situation}
use Rattle.estelle_tree.specs.Timers.{pair, pair_cmp}
use Rattle.estelle_model.specs.Firing.{Firing, Ran, Failed, Undefined, guard, fire, start, bare}
use Rattle.estelle_model.specs.Attributes.{IsSystem}
use Rattle.estelle_model.specs.Delays.{renew}
use Rattle.estelle_model.specs.Selection.{Selects}

-- ---- what an event does

abbrev pub same_pair : Pair → Pair → Bool
same_pair p q = bytes_eq p.path q.path && nat_eq p.trans q.trans

-- without the first firing that is this one
abbrev pub without : Pair → List Pair → List Pair
without p [] = []
without p (q ∷ qs) = if same_pair p q then qs else q ∷ without p qs

-- the moment is set, the timers are renewed, and the selected firings are pending
abbrev pub selected : Subject → ℕ → Situation → Path → ℕ → List Pair → Situation
selected s budget g system now takes = record (renew s budget g system now) { pending = g.pending ++ takes }

-- the firing is made, and is no longer pending
abbrev pub fired : Pair → Situation → Firing → Situation
fired p g (Ran after outs drops left) = record after { pending = without p after.pending }
fired p g (Failed kind left) = g
fired p g Undefined = g

-- the situation after an event
abbrev pub next : Subject → ℕ → Situation → Event → Situation
next s budget g (Start outs drops) = g
next s budget g (Select system now takes) = selected s budget g system now takes
next s budget g (Fire m n outs drops) = fired (pair m n) g (fire s budget g m n)
next s budget g (Fault m n kind) = g

-- ---- when a system selects

-- no firing at or below the system is pending
abbrev pub IsIdle : Situation → Path → Type 0
IsIdle g system = (p : Pair) → Contains g.pending p → IsTrue (is_inside system p.path) → ⊥

-- no guard at or below the system faults
abbrev pub NoGuardFaults : Subject → ℕ → Situation → Path → Type 0
NoGuardFaults s budget g system = (m : Path) (n : ℕ) (kind : fault.Fault) → IsTrue (is_inside system m) → guard s budget g m n ≡ Faulted kind → ⊥

-- a system with nothing pending selects, at a moment no earlier than the last
pub record MaySelect (s : Subject) (budget : ℕ) (g : Situation) (system : Path) (now : ℕ) (takes : List Pair) : Type 0 where
  pub is_system : IsSystem s g system
  pub idle : IsIdle g system
  pub no_earlier : g.now ≤ now
  pub moment : now < 2 ^ 64
  pub sound : NoGuardFaults s budget g system
  pub selects : Selects s budget (renew s budget g system now) system takes

-- ---- when a transition fires

-- the firing ran, with just these outputs and drops
abbrev pub HasRun : List Out → List ℕ → Firing → Type 0
HasRun outs drops (Ran after outs' drops' left) = (outs' ≡ outs) × (drops' ≡ drops)
HasRun outs drops (Failed kind left) = ⊥
HasRun outs drops Undefined = ⊥

-- the firing came to this fault
abbrev pub HasFailed : fault.Fault → Firing → Type 0
HasFailed kind (Ran after outs drops left) = ⊥
HasFailed kind (Failed kind' left) = kind' ≡ kind
HasFailed kind Undefined = ⊥

-- a pending transition fires
pub record MayFire (s : Subject) (budget : ℕ) (g : Situation) (m : Path) (n : ℕ) (outs : List Out) (drops : List ℕ) : Type 0 where
  pub pending : Contains g.pending (pair m n)
  pub ran : HasRun outs drops (fire s budget g m n)

-- ---- faults

-- a pending firing faults
pub record FiringFaults (s : Subject) (budget : ℕ) (g : Situation) (m : Path) (n : ℕ) (kind : fault.Fault) : Type 0 where
  pub pending : Contains g.pending (pair m n)
  pub failed : HasFailed kind (fire s budget g m n)

-- the first guard of the system that faults, in the order of paths and then of transitions
pub record IsFirstFault (s : Subject) (budget : ℕ) (g : Situation) (system m : Path) (n : ℕ) (kind : fault.Fault) : Type 0 where
  pub inside : IsTrue (is_inside system m)
  pub faults : guard s budget g m n ≡ Faulted kind
  pub first : (m' : Path) (n' : ℕ) (kind' : fault.Fault) → IsTrue (is_inside system m') → pair_cmp (pair m' n') (pair m n) ≡ Less → guard s budget g m' n' ≡ Faulted kind' → ⊥

-- a guard faults where a system with nothing pending would select
pub record GuardFaults (s : Subject) (budget : ℕ) (g : Situation) (m : Path) (n : ℕ) (kind : fault.Fault) : Type 0 where
  pub system : Path
  pub is_system : IsSystem s g system
  pub idle : IsIdle g system
  pub first : IsFirstFault s budget g system m n kind

-- ---- which events apply

-- the event may come in this situation
abbrev pub Applies : Subject → ℕ → Situation → Event → Type 0
Applies s budget g (Start outs drops) = ⊥
Applies s budget g (Select system now takes) = MaySelect s budget g system now takes
Applies s budget g (Fire m n outs drops) = MayFire s budget g m n outs drops
Applies s budget g (Fault m n kind) = FiringFaults s budget g m n kind ⊎ GuardFaults s budget g m n kind

-- nothing follows a fault
abbrev pub IsLastIfFault : Event → List Event → Type 0
IsLastIfFault (Fault m n kind) es = es ≡ []
IsLastIfFault _ es = Unit {0}

-- from a situation on each event applies
abbrev pub Goes : Subject → ℕ → Situation → List Event → Type 0
Goes s budget g [] = Unit {0}
Goes s budget g (e ∷ es) = Applies s budget g e × IsLastIfFault e es × Goes s budget (next s budget g e) es

-- the first event is the start with its outputs and drops, or its fault, which is then the only event
abbrev pub Begins : Subject → ℕ → Firing → Event → List Event → Type 0
Begins s budget (Ran g outs drops left) (Start outs' drops') es = (outs' ≡ outs) × (drops' ≡ drops) × Goes s budget g es
Begins s budget (Failed kind left) (Fault m n kind') es = (m ≡ []) × (n ≡ 0) × (kind' ≡ kind) × (es ≡ [])
Begins s budget first e es = ⊥

-- these are the events of a run
abbrev pub IsRun : Subject → ℕ → List Event → Type 0
IsRun s budget [] = ⊥
IsRun s budget (e ∷ es) = Begins s budget (start s budget) e es

-- ---- the situation after the events of a run

-- from a situation on
abbrev pub after_events : Subject → ℕ → Situation → List Event → Situation
after_events s budget = fold (next s budget)

-- the situation that the start comes to; where it faults there is none
abbrev pub started : Subject → Firing → Situation
started s (Ran g outs drops left) = g
started s (Failed kind left) = bare s
started s Undefined = bare s

abbrev pub after_first : Subject → ℕ → Situation → List Event → Situation
after_first s budget g [] = g
after_first s budget g (e ∷ es) = after_events s budget g es

-- after all of them
abbrev pub situation : Subject → ℕ → List Event → Situation
situation s budget events = after_first s budget (started s (start s budget)) events

-- after the first i of them
abbrev pub situation_at : Subject → ℕ → List Event → ℕ → Situation
situation_at s budget events i = situation s budget (take i events)
