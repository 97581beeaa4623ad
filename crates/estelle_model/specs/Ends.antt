-- How runs end.
use Rattle.std.specs.Prelude.{◌≡◌, ℕ, ◌<◌, Bool, true, false, List, [], ◌∷◌, count_by, Option, Some, None}
use Rattle.pascal_values.specs.declared.fault.Fault as fault
use Rattle.estelle_model.specs.declared.event.Event.{Event}
use Rattle.estelle_model.specs.declared.event.Event.TheVariants.{Fire, Fault}
use Rattle.estelle_model.specs.declared.event.End.{End}
use Rattle.estelle_model.specs.declared.event.End.TheVariants as end
use Rattle.estelle_model.specs.declared.job.Guard.TheVariants.{Off}
use Rattle.estelle_tree.specs.Paths.{Path}
use Rattle.estelle_model.specs.Subject.{Subject}
use Rattle.estelle_model.specs.Situation.{Situation}
use Rattle.estelle_model.specs.Firing.{guard}
use Rattle.estelle_model.specs.Runs.{situation}

-- ---- the last event

abbrev pub last_event : List Event → Option Event
last_event [] = None
last_event (e ∷ []) = Some e
last_event (e ∷ f ∷ es) = last_event (f ∷ es)

-- there is an event, and it is no fault
abbrev pub IsNoFault : Option Event → Type 0
IsNoFault None = ⊥
IsNoFault (Some (Fault m n kind)) = ⊥
IsNoFault (Some _) = Unit {0}

-- it is a fault of this kind
abbrev pub IsFault : Option Event → fault.Fault → Type 0
IsFault (Some (Fault m n k)) kind = k ≡ kind
IsFault _ kind = ⊥

-- ---- which ends may follow

-- deadlock: nothing is pending, and no transition of any instance is enabled
pub record IsDead (s : Subject) (budget : ℕ) (g : Situation) : Type 0 where
  pub pending : g.pending ≡ []
  pub off : (m : Path) (n : ℕ) → guard s budget g m n ≡ Off

-- the events of a run may end so
abbrev pub Closes : Subject → ℕ → List Event → End → Type 0
Closes s budget events end.Dead = IsNoFault (last_event events) × IsDead s budget (situation s budget events)
Closes s budget events end.Turns = IsNoFault (last_event events)
Closes s budget events end.Clock = IsNoFault (last_event events)
Closes s budget events (end.Faulted kind) = IsFault (last_event events) kind

-- ---- under a limit of firings

abbrev pub is_fire : Event → Bool
is_fire (Fire m n outs drops) = true
is_fire _ = false

-- how many firings there were
abbrev pub fires : List Event → ℕ
fires = count_by is_fire

-- the run stops so under this limit
abbrev pub Stops : Subject → ℕ → ℕ → List Event → End → Type 0
Stops s budget turns events end.Dead = Closes s budget events end.Dead × (fires events < turns)
Stops s budget turns events end.Turns = Closes s budget events end.Turns × (fires events ≡ turns)
Stops s budget turns events end.Clock = Closes s budget events end.Clock × (fires events < turns)
Stops s budget turns events (end.Faulted kind) = Closes s budget events (end.Faulted kind)
