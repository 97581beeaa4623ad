-- Firings, the start, and guards, in a situation (ISO/IEC 9074).
use Rattle.std.specs.Prelude.{ℕ, Bool, true, false, nat_eq, if◌then◌else◌, List, [], option_map, Option, Some, None, Ok, Err}
use Rattle.std.specs.List.{list_any}
use Rattle.std.specs.FinMap as map
use Rattle.pascal_values.specs.declared.fault.Fault.{Fault}
use Rattle.pascal_values.specs.declared.value.Value.{Value}
use Rattle.estelle_model.specs.declared.effect.Out.{Out}
use Rattle.estelle_model.specs.declared.job.Guard.{Guard}
use Rattle.estelle_model.specs.declared.job.Guard.TheVariants.{Off}
use Rattle.estelle_tree.specs.Paths.{Path, path_cmp}
use Rattle.estelle_model.specs.Core.{Instance}
use Rattle.estelle_model.specs.Stops.{told}
use Rattle.estelle_model.specs.Steps.{StepResult}
use Rattle.estelle_model.specs.Blocks.{fresh}
use Rattle.estelle_model.specs.Transitions.{Transition, When}
use Rattle.estelle_model.specs.Subject.{Subject, body, transition, types_of_variables, new_instance}
use Rattle.estelle_model.specs.Situation.{Situation, Acting, on_situation}
use Rattle.estelle_model.specs.Queues.{Found, NotNeeded, Head, Absent, found, is_named, received, without_head}
use Rattle.estelle_model.specs.Clauses.{fire_step, start_step, guard_step, answered}

-- ---- firings

-- what a firing or the start comes to
pub data Firing : Type 0 where
  -- the situation after it, its outputs in order, the numbers of the interactions that it dropped, rising, and the units left
  Ran : (after : Situation) (outs : List Out) (drops : List ℕ) (left : ℕ) → Firing
  Failed : (kind : Fault) (left : ℕ) → Firing
  -- there is no such transition, or its interaction is not there
  Undefined : Firing

-- a situation as a block finds it
abbrev pub begun : Situation → Acting
begun g = record { situation = g; outs = []; drops = [] }

abbrev pub done : StepResult Acting (Unit {0}) → Firing
done (Ok r) = Ran r.1.state.situation r.1.state.outs r.1.state.drops r.1.left
done (Err e) = Failed (told e.0) e.1

-- without the timer of a transition
abbrev pub untimed : Path → ℕ → Firing → Firing
untimed p n (Ran g outs drops left) = Ran (record g { timers = map.remove g.timers (record { path = p; trans = n }) }) outs drops left
untimed p n f = f

-- with the head of the queue taken out
abbrev pub taken : Subject → Situation → Path → Option When → Situation
taken s g p None = g
taken s g p (Some w) = record g { mail = without_head s g (record { path = p; ip = w.ip }) g.mail }

abbrev pub fire_with : Subject → ℕ → Situation → Path → Transition → List Value → Firing
fire_with s budget g p t values = done (fire_step Acting on_situation s p t values (fresh (begun (taken s g p t.when)) budget))

abbrev pub fire_found : Subject → ℕ → Situation → Path → Transition → Found → Firing
fire_found s budget g p t NotNeeded = fire_with s budget g p t []
fire_found s budget g p t (Head i) = fire_with s budget g p t i.values
fire_found s budget g p t Absent = Undefined

abbrev pub fire_of : Subject → ℕ → Situation → Path → Option Transition → Firing
fire_of s budget g p None = Undefined
fire_of s budget g p (Some t) = fire_found s budget g p t (received s g p t.when)

-- the transition with a number of an instance, if there is one
abbrev pub transition_at : Subject → ℕ → Option Instance → Option Transition
transition_at s n None = None
transition_at s n (Some i) = transition s i.body n

-- a transition of an instance is fired: it takes the head of its queue, executes its block with so many units, goes to its next state, and its timer is dropped
abbrev pub fire : Subject → ℕ → Situation → Path → ℕ → Firing
fire s budget g p n = untimed p n (fire_of s budget g p (transition_at s n (map.get g.core.instances p)))

-- ---- the start

-- the specification's own instance as it is made
abbrev pub root : Subject → Option Instance
root s = option_map (λ b. new_instance s 0 b []) (body s 0)

abbrev pub alone : Option Instance → map.FinMap path_cmp Instance
alone None = map.empty
alone (Some i) = map.insert map.empty [] i

-- that instance alone, with nothing linked, waiting or selected
abbrev pub bare : Subject → Situation
bare s = record {
  core = record { instances = alone (root s); links = []; types = types_of_variables s };
  mail = [];
  made = 0;
  timers = map.empty;
  now = 0;
  pending = [];
}

-- the specification is initialized, with so many units
abbrev pub start : Subject → ℕ → Firing
start s budget = done (start_step Acting on_situation s (fresh (begun (bare s)) budget))

-- ---- guards

abbrev pub is_in : List ℕ → Option ℕ → Bool
is_in states None = false
is_in states (Some state) = list_any (nat_eq state) states

-- the instance is in one of the transition's states, or the transition names none
abbrev pub is_in_state : Option (List ℕ) → Option ℕ → Bool
is_in_state None state = true
is_in_state (Some states) state = is_in states state

abbrev pub guard_with : Subject → ℕ → Situation → Path → Transition → Bool → List Value → Guard
guard_with s budget g p t timed values = answered (guard_step Acting on_situation s p t values timed (fresh (begun g) budget))

abbrev pub guard_found : Subject → ℕ → Situation → Path → Transition → Bool → Found → Guard
guard_found s budget g p t timed NotNeeded = guard_with s budget g p t timed []
guard_found s budget g p t timed (Head i) = if is_named i t.when then guard_with s budget g p t timed i.values else Off
guard_found s budget g p t timed Absent = Off

abbrev pub guard_of : Subject → ℕ → Situation → Path → Bool → Instance → Option Transition → Guard
guard_of s budget g p timed i None = Off
guard_of s budget g p timed i (Some t) = if is_in_state t.from i.state then guard_found s budget g p t timed (found s g p t.when) else Off

abbrev pub guard_at : Subject → ℕ → Situation → Path → ℕ → Option Instance → Guard
guard_at s budget g p n None = Off
guard_at s budget g p n (Some i) = guard_of s budget g p (map.contains_key g.timers (record { path = p; trans = n })) i (transition s i.body n)

-- whether a transition of an instance is enabled, with the bounds of its delay: it is in its state, its interaction is at the head of the queue, and its `provided`, which is evaluated only then, is true; there are so many units for `provided` and the delay together
abbrev pub guard : Subject → ℕ → Situation → Path → ℕ → Guard
guard s budget g p n = guard_at s budget g p n (map.get g.core.instances p)
