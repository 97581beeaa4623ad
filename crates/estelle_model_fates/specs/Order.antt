-- In which order interactions leave a queue: first in, first out (ISO/IEC 9074: queues, attach, detach).
use Rattle.std.specs.Prelude.{◌≡◌, ◌<◌, ℕ, false, List, [], ◌∷◌, ◌++◌, map as each, option_map, Option, Some, None, Ok, Err, slice_get, Contains}
use Rattle.std.specs.FinMap as map
use Rattle.pascal_values.specs.declared.value.Value.{Value}
use Rattle.estelle_tree.specs.declared.link.IpAddr.{IpAddr}
use Rattle.estelle_tree.specs.Paths.{Path}
use Rattle.estelle_tree.specs.Links.{same_ip, bottom}
use Rattle.estelle_tree.specs.Queues.{waiting, moved, brought_to}
use Rattle.estelle_model.specs.declared.event.Event.{Event}
use Rattle.estelle_model.specs.declared.event.Event.TheVariants.{Start, Fire}
use Rattle.estelle_model.specs.States.{Offers}
use Rattle.estelle_model.specs.Steps.{StepResult}
use Rattle.estelle_model.specs.Blocks.{fresh}
use Rattle.estelle_model.specs.Clauses.{fire_step, start_step}
use Rattle.estelle_model.specs.Effects.{StatementEffect, Attach, Detach}
use Rattle.estelle_model.specs.Transitions.{Transition}
use Rattle.estelle_model.specs.Subject.{Subject}
use Rattle.estelle_model.specs.Situation.{Waiting, Situation, Acting, on_situation}
use Rattle.estelle_model.specs.Queues.{Found, Head, queue, received}
use Rattle.estelle_model.specs.Firing.{begun, taken, transition_at, start, bare}
use Rattle.estelle_model.specs.Runs.{next, IsRun, started, situation_at}
use Rattle.estelle_model_legality.specs.Instances.{LeadsToStates}
use Rattle.estelle_model_fates.specs.Fates.{numbers, consumed_by, Consumed, HasFate}

-- ---- what is moved

-- the numbers of what an effect moves to another interaction point
abbrev pub moves : StatementEffect → Situation → List ℕ
moves (Attach upper lower) g = numbers (waiting upper g.mail)
moves (Detach upper) g = numbers (waiting (bottom g.core.links upper) g.mail)
moves _ g = []

-- a block that acts, with the numbers of what it has moved so far
pub record Watched : Type 0 where
  pub acting : Acting
  pub moved : List ℕ

-- it acts as it does, and what it moves is noted
abbrev pub on_watched : Offers Watched
on_watched = record {
  core = λ w. w.acting.situation.core;
  does = λ e w. record { acting = on_situation.does e w.acting; moved = w.moved ++ moves e w.acting.situation };
  keeps = λ p change w. record w { acting = on_situation.keeps p change w.acting };
}

-- a situation as a block finds it, with nothing moved
abbrev pub watched : Situation → Watched
watched g = record { acting = begun g; moved = [] }

-- what has been moved where the block ran
abbrev pub moved_of : StepResult Watched (Unit {0}) → List ℕ
moved_of (Ok r) = r.1.state.moved
moved_of (Err e) = []

-- the values that a firing receives
abbrev pub values_of : Found → List Value
values_of (Head i) = i.values
values_of _ = []

-- the numbers of what a transition of an instance moves when it is fired
abbrev pub moved_with : Subject → ℕ → Situation → Path → Option Transition → List ℕ
moved_with s budget g p None = []
moved_with s budget g p (Some t) = moved_of (fire_step Watched on_watched s p t (values_of (received s g p t.when)) (fresh (watched (taken s g p t.when)) budget))

-- the numbers of what an event moves
abbrev pub moved_by : Subject → ℕ → Situation → Event → List ℕ
moved_by s budget g (Start outs drops) = moved_of (start_step Watched on_watched s (fresh (watched g) budget))
moved_by s budget g (Fire m n outs drops) = moved_with s budget g m (transition_at s n (map.get g.core.instances m))
moved_by s budget g _ = []

-- the numbers of what the events from a situation on move
abbrev pub moved_from : Subject → ℕ → Situation → List Event → List ℕ
moved_from s budget g [] = []
moved_from s budget g (e ∷ es) = moved_by s budget g e ++ moved_from s budget (next s budget g e) es

-- all numbers that are moved in a run
abbrev pub moved_in : Subject → ℕ → List Event → List ℕ
moved_in s budget [] = []
moved_in s budget (e ∷ es) = moved_by s budget (bare s) e ++ moved_from s budget (started s (start s budget)) es

-- ---- order

-- no attach and no detach moves the output
abbrev pub IsNeverMoved : Subject → ℕ → List Event → ℕ → Type 0
IsNeverMoved s budget events i = Contains (moved_in s budget events) i → ⊥

-- after so many events it waits in the queue of an interaction point
abbrev pub IsInQueue : Subject → ℕ → List Event → ℕ → IpAddr → ℕ → Type 0
IsInQueue s budget events x a i = Contains (numbers (queue s (situation_at s budget events x) a)) i

-- the interaction point at which a transition of an instance receives
abbrev pub point_of_when : Path → Option Transition → Option IpAddr
point_of_when p None = None
point_of_when p (Some t) = option_map (λ w. record { path = p; ip = w.ip }) t.when

-- the interaction point at which a firing receives
abbrev pub point_received : Subject → Situation → Event → Option IpAddr
point_received s g (Fire m n outs drops) = point_of_when m (transition_at s n (map.get g.core.instances m))
point_received s g _ = None

-- the event with this number consumes the output, from the queue of an interaction point
pub record IsTakenFrom (s : Subject) (budget : ℕ) (events : List Event) (k : ℕ) (a : IpAddr) (j : ℕ) : Type 0 where
  pub event : Event
  pub there : slice_get events k ≡ Some event
  pub consumed : consumed_by s (situation_at s budget events k) event ≡ j ∷ []
  pub from : point_received s (situation_at s budget events k) event ≡ Some a

-- ---- laws

-- What was never moved is not overtaken: where a later output is taken from a queue in which it has waited at any time, an earlier firing consumed it.
abbrev pub NoneIsOvertaken : Type 0
NoneIsOvertaken = (s : Subject) → LeadsToStates s → (budget : ℕ) (events : List Event) → IsRun s budget events → (i j : ℕ) → i < j → IsNeverMoved s budget events i
    → (x : ℕ) (a : IpAddr) → IsInQueue s budget events x a i → (k : ℕ) → IsTakenFrom s budget events k a j → (k' : ℕ) × (k' < k) × HasFate s budget events i (Consumed k')

-- Of two outputs that were put into one queue and never moved, where the later one was consumed, an earlier firing consumed the earlier one.
abbrev pub AreFirstInFirstOut : Subject → ℕ → List Event → Type 0
AreFirstInFirstOut s budget events = (i j : ℕ) → i < j → IsNeverMoved s budget events i → IsNeverMoved s budget events j
    → (a : IpAddr) (x y : ℕ) → IsInQueue s budget events x a i → IsInQueue s budget events y a j → (k : ℕ) → HasFate s budget events j (Consumed k) → (k' : ℕ) × (k' < k) × HasFate s budget events i (Consumed k')

-- so it is in every run
abbrev pub FirstInFirstOut : Type 0
FirstInFirstOut = (s : Subject) → LeadsToStates s → (budget : ℕ) (events : List Event) → IsRun s budget events → AreFirstInFirstOut s budget events

-- what is moved comes, in its order, after what waited where it goes
abbrev pub MovesKeepOrder : Type 0
MovesKeepOrder = (a b : IpAddr) (mail : List Waiting) → same_ip a b ≡ false → waiting b (moved a b mail) ≡ waiting b mail ++ each (brought_to b) (waiting a mail)
