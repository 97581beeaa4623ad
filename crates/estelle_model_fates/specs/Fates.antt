-- What becomes of each output of a run (ISO/IEC 9074: interactions): exactly one thing.
use Rattle.std.specs.Prelude.{◌≡◌, ◌≤◌, ◌<◌, ◌⊎◌, ℕ, suc, nat_eq, if◌then◌else◌, List, [], ◌∷◌, ◌++◌, length, map as each, filter}
use Rattle.std.specs.FinMap as map
use Rattle.estelle_model.specs.declared.effect.Out.{Out}
use Rattle.estelle_model.specs.declared.event.Event.{Event}
use Rattle.estelle_model.specs.declared.event.Event.TheVariants.{Start, Fire}
use Rattle.estelle_model.specs.Subject.{Subject}
use Rattle.estelle_model.specs.Situation.{Waiting, Situation}
use Rattle.estelle_model.specs.Queues.{Found, Head}
use Rattle.estelle_model.specs.Firing.{transition_at, start, bare}
use Rattle.estelle_model.specs.Jobs.{received_by}
use Rattle.estelle_model.specs.Runs.{next, IsRun, started, situation}

-- ---- what an event does to interactions, by their numbers

-- the outputs of an event, in the order in which they were made
abbrev pub outs_of : Event → List Out
outs_of (Start outs drops) = outs
outs_of (Fire m n outs drops) = outs
outs_of _ = []

-- the outputs take the next numbers; these are lost
abbrev pub lost_after : ℕ → List Out → List ℕ
lost_after made [] = []
lost_after made (o ∷ outs) = if o.lost then suc made ∷ lost_after (suc made) outs else lost_after (suc made) outs

-- the numbers of what an event drops
abbrev pub dropped_by : Event → List ℕ
dropped_by (Start outs drops) = drops
dropped_by (Fire m n outs drops) = drops
dropped_by _ = []

-- the number of what is found
abbrev pub number_of : Found → List ℕ
number_of (Head i) = i.number ∷ []
number_of _ = []

-- a firing consumes what it receives
abbrev pub consumed_by : Subject → Situation → Event → List ℕ
consumed_by s g (Fire m n outs drops) = number_of (received_by s g m (transition_at s n (map.get g.core.instances m)))
consumed_by s g _ = []

-- the numbers of what waits
abbrev pub numbers : List Waiting → List ℕ
numbers = each (λ w. w.item.number)

-- ---- fates

-- what may become of an output; events are counted from 0
pub data Fate : Type 0 where
  -- its way met no connection
  Lost : (event : ℕ) → Fate
  -- it waits at the end of the run
  Waits : Fate
  -- a firing received it
  Consumed : (event : ℕ) → Fate
  -- the instance where it waited was released
  Dropped : (event : ℕ) → Fate

-- this fate, as often as the number is among these
abbrev pub times : ℕ → Fate → List ℕ → List Fate
times i fate ns = each (λ n. fate) (filter (nat_eq i) ns)

-- what an event makes of an output, in the situation before it
abbrev pub fates_by : Subject → Situation → ℕ → Event → ℕ → List Fate
fates_by s g k e i = times i (Consumed k) (consumed_by s g e) ++ times i (Dropped k) (dropped_by e) ++ times i (Lost k) (lost_after g.made (outs_of e))

-- what becomes of it from a situation on
abbrev pub fates_from : Subject → ℕ → Situation → ℕ → List Event → ℕ → List Fate
fates_from s budget g k [] i = times i Waits (numbers g.mail)
fates_from s budget g k (e ∷ es) i = fates_by s g k e i ++ fates_from s budget (next s budget g e) (suc k) es i

-- all that becomes of an output in a run
abbrev pub fates : Subject → ℕ → List Event → ℕ → List Fate
fates s budget [] i = []
fates s budget (e ∷ es) i = fates_by s (bare s) 0 e i ++ fates_from s budget (started s (start s budget)) 1 es i

-- just this becomes of it
abbrev pub HasFate : Subject → ℕ → List Event → ℕ → Fate → Type 0
HasFate s budget events i fate = fates s budget events i ≡ fate ∷ []

-- ---- laws

-- all outputs of a run, in order
abbrev pub outputs : List Event → List Out
outputs [] = []
outputs (e ∷ es) = outs_of e ++ outputs es

-- the outputs have the numbers from 1 on: there have been as many as the events of the run tell
abbrev pub OutputsAreCounted : Type 0
OutputsAreCounted = (s : Subject) (budget : ℕ) (events : List Event) → IsRun s budget events → (situation s budget events).made ≡ length (outputs events)

-- each output has one fate: once it is lost, or waits at the end, or is consumed, or is dropped
abbrev pub HaveOneFate : Subject → ℕ → List Event → Type 0
HaveOneFate s budget events = (i : ℕ) → 1 ≤ i → i ≤ (situation s budget events).made → (fate : Fate) × HasFate s budget events i fate

-- so it is in every run
abbrev pub OutputsHaveOneFate : Type 0
OutputsHaveOneFate = (s : Subject) (budget : ℕ) (events : List Event) → IsRun s budget events → HaveOneFate s budget events

-- and nothing becomes of a number that no output has
abbrev pub NoOthersHaveFates : Type 0
NoOthersHaveFates = (s : Subject) (budget : ℕ) (events : List Event) → IsRun s budget events → (i : ℕ) → (i ≡ 0) ⊎ ((situation s budget events).made < i) → fates s budget events i ≡ []
