-- The choices that the executor makes, by a chooser: of all runs, the one that it runs.
use Rattle.std.specs.Prelude.{◌≡◌, ◌⊎◌, ℕ, ◌<◌, ◌≤◌, max, nat_lt, Bool, true, false, not, ◌&&◌, ◌||◌, if◌then◌else◌, IsTrue, List, [], ◌∷◌, ◌++◌, length, drop, filter, unwrap_or, Option, Some, None}
use Rattle.std.specs.List.{list_any, range_with_len}
use Rattle.std.specs.FinMap as map
use Rattle.std.specs.Str.{bytes_eq}
use Rattle.std.specs.declared.cmp.Ordering.TheVariants.{Less}
use Rattle.pascal_values.specs.declared.fault.Fault as fault
use Rattle.estelle_tree.specs.declared.transition.Pair.{Pair}
use Rattle.estelle_model.specs.declared.event.Event.{Event}
use Rattle.estelle_model.specs.declared.event.Event.TheVariants.{Start, Select, Fire, Fault}
use Rattle.estelle_model.specs.declared.event.End.{End}
use Rattle.estelle_model.specs.declared.event.End.TheVariants as end
use Rattle.estelle_tree.specs.Paths.{Path, path_cmp, is_inside}
use Rattle.estelle_model.specs.Core.{Instance}
use Rattle.estelle_model.specs.Subject.{Subject, transitions}
use Rattle.estelle_model.specs.Situation.{Situation}
use Rattle.estelle_model.specs.Firing.{guard, start}
use Rattle.estelle_model.specs.Attributes.{IsSystem, IsProcess, IsActivity, is_empty}
use Rattle.estelle_tree.specs.Timers.{pair, next_due, last_moment}
use Rattle.estelle_model.specs.Delays.{is_on, has_delays, may, renew}
use Rattle.estelle_model.specs.Choosers.{Draw, Picks}
use Rattle.estelle_model.specs.Selection.{has_priority, paths, children}
use Rattle.estelle_model.specs.Runs.{IsIdle, IsFirstFault, next, started, situation}
use Rattle.estelle_model.specs.Ends.{fires, last_event, IsFault, IsDead}

-- ---- what is kept beside the events

pub record Kept (C : Type 0) : Type 0 where
  -- the chooser as the picks so far leave it
  pub chooser : C
  -- the moment of the last selection or of the last wait for the clock, whichever came later
  pub known : ℕ
  -- how many events there were at the last wait; 0 before the first
  pub waited : ℕ
  -- the moment that the clock tells, if it tells one
  pub clock : Option ℕ

-- a clock that is asked for a moment no earlier than this one may answer so
abbrev pub MayAnswer : Option ℕ → ℕ → ℕ → Type 0
MayAnswer None earliest now = earliest ≤ now
MayAnswer (Some moment) earliest now = now ≡ max moment earliest

-- what a clock tells after a wait that it answered so
abbrev pub told_after : Option ℕ → ℕ → Option ℕ
told_after None now = None
told_after (Some moment) now = Some now

-- ---- which system selects

-- an output came to an instance at or below the system
abbrev pub arrives : Path → Situation → Situation → Bool
arrives system before after = list_any (λ w. nat_lt before.made w.item.number && is_inside system w.at.path) after.mail

-- what an event leaves of a system's wait for a selection
abbrev pub awaits_after : Path → Situation → Situation → Event → Bool → Bool
awaits_after system before after (Start outs drops) waits = true
awaits_after system before after (Select other now takes) waits = if bytes_eq other system then false else waits
awaits_after system before after (Fire m n outs drops) waits = is_inside system m || (arrives system before after || waits)
awaits_after system before after (Fault m n kind) waits = waits

abbrev pub awaits_from : Subject → ℕ → Path → Situation → Bool → List Event → Bool
awaits_from s budget system g waits [] = waits
awaits_from s budget system g waits (e ∷ es) = awaits_from s budget system (next s budget g e) (awaits_after system g (next s budget g e) e waits) es

-- it has not selected yet, or since then one of its instances fired, or an output came to one
abbrev pub awaits : Subject → ℕ → Path → List Event → Bool
awaits s budget system [] = false
awaits s budget system (e ∷ es) = awaits_from s budget system (started s (start s budget)) true es

abbrev pub selects : Path → Event → Bool
selects system (Select other now takes) = bytes_eq other system
selects system _ = false

-- the clock was waited for after its last selection
abbrev pub awaits_clock : Path → ℕ → List Event → Bool
awaits_clock system waited events = nat_lt 0 waited && not (list_any (selects system) (drop waited events))

-- a system with nothing pending is due
pub record IsDue (s : Subject) (budget : ℕ) (events : List Event) (waited : ℕ) (system : Path) : Type 0 where
  pub is_system : IsSystem s (situation s budget events) system
  pub idle : IsIdle (situation s budget events) system
  pub awaits : IsTrue (awaits s budget system events || awaits_clock system waited events)

-- the first in the order of paths
pub record IsFirstDue (s : Subject) (budget : ℕ) (events : List Event) (waited : ℕ) (system : Path) : Type 0 where
  pub due : IsDue s budget events waited system
  pub first : (other : Path) → path_cmp other system ≡ Less → IsDue s budget events waited other → ⊥

abbrev pub NoneDue : Subject → ℕ → List Event → ℕ → Type 0
NoneDue s budget events waited = (system : Path) → IsDue s budget events waited system → ⊥

-- ---- what it selects

-- the numbers of the transitions of an instance, in their order
abbrev pub numbers_of : Subject → Option Instance → List ℕ
numbers_of s None = []
numbers_of s (Some i) = range_with_len 1 (length (transitions s i.body))

-- of these, all that may be selected are counted
abbrev pub counted : Subject → ℕ → Situation → Path → List ℕ
counted s budget g m = filter (may s budget g m) (numbers_of s (map.get g.core.instances m))

-- of the counted ones, those over which none has priority
abbrev pub offered : Subject → ℕ → Situation → Path → List ℕ
offered s budget g m = filter (λ n. not (list_any (λ k. has_priority s g m k n) (counted s budget g m))) (counted s budget g m)

-- at or below an instance some transition may be selected
abbrev pub is_able : Subject → ℕ → Situation → Path → Bool
is_able s budget g m = list_any (λ q. is_inside m q && not (is_empty (counted s budget g q))) (paths g)

-- the children at or below which some may
abbrev pub able_children : Subject → ℕ → Situation → Path → List Path
able_children s budget g m = filter (is_able s budget g) (children g m)

mutual
  -- from an instance downwards the chooser picks these transitions, and is left so
  pub data Chosen {C : Type 0} (draw : Draw C) (s : Subject) (budget : ℕ) (g : Situation) : Path → C → List Pair → C → Type 0 where
    -- one of those that the instance offers
    own : (m : Path) (c : C) (n : ℕ) (rest : C) → Picks draw c (offered s budget g m) n rest → Chosen draw s budget g m c (pair m n ∷ []) rest
    -- where it has none, of a process what is chosen of each child
    process : (m : Path) (c : C) (all : List Pair) (rest : C) → counted s budget g m ≡ [] → IsProcess s g m
        → ChosenOfEach draw s budget g (children g m) c all rest → Chosen draw s budget g m c all rest
    -- of an activity what is chosen of one child that is able
    activity : (m : Path) (c : C) (k : Path) (after : C) (some : List Pair) (rest : C) → counted s budget g m ≡ [] → IsActivity s g m
        → Picks draw c (able_children s budget g m) k after → Chosen draw s budget g k after some rest → Chosen draw s budget g m c some rest
    -- and nothing where none is
    quiet : (m : Path) (c : C) → counted s budget g m ≡ [] → IsActivity s g m → able_children s budget g m ≡ [] → Chosen draw s budget g m c [] c

  -- of these instances, one after another
  pub data ChosenOfEach {C : Type 0} (draw : Draw C) (s : Subject) (budget : ℕ) (g : Situation) : List Path → C → List Pair → C → Type 0 where
    none : (c : C) → ChosenOfEach draw s budget g [] c [] c
    more : (m : Path) (ms : List Path) (c : C) (some : List Pair) (after : C) (others : List Pair) (rest : C)
        → Chosen draw s budget g m c some after → ChosenOfEach draw s budget g ms after others rest → ChosenOfEach draw s budget g (m ∷ ms) c (some ++ others) rest

-- ---- the clock

-- the moment of a selection: what the clock answers; without a delay it is not asked
abbrev pub IsMomentBy : Bool → Option ℕ → ℕ → ℕ → Type 0
IsMomentBy true clock known now = MayAnswer clock known now
IsMomentBy false clock known now = now ≡ 0

abbrev pub IsMoment : Subject → Option ℕ → ℕ → ℕ → Type 0
IsMoment s = IsMomentBy (has_delays s)

-- the clock is waited for until the first moment at which a transition with a timer may fire, or the last one that is known
abbrev pub wait_until : Situation → ℕ → ℕ
wait_until g known = max (unwrap_or (next_due g.timers) last_moment) known

-- nothing is due and nothing is pending, but some transition is enabled, for which the clock is waited
pub record IsWaiting (s : Subject) (budget : ℕ) (events : List Event) (waited : ℕ) : Type 0 where
  pub delays : IsTrue (has_delays s)
  pub none_due : NoneDue s budget events waited
  pub idle : (situation s budget events).pending ≡ []
  pub path : Path
  pub trans : ℕ
  pub enabled : IsTrue (is_on (guard s budget (situation s budget events) path trans))

-- ---- the steps

module _ {C : Type 0} (draw : Draw C) (s : Subject) (budget : ℕ) where
  -- the first due system selects
  pub record SelectIsPlanned (before : List Event) (kept : Kept C) (system : Path) (now : ℕ) (takes : List Pair) (rest : C) : Type 0 where
    pub due : IsFirstDue s budget before kept.waited system
    pub moment : IsMoment s kept.clock kept.known now
    pub chosen : Chosen draw s budget (renew s budget (situation s budget before) system now) system kept.chooser takes rest

  -- no system is due, and of the pending firings the chooser picks this one
  pub record FiringIsPlanned (before : List Event) (kept : Kept C) (m : Path) (n : ℕ) (rest : C) : Type 0 where
    pub none_due : NoneDue s budget before kept.waited
    pub picked : Picks draw kept.chooser (situation s budget before).pending (pair m n) rest

  -- a guard of the first due system faults
  pub record GuardFaultIsPlanned (before : List Event) (kept : Kept C) (m : Path) (n : ℕ) (kind : fault.Fault) (rest : C) : Type 0 where
    pub system : Path
    pub due : IsFirstDue s budget before kept.waited system
    pub fault : IsFirstFault s budget (situation s budget before) system m n kind
    pub undrawn : rest ≡ kept.chooser

  -- this event is next, and the chooser is left so
  abbrev pub IsPlanned : List Event → Kept C → Event → C → Type 0
  IsPlanned before kept (Start outs drops) rest = ⊥
  IsPlanned before kept (Select system now takes) rest = SelectIsPlanned before kept system now takes rest
  IsPlanned before kept (Fire m n outs drops) rest = FiringIsPlanned before kept m n rest
  IsPlanned before kept (Fault m n kind) rest = GuardFaultIsPlanned before kept m n kind rest ⊎ FiringIsPlanned before kept m n rest

-- the moment of a selection is known
abbrev pub known_after : Event → ℕ → ℕ
known_after (Select system now takes) known = now
known_after _ known = known

-- what is kept after an event
abbrev pub kept_after : {C : Type 0} → Event → C → Kept C → Kept C
kept_after e rest kept = record kept { chooser = rest; known = known_after e kept.known }

-- before the first step
abbrev pub kept_first : {C : Type 0} → Option ℕ → C → Kept C
kept_first clock chooser = record { chooser = chooser; known = 0; waited = 0; clock = clock }

-- from a clock that tells this moment, or none, and from this chooser the steps give these events, and this is kept then; each comes below the limit of firings
pub data Reaches {C : Type 0} (draw : Draw C) (s : Subject) (budget turns : ℕ) (clock : Option ℕ) (chooser : C) : List Event → Kept C → Type 0 where
  begins : (e : Event) → Reaches draw s budget turns clock chooser (e ∷ []) (kept_first clock chooser)
  goes_on : (before : List Event) (kept : Kept C) (e : Event) (rest : C) → Reaches draw s budget turns clock chooser before kept → fires before < turns → IsPlanned draw s budget before kept e rest
      → Reaches draw s budget turns clock chooser (before ++ e ∷ []) (kept_after e rest kept)
  waits : (events : List Event) (kept : Kept C) (now : ℕ) → Reaches draw s budget turns clock chooser events kept → fires events < turns → IsWaiting s budget events kept.waited
      → MayAnswer kept.clock (wait_until (situation s budget events) kept.known) now
      → Reaches draw s budget turns clock chooser events (record kept { known = now; waited = length events; clock = told_after kept.clock now })

-- ---- the end

-- nothing is left to do
pub record EndsDead (s : Subject) (budget turns : ℕ) (events : List Event) (waited : ℕ) : Type 0 where
  pub below : fires events < turns
  pub none_due : NoneDue s budget events waited
  pub dead : IsDead s budget (situation s budget events)

-- the clock fails where it is asked: for a selection, or in a wait
pub record EndsByClock (s : Subject) (budget turns : ℕ) (events : List Event) (waited : ℕ) : Type 0 where
  pub below : fires events < turns
  pub delays : IsTrue (has_delays s)
  pub asked : ((system : Path) × IsDue s budget events waited system) ⊎ IsWaiting s budget events waited

abbrev pub IsPlannedEnd : Subject → ℕ → ℕ → List Event → ℕ → End → Type 0
IsPlannedEnd s budget turns events waited end.Dead = EndsDead s budget turns events waited
IsPlannedEnd s budget turns events waited end.Turns = fires events ≡ turns
IsPlannedEnd s budget turns events waited end.Clock = EndsByClock s budget turns events waited
IsPlannedEnd s budget turns events waited (end.Faulted kind) = IsFault (last_event events) kind

-- the choices of this chooser give these events and this end
pub record IsScheduled {C : Type 0} (draw : Draw C) (s : Subject) (budget turns : ℕ) (clock : Option ℕ) (chooser : C) (events : List Event) (e : End) : Type 0 where
  pub kept : Kept C
  pub reached : Reaches draw s budget turns clock chooser events kept
  pub ends : IsPlannedEnd s budget turns events kept.waited e
