-- How a run goes on: by the start, a selection, a firing, or a wait for the clock.
use Rattle.std.specs.Prelude.{◌≡◌, ◌≤◌, ◌<◌, ◌^◌, ℕ, max, true, false, List, [], ◌∷◌, ◌++◌, map as each, length, Some, Contains}
use Rattle.std.specs.FinMap as map
use Rattle.estelle_tree.specs.declared.transition.Pair.{Pair}
use Rattle.estelle_tree.specs.Paths.{Path}
use Rattle.estelle_tree.specs.Timers.{pair, next_due}
use Rattle.estelle_model.specs.declared.event.Event.{Event}
use Rattle.estelle_model.specs.declared.event.Event.TheVariants.{Start, Select, Fire}
use Rattle.estelle_model.specs.declared.effect.Effect.{Effect}
use Rattle.estelle_model.specs.declared.image.Image.{Image}
use Rattle.estelle_model.specs.Subject.{Subject}
use Rattle.estelle_model.specs.Situation.{Situation, Acting}
use Rattle.estelle_model.specs.Firing.{begun, bare, start, fire, transition_at}
use Rattle.estelle_model.specs.Delays.{has_delays, renew}
use Rattle.estelle_model.specs.Choosers.{Draw}
use Rattle.estelle_model.specs.Runs.{NoGuardFaults, selected, without, situation}
use Rattle.estelle_model.specs.Jobs.{put, taken_by, IsPut}
use Rattle.estelle_model.specs.Schedule.{Kept, Chosen, IsMoment, SelectIsPlanned, NoneDue, IsWaiting, wait_until}
use Rattle.estelle_model_legality.specs.Instances.{LeadsToStates}
use Rattle.effect_log.specs.Putting.{arrivals}
use Rattle.situation_steps.specs.declared.systems.System.{System}
use Rattle.situation_steps.specs.declared.systems.Time.{Time}
use Rattle.situation_steps.specs.Systems.{systems_of, NoneIsDue, IsFirstDueAt, first_kept, after_selection, after_firing, after_wait}
use Rattle.situation_steps.specs.UnderWay.{IsUnderWay}

-- ---- the start

-- before the first wait
abbrev pub first_time : Time
first_time = record { known = 0; waited = 0; may_wait = true }

-- after the start every system awaits a selection
pub record HasBegun (s : Subject) (budget : ℕ) (a : Acting) (systems : List System) : Type 0 where
  pub under_way : IsUnderWay s budget (Start a.outs a.drops ∷ []) first_time systems
  pub situation_is : situation s budget (Start a.outs a.drops ∷ []) ≡ a.situation

abbrev pub StartsGoOn : Type 0
StartsGoOn = (s : Subject) → LeadsToStates s → (budget : ℕ) (image : Image) (effects : List Effect) (left : ℕ) (p : IsPut s [] 0 (bare s) image effects left (start s budget))
    → (systems : List System) → systems ≡ each first_kept (systems_of s (put [] p.log image.parts (begun (bare s))).situation)
    → HasBegun s budget (put [] p.log image.parts (begun (bare s))) systems

-- ---- which system is due

-- where none is, no selection is planned
abbrev pub NoneAreDue : Type 0
NoneAreDue = (s : Subject) (budget : ℕ) (events : List Event) (time : Time) (systems : List System) → IsUnderWay s budget events time systems
    → NoneIsDue systems → NoneDue s budget events time.waited

-- ---- selections

-- after a selection its firings are pending behind the others, and the timers of its system are renewed
pub record HasSelected {C : Type 0} (draw : Draw C) (s : Subject) (budget : ℕ) (events : List Event) (time : Time) (systems : List System) (at : ℕ) (x : System) (now : ℕ) (c : C) (takes : List Pair) (rest : C) : Type 0 where
  pub under_way : IsUnderWay s budget (events ++ Select x.path now takes ∷ []) (record time { known = now }) (after_selection at x (length takes) systems)
  pub situation_is : situation s budget (events ++ Select x.path now takes ∷ []) ≡ selected s budget (situation s budget events) x.path now takes
  pub planned : (kept : Kept C) → kept.chooser ≡ c → kept.waited ≡ time.waited → IsMoment s kept.clock kept.known now → SelectIsPlanned draw s budget events kept x.path now takes rest

-- the first system that is due selects, at a moment no earlier than the last one that is known
abbrev pub SelectionsGoOn : Type 0 → Type 0
SelectionsGoOn C = (draw : Draw C) (s : Subject) → LeadsToStates s → (budget : ℕ) (events : List Event) (time : Time) (systems : List System) → IsUnderWay s budget events time systems
    → (at : ℕ) (x : System) → IsFirstDueAt systems at x → (now : ℕ) → time.known ≤ now → now < 2 ^ 64 → (has_delays s ≡ false → now ≡ 0)
    → NoGuardFaults s budget (situation s budget events) x.path
    → (c : C) (takes : List Pair) (rest : C) → Chosen draw s budget (renew s budget (situation s budget events) x.path now) x.path c takes rest
    → HasSelected draw s budget events time systems at x now c takes rest

-- ---- firings

-- after a firing the situation is the one that is put, in which it is no longer pending and has no timer
pub record HasFired (s : Subject) (budget : ℕ) (events : List Event) (time : Time) (systems : List System) (m : Path) (n : ℕ) (a : Acting) (at : List Path) : Type 0 where
  pub under_way : IsUnderWay s budget (events ++ Fire m n a.outs a.drops ∷ []) (record time { may_wait = true }) (each (after_firing m at) systems)
  pub situation_is : situation s budget (events ++ Fire m n a.outs a.drops ∷ [])
      ≡ record a.situation { timers = map.remove (situation s budget events).timers (pair m n); pending = without (pair m n) (situation s budget events).pending }

abbrev pub FiringsGoOn : Type 0
FiringsGoOn = (s : Subject) → LeadsToStates s → (budget : ℕ) (events : List Event) (time : Time) (systems : List System) → IsUnderWay s budget events time systems
    → (m : Path) (n : ℕ) → Contains (situation s budget events).pending (pair m n)
    → (g : Situation) → g ≡ taken_by s (situation s budget events) m (transition_at s n (map.get (situation s budget events).core.instances m))
    → (image : Image) (effects : List Effect) (left : ℕ) (p : IsPut s m n g image effects left (fire s budget (situation s budget events) m n))
    → HasFired s budget events time systems m n (put m p.log image.parts (begun g)) (arrivals p.log (begun g))

-- ---- waits

-- nothing is due or pending, but a timer runs: the clock is waited for, and was not waited for since the last firing
pub record MayWait (s : Subject) (budget : ℕ) (events : List Event) (time : Time) (due : ℕ) : Type 0 where
  pub waiting : IsWaiting s budget events time.waited
  pub until : wait_until (situation s budget events) time.known ≡ max due time.known
  pub once : time.may_wait ≡ true
  pub delays : has_delays s ≡ true

abbrev pub TimersAreWaitedFor : Type 0
TimersAreWaitedFor = (s : Subject) → LeadsToStates s → (budget : ℕ) (events : List Event) (time : Time) (systems : List System) → IsUnderWay s budget events time systems
    → NoneIsDue systems → (situation s budget events).pending ≡ [] → (due : ℕ) → next_due (situation s budget events).timers ≡ Some due
    → MayWait s budget events time due

-- after the wait every system awaits a selection
abbrev pub WaitsGoOn : Type 0
WaitsGoOn = (s : Subject) → LeadsToStates s → (budget : ℕ) (events : List Event) (time : Time) (systems : List System) → IsUnderWay s budget events time systems
    → NoneIsDue systems → (situation s budget events).pending ≡ [] → (due : ℕ) → next_due (situation s budget events).timers ≡ Some due
    → (now : ℕ) → max due time.known ≤ now
    → IsUnderWay s budget events (record { known = now; waited = length events; may_wait = false }) (each after_wait systems)
