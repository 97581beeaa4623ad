-- The parts of a guard by their units.
use Rattle.std.proofs.Common.{◌≡◌, ℕ, Bool, true, false, List, Option, Some, None, Result, Ok, Err, refl, sym, ap, subst}
use Rattle.std.specs.Prelude.{◌||◌, is_none}
use Rattle.pascal_values.specs.declared.value.Value.{Value}
use Rattle.estelle_tree.specs.Paths.{Path}
use Rattle.estelle_tree.specs.declared.tree.clause.DelayHigh.{DelayHigh}
use Rattle.body_code.specs.declared.unit.CodeUnit.{CodeUnit}
use Rattle.body_code.specs.declared.unit.Entry.TheVariants as entry
use Rattle.body_code.specs.Units.{unit_of}
use Rattle.estelle_model.specs.declared.job.Guard.{Guard}
use Rattle.estelle_model.specs.declared.job.Guard.TheVariants.{Off}
use Rattle.estelle_model.specs.States.{Logged, on_log}
use Rattle.estelle_model.specs.Stops as model
use Rattle.estelle_model.specs.Steps.{Running, StepResult, and_then}
use Rattle.estelle_model.specs.Expressions.{bool_step}
use Rattle.estelle_model.specs.Transitions.{Transition, Delay}
use Rattle.estelle_model.specs.Belonging.{are_values_of}
use Rattle.estelle_model.specs.Clauses.{at_once, answered}
use Rattle.estelle_model.specs.Subject.{Subject}
use Rattle.body_values.specs.declared.stop.Stop.{Stop}
use Rattle.body_values.specs.declared.stop.Stop.TheVariants as stop
use Rattle.body_state.specs.Progress.{Progress, running}
use Rattle.body_state.specs.Follows.{Leads}
use Rattle.body_numbers.specs.declared.numbers.Numbers.{Numbers}
use Rattle.body_machine.specs.declared.item.Item.{Item}
use Rattle.body_machine_meaning.specs.Executed.{RunsTo, ReceivesTo, DelaysTo, value_left, delay_left}
use Rattle.body_machine_jobs.specs.Stands.{Stands, walked, Tells}
use Rattle.body_machine_jobs.specs.Answered.{IsProvided, Waits, Delays, Holds}

-- what runs on a copy runs on the values
pub on_copies : (s : Subject) (n : Numbers) (code : List CodeUnit) (path : Path) (body : ℕ) (unit : Option CodeUnit) (start : Running Logged) (copies values : List Value) (r : Result (List Item × Progress) Stop) → copies ≡ values → Stands walked (RunsTo s n code body unit path copies start) r → Stands walked (RunsTo s n code body unit path values start) r
on_copies s n code path body unit start copies values r same h = subst (λ vs. Stands walked (RunsTo s n code body unit path vs start) r) same h

pub tells_more : (P Q : Guard → Type 0) (r : Result Guard Stop) → ((g : Guard) → P g → Q g) → Tells P r → Tells Q r
tells_more P Q (Ok g) f h = f g h
tells_more P Q (Err (stop.Fault e)) f h = f _ h
tells_more P Q (Err stop.Broken) f h = f _ h
tells_more P Q (Err stop.Memory) f h = tt

module _ (s : Subject) (n : Numbers) (code : List CodeUnit) (path : Path) (values : List Value) (body trans : ℕ) (t : Transition) (start : Running Logged) where
  receives : (b : Bool) (unit : Option CodeUnit) (r : StepResult Logged (List Item)) → b ≡ true → RunsTo s n code body unit path values start r → ReceivesTo s n code b body unit path values start r
  receives b unit r on h = subst (λ b. ReceivesTo s n code b body unit path values start r) (sym on) h

  refuses : (b : Bool) (unit : Option CodeUnit) → b ≡ false → ReceivesTo s n code b body unit path values start (Err (model.Broken, start.left))
  refuses b unit off = subst (λ b. ReceivesTo s n code b body unit path values start (Err (model.Broken, start.left))) (sym off) refl

  -- ---- provided

  abbrev pub may_ask : Bool
  may_ask = is_none t.provided || are_values_of t.received values

  abbrev asked : Option CodeUnit
  asked = unit_of code body (entry.Guard trans)

  abbrev Provided : StepResult Logged Bool → Type 0
  Provided = IsProvided s n code path values body trans t start

  pub provided_unfit : may_ask ≡ false → Stands {A = Bool × Progress} walked Provided (Err stop.Broken)
  provided_unfit off = (start.left, (Err (model.Broken, start.left), refuses may_ask asked off, refl))

  pub provided_err : may_ask ≡ true → (e : Stop) → Stands {A = List Item × Progress} walked (RunsTo s n code body asked path values start) (Err e) → Stands {A = Bool × Progress} walked Provided (Err e)
  provided_err on (stop.Fault f) h = (h.0, (Err (model.Faults f, h.0), receives may_ask asked _ on h.1, refl))
  provided_err on stop.Broken h = (h.0, (Err (model.Broken, h.0), receives may_ask asked _ on h.1, refl))
  provided_err on stop.Memory h = tt

  module _ (on : may_ask ≡ true) (items : List Item) (walk : Progress) (runs : RunsTo s n code body asked path values start (Ok (items, running walk))) where
    truth : (r : StepResult Logged Bool) → bool_step (value_left items) (running walk) ≡ r → Provided r
    truth r e = (Ok (items, running walk), receives may_ask asked _ on runs, sym e)

    pub provided_ok : (b : Bool) → Leads (bool_step (value_left items)) (running walk) (Ok b) (running walk) → Stands walked Provided (Ok (b, walk))
    provided_ok b h = truth (Ok (b, running walk)) h

    pub provided_stops : (e : Stop) → Leads (bool_step (value_left items)) (running walk) (Err e) (running walk) → Stands {A = Bool × Progress} walked Provided (Err e)
    provided_stops (stop.Fault f) h = (walk.left, truth (Err (model.Faults f, walk.left)) h)
    provided_stops stop.Broken h = (walk.left, truth (Err (model.Broken, walk.left)) h)
    provided_stops stop.Memory h = tt

  -- ---- the delay by its unit

  abbrev fits : Bool
  fits = are_values_of t.received values

  abbrev delaying : Option CodeUnit
  delaying = unit_of code body (entry.Delay trans)

  module _ (high : Option DelayHigh) where
    abbrev Wait : Guard → Type 0
    Wait = Waits s n code path values body trans t high start

    pub waits_unfit : fits ≡ false → Tells Wait (Err stop.Broken)
    waits_unfit off = (Err (model.Broken, start.left), refuses fits delaying off, refl)

    pub waits_err : fits ≡ true → (e : Stop) → Stands {A = List Item × Progress} walked (RunsTo s n code body delaying path values start) (Err e) → Tells Wait (Err e)
    waits_err on (stop.Fault f) h = (Err (model.Faults f, h.0), receives fits delaying _ on h.1, refl)
    waits_err on stop.Broken h = (Err (model.Broken, h.0), receives fits delaying _ on h.1, refl)
    waits_err on stop.Memory h = tt

    pub waits_left : fits ≡ true → (items : List Item) (u : Running Logged) → RunsTo s n code body delaying path values start (Ok (items, u)) → (r : Result Guard Stop) → Leads (delay_left s high items) u r u → Tells Wait r
    waits_left on items u runs (Ok g) h = (Ok (items, u), receives fits delaying _ on runs, sym (ap answered h))
    waits_left on items u runs (Err (stop.Fault f)) h = (Ok (items, u), receives fits delaying _ on runs, sym (ap answered h))
    waits_left on items u runs (Err stop.Broken) h = (Ok (items, u), receives fits delaying _ on runs, sym (ap answered h))
    waits_left on items u runs (Err stop.Memory) h = tt

  -- ---- the delay

  abbrev Delay_of : Bool → Option Delay → Guard → Type 0
  Delay_of timed o g = (result : StepResult Logged Guard) × DelaysTo s n code path values timed body trans t o start result × (g ≡ answered result)

  pub delays_none : (timed : Bool) (g : Guard) → None ≡ t.delay → g ≡ at_once Logged on_log s → Delays s n code path values timed body trans t start g
  delays_none timed g is now = subst (λ o. Delay_of timed o g) is (Ok (at_once Logged on_log s, start), by timed, now)
    where
      by : (b : Bool) → DelaysTo s n code path values b body trans t None start (Ok (at_once Logged on_log s, start))
      by true = refl
      by false = refl

  pub delays_timed : (timed : Bool) (d : Delay) (g : Guard) → Some d ≡ t.delay → timed ≡ true → g ≡ at_once Logged on_log s → Delays s n code path values timed body trans t start g
  delays_timed timed d g is on now = subst (λ o. Delay_of timed o g) is (subst (λ b. Delay_of b (Some d) g) (sym on) (Ok (at_once Logged on_log s, start), refl, now))

  pub delays_waits : (timed : Bool) (d : Delay) (high : Option DelayHigh) (r : Result Guard Stop) → Some d ≡ t.delay → timed ≡ false → high ≡ d.high → Tells (Waits s n code path values body trans t high start) r → Tells (Delays s n code path values timed body trans t start) r
  delays_waits timed d high r is off same h = tells_more (Waits s n code path values body trans t d.high start) (Delays s n code path values timed body trans t start) r (λ g w. waited g w)
      (subst (λ o. Tells (Waits s n code path values body trans t o start) r) same h)
    where
      waited : (g : Guard) → Waits s n code path values body trans t d.high start g → Delays s n code path values timed body trans t start g
      waited g w = subst (λ o. Delay_of timed o g) is (subst (λ b. Delay_of b (Some d) g) (sym off) (and_then w.0 (delay_left s d.high), (w.0, w.1, refl), w.2))

  -- ---- both

  module _ (timed : Bool) where
    abbrev Both : Guard → Type 0
    Both = Holds s n code path values timed body trans t start

    pub holds_err : (e : Stop) → Stands {A = Bool × Progress} walked Provided (Err e) → Tells Both (Err e)
    holds_err (stop.Fault f) h = (Err (model.Faults f, h.0), h.1, Err (model.Faults f, h.0), refl, refl)
    holds_err stop.Broken h = (Err (model.Broken, h.0), h.1, Err (model.Broken, h.0), refl, refl)
    holds_err stop.Memory h = tt

    pub holds_off : (b : Bool) (walk : Progress) → b ≡ false → Provided (Ok (b, running walk)) → Both Off
    holds_off b walk off h = (Ok (false, running walk), subst (λ b. Provided (Ok (b, running walk))) off h, Ok (Off, running walk), refl, refl)

    pub holds_on : (b : Bool) (walk : Progress) (r : Result Guard Stop) → b ≡ true → Provided (Ok (b, running walk)) → Tells (Delays s n code path values timed body trans t (running walk)) r → Tells Both r
    holds_on b walk r on h = tells_more (Delays s n code path values timed body trans t (running walk)) Both r
        (λ g d. (Ok (true, running walk), subst (λ b. Provided (Ok (b, running walk))) on h, d.0, d.1, d.2))
