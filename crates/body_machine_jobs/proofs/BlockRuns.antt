-- What blocks come to, as the machine runs them.
use Rattle.std.proofs.Common.{◌≡◌, ◌∙◌, ℕ, Bool, true, false, List, Option, Some, None, Result, Ok, Err, refl, sym, ap, subst}
use Rattle.std.specs.Prelude.{IfOk}
use Rattle.std.specs.declared.alloc.AllocError.{AllocError}
use Rattle.pascal_values.specs.declared.value.Value.{Value}
use Rattle.estelle_tree.specs.Paths.{Path}
use Rattle.body_code.specs.declared.unit.CodeUnit.{CodeUnit}
use Rattle.estelle_model.specs.declared.job.Outcome.{Outcome}
use Rattle.estelle_model.specs.declared.job.Outcome.TheVariants as outcome
use Rattle.estelle_model.specs.States.{Logged}
use Rattle.estelle_model.specs.Stops as model
use Rattle.estelle_model.specs.Steps.{Running, StepResult, Do, and_then}
use Rattle.estelle_model.specs.Computed.{IsMadeBy}
use Rattle.estelle_model.specs.Subject.{Subject}
use Rattle.body_values.specs.declared.stop.Stop.{Stop}
use Rattle.body_values.specs.declared.stop.Stop.TheVariants as stop
use Rattle.body_state.specs.Progress.{Progress, running}
use Rattle.body_state.specs.Follows.{Follows}
use Rattle.body_numbers.specs.declared.numbers.Numbers.{Numbers}
use Rattle.body_machine.specs.declared.item.Item.{Item}
use Rattle.body_machine.specs.Machine.{Machine}
use Rattle.body_machine.specs.Runs.{HasRun}
use Rattle.body_machine_meaning.specs.Executed.{started, ReceivesTo, state_taken}
use Rattle.body_machine_jobs.specs.Made.{Makes}
use Rattle.body_machine_jobs.proofs.UnitRuns.{run_ends, run_faults}

-- what is made of a walk by a run that it followed
abbrev pub Finishes : Subject → Result (Unit {0}) Stop → Progress → Result (Outcome × ℕ) AllocError → Type 0
Finishes s ran w x = (step : Do Logged) (old : Progress) → Follows step old ran w → IfOk x (λ made. IsMadeBy s (step (running old)) made.0 made.1)

-- what is made of whatever is not made
pub never_made : (s : Subject) (w : Progress) (x : Result (Outcome × ℕ) AllocError) (P : Outcome × ℕ → Type 0) → Finishes s (Err stop.Memory) w x → IfOk x P
never_made s w (Err e) P h = tt
never_made s w (Ok made) P h = absurd (by made.0 (h (λ _. Err (model.Broken, 0)) w tt) (h (λ _. Err (model.Broken, 1)) w tt))
  where
    by : (o : Outcome) → IsMadeBy s (Err (model.Broken, 0)) o made.1 → IsMadeBy s (Err (model.Broken, 1)) o made.1 → ⊥
    by (outcome.Ran image effects) a b = a
    by (outcome.Faulted kind) a b = let wrong : 0 ≡ 1 = sym a.1 ∙ b.1 in cc

module _ (s : Subject) (n : Numbers) (code : List CodeUnit) (body : ℕ) (path : Path) (values : List Value) (start : Running Logged) (to : Option ℕ) where
  make : (fits : Bool) (unit : Option CodeUnit) (x : Result (Outcome × ℕ) AllocError) (block : StepResult Logged (List Item)) → ReceivesTo s n code fits body unit path values start block
      → IfOk x (λ made. IsMadeBy s (and_then block (state_taken s path to)) made.0 made.1) → IfOk x (λ made. Makes s n code fits body unit path values start to made.0 made.1)
  make fits unit (Ok made) block r h = (block, r, h)
  make fits unit (Err e) block r h = tt

  -- of values of other types nothing is run
  pub makes_unfit : (fits : Bool) (unit : Option CodeUnit) (w : Progress) (x : Result (Outcome × ℕ) AllocError) → fits ≡ false → running w ≡ start → Finishes s (Err stop.Broken) w x → IfOk x (λ made. Makes s n code fits body unit path values start to made.0 made.1)
  makes_unfit fits unit w x off same h = subst (λ b. IfOk x (λ made. Makes s n code b body unit path values start to made.0 made.1)) (sym off)
      (make false unit x (Err (model.Broken, w.left)) (ap (λ (u : Running Logged). Err (model.Broken, u.left)) same) (h (λ _. Err (model.Broken, w.left)) w refl))

  -- nor of a unit that is not there
  pub makes_none : (fits : Bool) (unit : Option CodeUnit) (w : Progress) (x : Result (Outcome × ℕ) AllocError) → unit ≡ None → running w ≡ start → Finishes s (Err stop.Broken) w x → IfOk x (λ made. Makes s n code fits body unit path values start to made.0 made.1)
  makes_none fits unit w x none same h = subst (λ u. IfOk x (λ made. Makes s n code fits body u path values start to made.0 made.1)) (sym none)
      (make fits None x (Err (model.Broken, w.left)) (by fits) (h (λ _. Err (model.Broken, w.left)) w refl))
    where
      by : (b : Bool) → ReceivesTo s n code b body None path values start (Err (model.Broken, w.left))
      by true = ap (λ (u : Running Logged). Err (model.Broken, u.left)) same
      by false = ap (λ (u : Running Logged). Err (model.Broken, u.left)) same

  module _ (unit : CodeUnit) (first new : Machine) (is : first ≡ started body unit path values start) (w : Progress) (same : running w ≡ new.running) (x : Result (Outcome × ℕ) AllocError) where
    abbrev Made : Type 0
    Made = IfOk x (λ made. Makes s n code true body (Some unit) path values start to made.0 made.1)

    pub makes_ended : HasRun s n code first (Ok tt) new → IfOk x (λ made. IsMadeBy s (state_taken s path to new.active.stack (running w)) made.0 made.1) → Made
    makes_ended c h = make true (Some unit) x (Ok (new.active.stack, new.running)) (run_ends s n code body unit path values start first new is c)
        (subst (λ u. IfOk x (λ made. IsMadeBy s (state_taken s path to new.active.stack u) made.0 made.1)) same h)

    faulted : (e : model.Stop) → ReceivesTo s n code true body (Some unit) path values start (Err (e, new.running.left)) → IfOk x (λ made. IsMadeBy s (Err (e, w.left)) made.0 made.1) → Made
    faulted e r h = make true (Some unit) x (Err (e, new.running.left)) r
        (subst (λ (u : Running Logged). IfOk x (λ made. IsMadeBy s (Err (e, u.left)) made.0 made.1)) same h)

    pub makes_stopped : (e : Stop) → HasRun s n code first (Err e) new → Finishes s (Err e) w x → Made
    makes_stopped (stop.Fault f) c h = faulted (model.Faults f) (run_faults s n code body unit path values start first new is (model.Faults f) c) (h (λ _. Err (model.Faults f, w.left)) w refl)
    makes_stopped stop.Broken c h = faulted model.Broken (run_faults s n code body unit path values start first new is model.Broken c) (h (λ _. Err (model.Broken, w.left)) w refl)
    makes_stopped stop.Memory c h = never_made s w x _ h

-- it is the same of what is the same
pub makes_as : (s s' : Subject) (n : Numbers) (code : List CodeUnit) (fits fits' : Bool) (body : ℕ) (unit unit' : Option CodeUnit) (path path' : Path) (values values' : List Value) (start start' : Running Logged) (to to' : Option ℕ) (x : Result (Outcome × ℕ) AllocError) →
    s ≡ s' → fits ≡ fits' → unit ≡ unit' → path ≡ path' → values ≡ values' → start ≡ start' → to ≡ to' →
    IfOk x (λ made. Makes s n code fits body unit path values start to made.0 made.1) → IfOk x (λ made. Makes s' n code fits' body unit' path' values' start' to' made.0 made.1)
makes_as s s' n code fits fits' body unit unit' path path' values values' start start' to to' x es ef eu ep ev et eo h =
    subst (λ y. IfOk x (λ made. Makes s' n code fits' body unit' path' values' start' y made.0 made.1)) eo
    (subst (λ y. IfOk x (λ made. Makes s' n code fits' body unit' path' values' y to made.0 made.1)) et
    (subst (λ y. IfOk x (λ made. Makes s' n code fits' body unit' path' y start to made.0 made.1)) ev
    (subst (λ y. IfOk x (λ made. Makes s' n code fits' body unit' y values start to made.0 made.1)) ep
    (subst (λ y. IfOk x (λ made. Makes s' n code fits' body y path values start to made.0 made.1)) eu
    (subst (λ y. IfOk x (λ made. Makes s' n code y body unit path values start to made.0 made.1)) ef
    (subst (λ (y : Subject). IfOk x (λ made. Makes y n code fits body unit path values start to made.0 made.1)) es h))))))
