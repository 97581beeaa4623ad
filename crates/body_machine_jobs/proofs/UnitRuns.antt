-- What units come to that run for themselves.
use Rattle.std.proofs.Common.{◌≡◌, ℕ, List, Option, Some, None, Ok, Err, refl, sym, subst}
use Rattle.pascal_values.specs.declared.value.Value.{Value}
use Rattle.estelle_tree.specs.Paths.{Path}
use Rattle.body_code.specs.declared.unit.CodeUnit.{CodeUnit}
use Rattle.estelle_model.specs.States.{Logged}
use Rattle.estelle_model.specs.Stops as model
use Rattle.estelle_model.specs.Steps.{Running, StepResult}
use Rattle.estelle_model.specs.Subject.{Subject}
use Rattle.body_values.specs.declared.stop.Stop.{Stop}
use Rattle.body_values.specs.declared.stop.Stop.TheVariants as stop
use Rattle.body_state.specs.Progress.{Progress, running}
use Rattle.body_numbers.specs.declared.numbers.Numbers.{Numbers}
use Rattle.body_machine.specs.declared.item.Item.{Item}
use Rattle.body_machine.specs.Machine.{Machine, Next, Goes, Ends, Stops}
use Rattle.body_machine.specs.Steps.{Comes}
use Rattle.body_machine.specs.Runs.{HasRun}
use Rattle.body_machine_meaning.specs.Executed.{started, RunsTo}
use Rattle.body_machine_jobs.specs.Stands.{Stands, walked}

module _ (s : Subject) (n : Numbers) (code : List CodeUnit) (body : ℕ) (unit : CodeUnit) (path : Path) (values : List Value) (start : Running Logged) (first new : Machine) (is : first ≡ started body unit path values start) where
  abbrev pub Run : StepResult Logged (List Item) → Type 0
  Run = RunsTo s n code body (Some unit) path values start

  from_start : (x : Next) → Comes s n code (Goes first) x → Comes s n code (Goes (started body unit path values start)) x
  from_start x c = subst (λ m. Comes s n code (Goes m) x) is c

  -- to its end
  pub run_ends : HasRun s n code first (Ok tt) new → Run (Ok (new.active.stack, new.running))
  run_ends c = (Ends new.active.stack new.running, from_start (Ends new.active.stack new.running) c, refl)

  -- to what stops it
  pub run_faults : (e : model.Stop) → Comes s n code (Goes first) (Stops e new.running.left) → Run (Err (e, new.running.left))
  run_faults e c = (Stops e new.running.left, from_start (Stops e new.running.left) c, refl)

  -- what is left, and the walk
  pub ends_as : (items : List Item) (walk : Progress) → items ≡ new.active.stack → running walk ≡ new.running → HasRun s n code first (Ok tt) new → Stands walked Run (Ok (items, walk))
  ends_as items walk same_items same_walk c =
      subst (λ w. Run (Ok (items, w))) (sym same_walk) (subst (λ xs. Run (Ok (xs, new.running))) (sym same_items) (run_ends c))

  pub stops_as : (e : Stop) → HasRun s n code first (Err e) new → Stands {A = List Item × Progress} walked Run (Err e)
  stops_as (stop.Fault f) c = (new.running.left, run_faults (model.Faults f) c)
  stops_as stop.Broken c = (new.running.left, run_faults model.Broken c)
  stops_as stop.Memory c = tt

-- a unit that is not there
pub none_stops : (s : Subject) (n : Numbers) (code : List CodeUnit) (body : ℕ) (unit : Option CodeUnit) (path : Path) (values : List Value) (start : Running Logged) → unit ≡ None → Stands {A = List Item × Progress} walked (RunsTo s n code body unit path values start) (Err stop.Broken)
none_stops s n code body unit path values start is = subst (λ u. Stands {A = List Item × Progress} walked (RunsTo s n code body u path values start) (Err stop.Broken)) (sym is) (start.left, refl)
