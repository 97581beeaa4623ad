use Rattle.std.proofs.Common.{◌≡◌, [], true, refl, ap, ◌∙◌}
use Rattle.body_code.specs.declared.unit.Entry.TheVariants as entry
use Rattle.body_code.specs.Units.{unit_of}
use Rattle.estelle_model.specs.Belonging.{are_values_of}
use Rattle.estelle_model.specs.Blocks.{fresh}
use Rattle.estelle_model.specs.Computed.{core_of, log_from}
use Rattle.estelle_model.specs.Core.{Core}
use Rattle.estelle_model.specs.Firing.{bare}
use Rattle.estelle_model.specs.Subject.{Subject, begins}
use Rattle.body_state.specs.Progress.{running}
use Rattle.body_jobs.proofs.RootLemmas.{root_core, root_in_order}
use Rattle.body_machine_jobs.proofs.BlockRuns.{makes_as}
use Rattle.body_machine_jobs.proofs.firing.start.Goals as goal

pub owning-requires : goal.owning-requires
owning-requires c = root_in_order c.bodies-bodies.result.now c.in_ok-image.image c.in_ok-image.ensures

pub returns : goal.returns
returns c =
    let s : Subject = c.args.program.now in
    let b : Subject = c.bodies-bodies.result.now in
    let core : core_of b c.in_ok-image.image ≡ (bare s).core = root_core b c.in_ok-image.image c.in_ok-image.ensures ∙ ap (λ (x : Subject). (bare x).core) c.bodies-bodies.ensures in
    makes_as b s c.args.numbers.now c.args.code.now (are_values_of [] c.none-values.result) true 0 (unit_of c.args.code.now 0 entry.Initialize) (unit_of c.args.code.now 0 entry.Initialize) c.root-path.result [] c.none-values.result []
    (running c.in_ok-walk.walk) (fresh (log_from (bare s).core) c.args.budget) c.first_state-to.result (begins s 0).to c.block.result
    c.bodies-bodies.ensures (ap (are_values_of []) c.none-values.ensures) refl c.root-path.ensures c.none-values.ensures
    (c.in_ok-walk.ensures ∙ ap (λ (x : Core). fresh (log_from x) c.args.budget) core)
    (c.first_state-to.ensures ∙ ap (λ (x : Subject). (begins x 0).to) c.bodies-bodies.ensures) c.block.ensures
