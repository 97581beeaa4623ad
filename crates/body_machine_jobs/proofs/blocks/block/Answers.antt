use Rattle.std.proofs.Common.{◌∙◌, refl, sym}
use Rattle.body_code.specs.Units.{unit_of}
use Rattle.estelle_model.specs.Belonging.{are_values_of}
use Rattle.body_state.specs.Progress.{running}
use Rattle.body_machine_jobs.proofs.BlockRuns.{makes_unfit, makes_none, makes_as}
use Rattle.body_machine_jobs.proofs.blocks.block.Goals as goal

pub returns-then-not-are_values_of : goal.returns-then-not-are_values_of
returns-then-not-are_values_of c = makes_unfit c.args.bodies.now c.args.numbers.now c.args.code.now c.args.body c.args.path.now c.args.values (running c.args.walk) c.args.to (are_values_of c.args.types.now c.args.values) (unit_of c.args.code.now c.args.body c.args.entry)
    c.args.walk c.finish.result ((λ i. are_values_of c.args.types.now (sym c.items.ensures i)) ∙ sym c.are_values_of.ensures ∙ c.if-not-are_values_of.true) refl c.finish.ensures

pub returns-in-None : goal.returns-in-None
returns-in-None c = makes_none c.args.bodies.now c.args.numbers.now c.args.code.now c.args.body c.args.path.now c.args.values (running c.args.walk) c.args.to (are_values_of c.args.types.now c.args.values) (unit_of c.args.code.now c.args.body c.args.entry)
    c.args.walk c.finish-in-None.result (sym c.in-None.ensures) refl c.finish-in-None.ensures

pub returns-in-Some : goal.returns-in-Some
returns-in-Some c = makes_as c.args.bodies.now c.args.bodies.now c.args.numbers.now c.args.code.now _ (are_values_of c.args.types.now c.args.values) c.args.body _ (unit_of c.args.code.now c.args.body c.args.entry) c.args.path.now c.args.path.now c.args.values c.args.values (running c.args.walk) (running c.args.walk) c.args.to c.args.to c.run_block.result
    refl (sym ((λ i. are_values_of c.args.types.now (sym c.items.ensures i)) ∙ sym c.are_values_of.ensures ∙ c.if-not-are_values_of.false)) c.in-Some.ensures refl refl refl refl c.run_block.ensures
