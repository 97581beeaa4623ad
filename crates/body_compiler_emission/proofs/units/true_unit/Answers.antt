use Rattle.std.proofs.Common.{◌∙◌, ap, subst, true}
use Rattle.pascal_values.specs.declared.value.Value.TheVariants as pascal
use Rattle.body_code.specs.declared.instr.Instr.TheVariants as op
use Rattle.body_compiler_pieces.specs.UnitCode.{AreParameters}
use Rattle.body_compiler_emission.specs.Drafts.{with_instr}
use Rattle.body_compiler_emission.proofs.UnitSteps.{true_made}
use Rattle.body_compiler_emission.proofs.units.true_unit.Goals as goal

pub returns-clause-unit : goal.returns-clause-unit
returns-clause-unit c =
    true_made c.args.received.now c.in_ok-passed.passed c.in_ok-locals.locals c.push.new.self c.in_ok-done.done
    c.in_ok-passed.ensures
    (subst (λ ps. AreParameters ps c.in_ok-locals.locals) c.as_slice.ensures c.in_ok-locals.ensures)
    (c.in_ok-push.ensures ∙ ap (λ u. with_instr (op.Push (pascal.Bool true)) u) c.new-unit.ensures)
    c.in_ok-done.ensures.made.0 c.in_ok-done.ensures.made.1 c.in_ok-done.ensures.made.2
