use Rattle.std.proofs.Common.{◌∙◌, sym, arith}
use Rattle.body_compiler_emission.proofs.Lists.{fold_all}
use Rattle.body_compiler_emission.proofs.UnitSteps.{push_value, clause_value}
use Rattle.body_compiler_emission.proofs.units.values.Goals as goal

pub returns : goal.returns
returns c =
    c.loop-each.invariant
    ∙ fold_all (push_value c.args.scope.now) c.args.unit.now c.args.exprs.now c.loop-each.each-index (omega (arith, c.loop-each-test.false))
    ∙ sym (clause_value c.args.scope.now c.args.exprs.now c.args.unit.now)
