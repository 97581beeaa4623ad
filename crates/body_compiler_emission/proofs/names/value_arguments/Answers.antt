use Rattle.std.proofs.Common.{◌≡◌, ◌∙◌, ◌+◌, drop, map, sym, ap, arith}
use Rattle.estelle_model.specs.declared.meaning.Passing.TheVariants.{ByValue}
use Rattle.body_compiler_emission.specs.Drafts.{grown}
use Rattle.body_compiler_emission.specs.Emitted.{give_all}
use Rattle.body_compiler_emission.proofs.FactorSteps.{given_next, given_all}
use Rattle.body_compiler_emission.proofs.TypeSteps.{types_long, type_item}
use Rattle.body_compiler_emission.proofs.names.value_arguments.Goals as goal

pub loop-i-preserved : goal.loop-i-preserved
loop-i-preserved c =
    let ts = c.args.types.now in
    let es = c.args.exprs.now in
    ap (λ v. grown (give_all c.args.scope.now (drop (c.loop-i.i + 1) (map (λ d. ByValue d) ts)) (drop (c.loop-i.i + 1) es)) v) c.in_ok-give_value.ensures
    ∙ given_next c.args.scope.now (map (λ d. ByValue d) ts) es c.loop-i.i (ByValue c.index-types-i.result) c.index-exprs-i.result c.loop-i.unit (omega (arith, types_long ts)) (omega (arith, c.loop-i-test.true)) (type_item ts c.loop-i.i c.index-types-i.result (omega arith) c.index-types-i.is) c.index-exprs-i.is
    ∙ c.loop-i.invariant

pub returns : goal.returns
returns c = sym (given_all c.args.scope.now (map (λ d. ByValue d) c.args.types.now) c.args.exprs.now c.loop-i.i c.loop-i.unit (omega (arith, types_long c.args.types.now)) (omega arith)) ∙ c.loop-i.invariant
