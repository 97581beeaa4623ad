use Rattle.std.proofs.Common.{◌≡◌, ◌∙◌, ◌+◌, drop, sym, ap, arith}
use Rattle.body_compiler_emission.specs.Drafts.{grown}
use Rattle.body_compiler_emission.specs.Emitted.{give_all, behind}
use Rattle.body_compiler_emission.proofs.Lists.{fold_all}
use Rattle.body_compiler_emission.proofs.ExpressionSteps.{expr_value, expr_host, simple_value, simple_host, add_term, sum_host, term_value, term_host, multiply_factor, product_host, united_value, unite_elem}
use Rattle.body_compiler_emission.proofs.FactorSteps.{loaded_steps, place_steps, required_steps, given_next, given_all}
use Rattle.body_compiler_emission.proofs.AccessSteps.{behind_next, behind_all, indexed_steps, at_index}
use Rattle.body_compiler_emission.proofs.+values.Goals as goal

pub expressions::expr-returns-in_ok-push-in-Some : goal.expressions::expr-returns-in_ok-push-in-Some
expressions::expr-returns-in_ok-push-in-Some t c =
    let e = expr_value c.args.scope.now c.args.node.now _ c.args.unit.now c.in-Some.is in
    (sym (expr_host c.args.scope.now c.args.node.now _ c.in-Some.is), cc (e, c.in_ok-push-in-Some.ensures, c.relation.ensures, c.in_ok-simple-in-Some.ensures.1, c.in_ok-host.ensures.1, c.in-Some.operator-is, c.in-Some.right-is))

pub expressions::simple-returns : goal.expressions::simple-returns
expressions::simple-returns t c =
    let h = fold_all (sum_host c.args.scope.now) c.signed_host-host.result c.items-other-items.result.now c.loop-other.other-index (omega (arith, c.loop-other-test.false)) in
    let u = fold_all (add_term c.args.scope.now) c.signed.new.unit c.items-other-items.result.now c.loop-other.other-index (omega (arith, c.loop-other-test.false)) in (
      cc (h, simple_host c.args.scope.now c.args.node.now, c.loop-other.invariant.1, c.items-other-items.ensures, c.signed_host-host.ensures, c.in_ok-first.ensures.0),
      cc (u, simple_value c.args.scope.now c.args.node.now c.args.unit.now, c.loop-other.invariant.0, c.items-other-items.ensures, c.in_ok-signed.ensures, c.in_ok-first.ensures.1),
    )

pub expressions::term-returns : goal.expressions::term-returns
expressions::term-returns t c =
    let h = fold_all (product_host c.args.scope.now) c.in_ok-host.host c.items-other-items.result.now c.loop-other.other-index (omega (arith, c.loop-other-test.false)) in
    let u = fold_all (multiply_factor c.args.scope.now) c.factor.new.unit c.items-other-items.result.now c.loop-other.other-index (omega (arith, c.loop-other-test.false)) in (
      cc (h, term_host c.args.scope.now c.args.node.now, c.loop-other.invariant.1, c.items-other-items.ensures, c.in_ok-host.ensures.0),
      cc (u, term_value c.args.scope.now c.args.node.now c.args.unit.now, c.loop-other.invariant.0, c.items-other-items.ensures, c.in_ok-host.ensures.1),
    )

pub expressions::united-returns : goal.expressions::united-returns
expressions::united-returns t c =
    c.loop-each.invariant
    ∙ fold_all (unite_elem c.args.scope.now) c.args.unit.now c.args.elems.now c.loop-each.each-index (omega (arith, c.loop-each-test.false))
    ∙ sym (united_value c.args.scope.now c.args.elems.now c.args.unit.now)

pub names::indexed-returns : goal.names::indexed-returns
names::indexed-returns t c =
    c.loop-index.invariant
    ∙ fold_all (at_index c.args.scope.now) (c.args.unit.now, c.args.array.now) c.args.exprs.now c.loop-index.index-index (omega (arith, c.loop-index-test.false))
    ∙ sym (indexed_steps c.args.scope.now c.args.exprs.now c.args.unit.now c.args.array.now)

pub names::behind-loop-i-preserved : goal.names::behind-loop-i-preserved
names::behind-loop-i-preserved t c = behind_next c.args.scope.now c.args.selectors.now c.loop-i.i c.index-selectors-i.result c.loop-i.unit _ c.loop-i.denoter.now _ c.loop-i-test.true c.index-selectors-i.is c.in_ok-denoter.ensures ∙ c.loop-i.invariant

pub names::behind-returns : goal.names::behind-returns
names::behind-returns t c = sym (behind_all c.args.scope.now c.args.selectors.now c.loop-i.i c.loop-i.unit c.loop-i.denoter.now (omega (arith, c.loop-i-test.false))) ∙ c.loop-i.invariant

pub names::designated-returns-in_ok-computed-in-RequiredFunction : goal.names::designated-returns-in_ok-computed-in-RequiredFunction
names::designated-returns-in_ok-computed-in-RequiredFunction t c = required_steps c.args.scope.now c.args.name.now c.args.exprs.now c.in-RequiredFunction.named c.index-exprs-0.result c.in_ok-host-in-RequiredFunction.host _ c.args.unit.now c.expr.new.unit _ (sym c.meaning.ensures ∙ c.in-RequiredFunction.is) (omega (arith, c.if-exprs-ne1.false)) c.index-exprs-0.is c.in_ok-host-in-RequiredFunction.ensures c.in_ok-computed-in-RequiredFunction.ensures.0 c.in_ok-computed-in-RequiredFunction.ensures.1

pub names::give_all-loop-i-preserved : goal.names::give_all-loop-i-preserved
names::give_all-loop-i-preserved t c =
    ap (λ v. grown (give_all c.args.scope.now (drop (c.loop-i.i + 1) c.args.parameters.now) (drop (c.loop-i.i + 1) c.args.exprs.now)) v) c.in_ok-give.ensures
    ∙ given_next c.args.scope.now c.args.parameters.now c.args.exprs.now c.loop-i.i c.index-parameters-i.result c.index-exprs-i.result c.loop-i.unit (omega arith) (omega (arith, c.loop-i-test.true)) c.index-parameters-i.is c.index-exprs-i.is
    ∙ c.loop-i.invariant

pub names::give_all-returns : goal.names::give_all-returns
names::give_all-returns t c = sym (given_all c.args.scope.now c.args.parameters.now c.args.exprs.now c.loop-i.i c.loop-i.unit (omega arith) (omega arith)) ∙ c.loop-i.invariant

pub names::named_place-returns-in_ok-accessed-in_default : goal.names::named_place-returns-in_ok-accessed-in_default
names::named_place-returns-in_ok-accessed-in_default t c = place_steps c.args.scope.now c.args.name.now c.args.selectors.now _ c.args.unit.now _ _ c.meaning-meaning.ensures c.in_default.not-Constant c.in_default.not-Called c.in_ok-accessed-in_default.ensures

pub names::valued-returns-in_ok-push-in_default : goal.names::valued-returns-in_ok-push-in_default
names::valued-returns-in_ok-push-in_default t c =
    let k = loaded_steps c.args.scope.now c.args.name.now c.args.selectors.now _ c.args.unit.now _ _ c.meaning-meaning.ensures c.in_default.not-Constant c.in_default.not-Called c.in_ok-denoter-in_default.ensures in
    (c.host_of.ensures ∙ k.0, c.in_ok-push-in_default.ensures ∙ k.1)
