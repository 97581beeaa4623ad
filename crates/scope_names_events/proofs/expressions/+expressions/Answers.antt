use Rattle.std.proofs.Common.{arith}
use Rattle.scope_names_events.proofs.WritingLemmas.{writes, chain_more}
use Rattle.scope_rules.specs.ExpressionEvents.{elem, expr, selector, term, factor}
use Rattle.scope_names_events.proofs.LoopLaws.{simple_written, term_written}
use Rattle.scope_names_events.proofs.expressions.+expressions.Goals as goal

pub write_elems-loop-elem-preserved : goal.write_elems-loop-elem-preserved
write_elems-loop-elem-preserved t c =
    let e = chain_more elem c.args.elems.now c.loop-elem.elem-index c.elem-item.result c.args.out.now c.loop-elem-test.true c.elem-item.is in
    grind (arith, writes)

pub write_exprs-loop-expr-preserved : goal.write_exprs-loop-expr-preserved
write_exprs-loop-expr-preserved t c =
    let e = chain_more expr c.args.exprs.now c.loop-expr.expr-index c.expr-item.result c.args.out.now c.loop-expr-test.true c.expr-item.is in
    grind (arith, writes)

pub write_selectors-loop-selector-preserved : goal.write_selectors-loop-selector-preserved
write_selectors-loop-selector-preserved t c =
    let e = chain_more (λ s. (selector s).1) c.args.selectors.now c.loop-selector.selector-index c.selector-item.result c.args.out.now c.loop-selector-test.true c.selector-item.is in
    grind (arith, writes)

pub write_simple-loop-other-preserved : goal.write_simple-loop-other-preserved
write_simple-loop-other-preserved t c =
    let e = chain_more (λ y. term y.1) c.items-other-items.result.now c.loop-other.other-index c.other-item.result c.write_term.new.out c.loop-other-test.true c.other-item.is in
    grind (arith, writes)

pub write_term-loop-other-preserved : goal.write_term-loop-other-preserved
write_term-loop-other-preserved t c =
    let e = chain_more (λ y. factor y.1) c.items-other-items.result.now c.loop-other.other-index c.other-item.result c.write_factor.new.out c.loop-other-test.true c.other-item.is in
    grind (arith, writes)

pub write_simple-returns : goal.write_simple-returns
write_simple-returns t c = simple_written c.args.simple.now c.items-other-items.result.now c.loop-other.other-index c.args.out.now c.write_term.new.out c.loop-other.out c.items-other-items.ensures c.loop-other-test.false c.in_ok-write_term.ensures c.loop-other.invariant

pub write_term-returns : goal.write_term-returns
write_term-returns t c = term_written c.args.term.now c.items-other-items.result.now c.loop-other.other-index c.args.out.now c.write_factor.new.out c.loop-other.out c.items-other-items.ensures c.loop-other-test.false c.in_ok-write_factor.ensures c.loop-other.invariant
