use Rattle.std.proofs.Common.{arith, ◌++◌}
use Rattle.estelle_tree.specs.declared.kind.Kind.TheVariants as k
use Rattle.estelle_tree.specs.Expressions.{of_adding, of_multiplying}
use Rattle.estelle_printer.specs.Forms.{mark}
use Rattle.estelle_printer.specs.ExpressionTokens.{elem, expr, factor, selector, term}
use Rattle.estelle_printer.proofs.WritingLemmas.{writes, chain_more, separated_more}
use Rattle.estelle_printer.proofs.LoopLaws.{simple_written, term_written, variable_written}
use Rattle.estelle_printer.proofs.expressions.+expressions.Goals as goal

pub write_elems-loop-place-preserved : goal.write_elems-loop-place-preserved
write_elems-loop-place-preserved t c =
    let e = separated_more k.Comma elem c.args.elems.now c.loop-place.place c.index-elems-place.result c.args.out.now c.loop-place-test.true c.index-elems-place.is in
    grind (arith, writes)

pub write_exprs-loop-place-preserved : goal.write_exprs-loop-place-preserved
write_exprs-loop-place-preserved t c =
    let e = separated_more k.Comma expr c.args.exprs.now c.loop-place.place c.index-exprs-place.result c.args.out.now c.loop-place-test.true c.index-exprs-place.is in
    grind (arith, writes)

pub write_simple-loop-adding-preserved : goal.write_simple-loop-adding-preserved
write_simple-loop-adding-preserved t c =
    let e = chain_more (λ y. mark (of_adding y.0) ++ term y.1) c.items-adding-items.result.now c.loop-adding.adding-index c.loop-adding-item.result c.write_term.new.out c.loop-adding-test.true c.loop-adding-item.is in
    grind (arith, writes)

pub write_term-loop-multiplying-preserved : goal.write_term-loop-multiplying-preserved
write_term-loop-multiplying-preserved t c =
    let e = chain_more (λ y. mark (of_multiplying y.0) ++ factor y.1) c.items-multiplying-items.result.now c.loop-multiplying.multiplying-index c.loop-multiplying-item.result c.write_factor.new.out c.loop-multiplying-test.true c.loop-multiplying-item.is in
    grind (arith, writes)

pub write_variable-loop-selector-preserved : goal.write_variable-loop-selector-preserved
write_variable-loop-selector-preserved t c =
    let e = chain_more selector c.items-selector-items.result.now c.loop-selector.selector-index c.selector-item.result c.write.new.out c.loop-selector-test.true c.selector-item.is in
    grind (arith, writes)

pub write_simple-returns : goal.write_simple-returns
write_simple-returns t c = simple_written c.args.simple.now c.items-adding-items.result.now c.loop-adding.adding-index c.args.out.now c.write_sign.new.out c.write_term.new.out c.loop-adding.out c.items-adding-items.ensures c.loop-adding-test.false c.in_ok-write_sign.ensures c.in_ok-write_term.ensures c.loop-adding.invariant

pub write_term-returns : goal.write_term-returns
write_term-returns t c = term_written c.args.term.now c.items-multiplying-items.result.now c.loop-multiplying.multiplying-index c.args.out.now c.write_factor.new.out c.loop-multiplying.out c.items-multiplying-items.ensures c.loop-multiplying-test.false c.in_ok-write_factor.ensures c.loop-multiplying.invariant

pub write_variable-returns : goal.write_variable-returns
write_variable-returns t c = variable_written c.args.variable.now c.items-selector-items.result.now c.loop-selector.selector-index c.args.out.now c.write.new.out c.loop-selector.out c.items-selector-items.ensures c.loop-selector-test.false c.in_ok-write.ensures c.loop-selector.invariant
