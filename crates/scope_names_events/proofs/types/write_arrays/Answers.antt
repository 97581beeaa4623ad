use Rattle.std.proofs.Common.{arith, List}
use Rattle.std.proofs.lemmas.List.{at_drop_more, at_drop_all}
use Rattle.estelle_tree.specs.declared.tree.type_expr.Ordinal.{Ordinal}
use Rattle.scope_rules.specs.TypeEvents.{array_events}
use Rattle.scope_names_events.proofs.WritingLemmas.{writes}
use Rattle.scope_names_events.proofs.types.write_arrays.Goals as goal

pub loop-index-preserved : goal.loop-index-preserved
loop-index-preserved c =
    let e = at_drop_more (λ (xs : List Ordinal). array_events c.loop-index.at xs c.args.components) c.args.more.now c.loop-index.index-index c.index-item.result c.loop-index-test.true in
    grind (arith, writes)

pub returns : goal.returns
returns c =
    let e = at_drop_all (λ (xs : List Ordinal). array_events c.loop-index.at xs c.args.components) c.args.more.now c.loop-index.index-index c.loop-index-test.false in
    grind (arith, writes)
