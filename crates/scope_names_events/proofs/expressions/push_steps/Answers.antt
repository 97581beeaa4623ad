use Rattle.std.proofs.Common.{rules, arith}
use Rattle.estelle_tree.specs.declared.tree.expression.Factor.{the_lemmas as lemmas}
use Rattle.scope_names_events.proofs.ExpressionEquations.{index_steps}
use Rattle.scope_names_events.proofs.expressions.push_steps.Goals as goal

pub returns-in-Index : goal.returns-in-Index
returns-in-Index c =
    let e = index_steps c.args.selector.now c.in-Index.exprs (first_of (search (rules, lemmas), grind (arith, lemmas))) in
    grind (arith)
