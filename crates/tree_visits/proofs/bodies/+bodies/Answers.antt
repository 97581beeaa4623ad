use Rattle.std.proofs.Common.{arith}
use Rattle.tree_visits.specs.Nodes.{around}
use Rattle.tree_visits.specs.Visits.{decl}
use Rattle.tree_visits.proofs.Taken.{chain_more}
use Rattle.tree_visits.proofs.BodyEquations.{parts_taken, on_ok}
use Rattle.tree_visits.proofs.bodies.+bodies.Goals as goal

pub decls-loop-inner-preserved : goal.decls-loop-inner-preserved
decls-loop-inner-preserved g t c =
    let e = chain_more g.V.Visitor.step (λ d. (decl d).visits (around c.args.within.now)) c.args.decls.now c.loop-inner.inner-index c.inner-item.result c.args.visitor.now c.loop-inner-test.true c.inner-item.is in
    grind (arith)

pub parts-returns : goal.parts-returns
parts-returns g t c = on_ok c.transitions.result (parts_taken g.V.Visitor.step c.args.parts.now (around c.args.within.now) c.args.visitor.now c.see.new.self c.decls.new.visitor c.init.new.visitor c.transitions.new.visitor c.items-begun.result.now c.items-trans.result.now c.items-begun.ensures c.items-trans.ensures c.in_ok-see.ensures c.in_ok-decls.ensures c.in_ok-init.ensures) c.transitions.ensures
