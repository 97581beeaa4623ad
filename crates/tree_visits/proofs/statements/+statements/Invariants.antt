use Rattle.std.proofs.Common.{◌≡◌, take}
use Rattle.std.specs.List.{flat_map}
use Rattle.tree_visits.specs.Nodes.{around}
use Rattle.tree_visits.specs.Taking.{after_nodes}
use Rattle.tree_visits.specs.Visits.{stmt, case_}
use Rattle.tree_visits.proofs.statements.+statements.Given as goal

abbrev pub invariant-stmts-loop-inner : goal.invariant-stmts-loop-inner
invariant-stmts-loop-inner g l = l.visitor ≡ after_nodes g.V.Visitor.step (around l.within) l.initial.visitor (flat_map stmt (take l.inner-index l.inner-items))

abbrev pub invariant-alternatives-loop-case : goal.invariant-alternatives-loop-case
invariant-alternatives-loop-case g l = l.visitor ≡ after_nodes g.V.Visitor.step (around l.within) l.initial.visitor (flat_map case_ (take l.case-index l.cases))
