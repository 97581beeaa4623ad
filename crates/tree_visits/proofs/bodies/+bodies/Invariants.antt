use Rattle.std.proofs.Common.{◌≡◌, take}
use Rattle.std.specs.List.{flat_map}
use Rattle.tree_visits.specs.Nodes.{around}
use Rattle.tree_visits.specs.Taking.{after_visits}
use Rattle.tree_visits.specs.Visits.{decl}
use Rattle.tree_visits.proofs.bodies.+bodies.Given as goal

abbrev pub invariant-decls-loop-inner : goal.invariant-decls-loop-inner
invariant-decls-loop-inner g l = l.visitor ≡ after_visits g.V.Visitor.step l.initial.visitor (flat_map (λ d. (decl d).visits (around l.within)) (take l.inner-index l.decls))
