use Rattle.std.proofs.Common.{◌≡◌, take}
use Rattle.std.specs.List.{flat_map}
use Rattle.tree_visits.specs.Nodes.{around}
use Rattle.tree_visits.specs.Taking.{after_visits}
use Rattle.tree_visits.specs.Visits.{trans}
use Rattle.tree_visits.proofs.bodies.transitions.Given as goal

abbrev pub invariant-loop-inner : goal.invariant-loop-inner
invariant-loop-inner g l = l.visitor ≡ after_visits g.V.Visitor.step l.initial.visitor (flat_map (trans (around l.within)) (take l.inner-index l.transitions))
