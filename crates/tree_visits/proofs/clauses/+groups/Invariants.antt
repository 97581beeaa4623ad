use Rattle.std.proofs.Common.{◌≡◌, take}
use Rattle.std.specs.List.{flat_map}
use Rattle.tree_visits.specs.Nodes.{around}
use Rattle.tree_visits.specs.Taking.{after_visits}
use Rattle.tree_visits.specs.Visits.{group}
use Rattle.tree_visits.proofs.clauses.+groups.Given as goal

abbrev pub invariant-groups-loop-inner : goal.invariant-groups-loop-inner
invariant-groups-loop-inner g l = l.visitor ≡ after_visits g.V.Visitor.step l.initial.visitor (flat_map (λ x. group x (around l.within)) (take l.inner-index l.groups))
