use Rattle.std.proofs.Common.{◌≡◌, take}
use Rattle.std.specs.List.{flat_map}
use Rattle.scope_names_events.specs.Writing.{write}
use Rattle.scope_rules.specs.ClauseEvents.{group}
use Rattle.scope_names_events.proofs.clauses.+groups.Given as goal

abbrev pub invariant-write_groups-loop-group : goal.invariant-write_groups-loop-group
invariant-write_groups-loop-group l = l.out ≡ write l.initial.out (flat_map group (take l.group-index l.groups))
