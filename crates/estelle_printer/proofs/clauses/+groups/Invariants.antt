use Rattle.std.proofs.Common.{◌≡◌, take}
use Rattle.std.specs.List.{flat_map}
use Rattle.estelle_printer.specs.ClauseTokens.{group}
use Rattle.estelle_printer.specs.Writing.{write}
use Rattle.estelle_printer.proofs.clauses.+groups.Given as goal

abbrev pub invariant-write_groups-loop-group : goal.invariant-write_groups-loop-group
invariant-write_groups-loop-group l = l.out ≡ write l.initial.out (flat_map group (take l.group-index l.groups))
