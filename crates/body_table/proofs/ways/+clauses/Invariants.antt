use Rattle.std.proofs.Common.{◌≡◌, take}
use Rattle.std.specs.List.{flat_map}
use Rattle.estelle_model.specs.Definitions.{clause_declares}
use Rattle.meaning_table.specs.Known.{declare_all}
use Rattle.body_table.specs.Ways.{group_clauses}
use Rattle.body_table.proofs.ways.+clauses.Given as goal

abbrev pub invariant-declare_group_clauses-loop-group : goal.invariant-declare_group_clauses-loop-group
invariant-declare_group_clauses-loop-group l = l.table ≡ declare_all l.initial.table (flat_map (λ g. flat_map clause_declares (group_clauses g)) (take l.group-index l.groups))
