use Rattle.std.proofs.Common.{◌≡◌, take, ◌++◌}
use Rattle.std.specs.List.{flat_map}
use Rattle.type_rules.specs.SpecificationSites.{formal_one}
use Rattle.declaration_table.proofs.definitions.push_formals.Given as goal

abbrev pub invariant-loop-formal : goal.invariant-loop-formal
invariant-loop-formal l = l.out ≡ l.initial.out ++ flat_map (formal_one l.table) (take l.formal-index l.formals)
