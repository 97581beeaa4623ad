use Rattle.std.proofs.Common.{◌≡◌, take, ◌++◌}
use Rattle.type_rules.specs.SpecificationSites.{parameters}
use Rattle.declaration_table.proofs.definitions.push_parameters.Given as goal

abbrev pub invariant-loop-name : goal.invariant-loop-name
invariant-loop-name l = l.out ≡ l.initial.out ++ parameters l.table l.is_var (take l._name-index l.names) l.type_name
