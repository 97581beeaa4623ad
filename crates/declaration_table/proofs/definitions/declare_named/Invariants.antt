use Rattle.std.proofs.Common.{◌≡◌, take}
use Rattle.type_rules.specs.Meanings.{declare_all}
use Rattle.type_rules.specs.SpecificationSites.{named_variables}
use Rattle.declaration_table.proofs.definitions.declare_named.Given as goal

abbrev pub invariant-loop-name : goal.invariant-loop-name
invariant-loop-name l = l.table ≡ declare_all l.initial.table (named_variables (take l.name-index l.names) l.type_name)
