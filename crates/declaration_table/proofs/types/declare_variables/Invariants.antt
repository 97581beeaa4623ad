use Rattle.std.proofs.Common.{◌≡◌, take}
use Rattle.type_rules.specs.Meanings.{declare_all}
use Rattle.type_rules.specs.TypeSites.{variables, type_in, typing}
use Rattle.declaration_table.proofs.types.declare_variables.Given as goal

abbrev pub invariant-loop-name : goal.invariant-loop-name
invariant-loop-name l = l.table ≡ declare_all l.initial.table (variables (type_in (typing l.type_expr)) (take l.name-index l.names))
