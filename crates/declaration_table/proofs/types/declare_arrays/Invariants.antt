use Rattle.std.proofs.Common.{◌≡◌, drop}
use Rattle.type_rules.specs.Meanings.{declare_all}
use Rattle.type_rules.specs.TypeSites.{arrays, type_in, typing}
use Rattle.declaration_table.proofs.types.declare_arrays.Given as goal

abbrev pub invariant-loop-i : goal.invariant-loop-i
invariant-loop-i l = declare_all l.table (arrays l.at (drop l.i l.indices) (type_in (typing l.component))) ≡ declare_all l.initial.table (arrays l.initial.at l.indices (type_in (typing l.component)))
