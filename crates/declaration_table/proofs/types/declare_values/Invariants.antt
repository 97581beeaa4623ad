use Rattle.std.proofs.Common.{◌≡◌, drop}
use Rattle.type_rules.specs.Meanings.{declare_all}
use Rattle.type_rules.specs.TypeSites.{enumerated}
use Rattle.declaration_table.proofs.types.declare_values.Given as goal

abbrev pub invariant-loop-i : goal.invariant-loop-i
invariant-loop-i l = declare_all l.table (enumerated l.at l.i (drop l.i l.values)) ≡ declare_all l.initial.table (enumerated l.at 0 l.values)
