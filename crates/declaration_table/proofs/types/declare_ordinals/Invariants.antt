use Rattle.std.proofs.Common.{◌≡◌, take}
use Rattle.std.specs.List.{flat_map}
use Rattle.type_rules.specs.Meanings.{declare_all}
use Rattle.type_rules.specs.TypeSites.{ordinal_declares}
use Rattle.declaration_table.proofs.types.declare_ordinals.Given as goal

abbrev pub invariant-loop-ordinal : goal.invariant-loop-ordinal
invariant-loop-ordinal l = l.table ≡ declare_all l.initial.table (flat_map ordinal_declares (take l.ordinal-index l.ordinals))
