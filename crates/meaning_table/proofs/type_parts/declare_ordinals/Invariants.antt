use Rattle.std.proofs.Common.{◌≡◌, take}
use Rattle.std.specs.List.{flat_map}
use Rattle.estelle_model.specs.Denoted.{ordinal_declares}
use Rattle.meaning_table.specs.Known.{declare_all}
use Rattle.meaning_table.proofs.type_parts.declare_ordinals.Given as goal

abbrev pub invariant-loop-ordinal : goal.invariant-loop-ordinal
invariant-loop-ordinal l = l.table ≡ declare_all l.initial.table (flat_map ordinal_declares (take l.ordinal-index l.ordinals))
