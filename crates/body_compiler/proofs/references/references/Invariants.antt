use Rattle.std.proofs.Common.{◌≡◌, take}
use Rattle.std.specs.List.{flat_map}
use Rattle.meaning_table.specs.Known.{meanings_of}
use Rattle.body_compiler.specs.Whole.{reference_types}
use Rattle.body_compiler.proofs.references.references.Given as goal

abbrev pub invariant-loop-formal : goal.invariant-loop-formal
invariant-loop-formal l = l.types ≡ flat_map (reference_types (meanings_of l.table)) (take l.formal-index l.formal-items)
