use Rattle.std.proofs.Common.{◌≡◌, ◌+◌, drop}
use Rattle.estelle_model.specs.Denoted.{rising}
use Rattle.meaning_table.specs.Known.{with_meanings}
use Rattle.meaning_table.specs.Kinds.{plain_meaning}
use Rattle.meaning_table.proofs.declaring.declare_plain.Given as goal

abbrev pub invariant-loop-name : goal.invariant-loop-name
invariant-loop-name l =
    (with_meanings l.table (rising (plain_meaning l.kind) l.number (drop l.name-index l.names)) ≡ with_meanings l.initial.table (rising (plain_meaning l.kind) l.first l.names))
    × (l.number ≡ l.first + l.name-index)
