use Rattle.std.proofs.Common.{◌≡◌, ◌+◌, drop}
use Rattle.estelle_model.specs.Denoted.{rising}
use Rattle.meaning_table.specs.Known.{with_meanings}
use Rattle.meaning_table.specs.Kinds.{variable_meaning}
use Rattle.meaning_table.proofs.declaring.declare_variables.Given as goal

abbrev pub invariant-loop-name : goal.invariant-loop-name
invariant-loop-name l =
    (with_meanings l.table (rising (variable_meaning l.kind l.denoter) l.number (drop l.name-index l.names)) ≡ with_meanings l.initial.table (rising (variable_meaning l.kind l.denoter) l.first l.names))
    × (l.number ≡ l.first + l.name-index)
