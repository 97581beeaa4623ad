use Rattle.std.proofs.Common.{◌≡◌, take}
use Rattle.estelle_model.specs.Denoted.{section_types}
use Rattle.estelle_model.specs.Definitions.{local_variables}
use Rattle.meaning_table.specs.Known.{meanings_of}
use Rattle.body_table.proofs.definitions.local_types.Given as goal

abbrev pub invariant-loop-decl : goal.invariant-loop-decl
invariant-loop-decl l = l.types ≡ section_types (meanings_of l.table) (local_variables (take l.decl-index l.decls))
