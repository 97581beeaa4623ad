use Rattle.std.proofs.Common.{◌≡◌, ◌+◌, drop}
use Rattle.estelle_model.specs.Denoted.{sections_declare, count_names}
use Rattle.estelle_model.specs.Definitions.{local_variables}
use Rattle.meaning_table.specs.Known.{declare_all}
use Rattle.meaning_table.specs.Kinds.{numbered_behind}
use Rattle.meaning_table.specs.declared.kinds.VariableKind.TheVariants.{Local}
use Rattle.body_table.proofs.definitions.declare_locals.Given as goal

abbrev pub invariant-loop-decl : goal.invariant-loop-decl
invariant-loop-decl g l =
    (declare_all l.table (sections_declare (numbered_behind Local (g.B.Base.base l.base)) l.number (local_variables (drop l.decl-index l.decls)))
    ≡ declare_all l.initial.table (sections_declare (numbered_behind Local (g.B.Base.base l.base)) l.first (local_variables l.decls)))
    × (l.number + count_names (local_variables (drop l.decl-index l.decls)) ≡ l.first + count_names (local_variables l.decls))
