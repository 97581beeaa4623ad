use Rattle.std.proofs.Common.{◌≡◌, ◌++◌, take}
use Rattle.std.specs.List.{flat_map}
use Rattle.estelle_model.specs.Denoted.{section_types}
use Rattle.meaning_table.specs.Known.{meanings_of}
use Rattle.body_table.specs.Contributions.{variables_of}
use Rattle.body_table.proofs.root.push_variable_types.Given as goal

abbrev pub invariant-loop-decl : goal.invariant-loop-decl
invariant-loop-decl l = l.out ≡ l.initial.out ++ section_types (meanings_of l.table) (flat_map variables_of (take l.decl-index l.decls))
