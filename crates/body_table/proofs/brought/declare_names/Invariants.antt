use Rattle.std.proofs.Common.{◌≡◌, take}
use Rattle.std.specs.List.{flat_map}
use Rattle.meaning_table.specs.Known.{declare_all}
use Rattle.body_table.specs.Contributions.{names_of}
use Rattle.body_table.proofs.brought.declare_names.Given as goal

abbrev pub invariant-loop-decl : goal.invariant-loop-decl
invariant-loop-decl l = l.table ≡ declare_all l.initial.table (flat_map (names_of l.by_default) (take l.decl-index l.decls))
