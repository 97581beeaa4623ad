use Rattle.std.proofs.Common.{◌≡◌, ◌++◌, take}
use Rattle.std.specs.List.{flat_map}
use Rattle.estelle_tree.specs.declared.tree.specification.Decl.{Decl}
use Rattle.meaning_table.specs.Known.{meanings_of}
use Rattle.body_table.specs.Contributions.{ips_of}
use Rattle.body_program_numbers.specs.Numbering.{points_of}
use Rattle.body_program_numbers.proofs.points.push_own_points.Given as goal

abbrev pub invariant-loop-decl : goal.invariant-loop-decl
invariant-loop-decl l = l.out ≡ l.initial.out ++ flat_map (λ (d : Decl). flat_map (points_of (meanings_of l.table) l.channels) (ips_of d)) (take l.decl-index l.decls)
