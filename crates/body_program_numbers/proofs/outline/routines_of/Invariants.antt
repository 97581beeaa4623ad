use Rattle.std.proofs.Common.{◌≡◌, take}
use Rattle.std.specs.List.{flat_map}
use Rattle.estelle_tree.specs.declared.tree.specification.Decl.{Decl}
use Rattle.body_program_numbers.specs.Outline.{decl}
use Rattle.body_program_numbers.specs.Found.{routines}
use Rattle.body_program_numbers.proofs.outline.routines_of.Given as goal

abbrev pub invariant-loop-decl : goal.invariant-loop-decl
invariant-loop-decl l = routines l.routines ≡ flat_map (λ (d : Decl). (decl d).routines) (take l.decl-index l.decls)
