use Rattle.std.proofs.Common.{◌≡◌, ◌++◌, take}
use Rattle.std.specs.List.{flat_map}
use Rattle.estelle_tree.specs.declared.tree.specification.Decl.{Decl}
use Rattle.body_table.specs.Standings.{inner}
use Rattle.body_program_numbers.specs.Outline.{decl}
use Rattle.body_program_numbers.specs.Found.{channels, headers, standings, routine_lists}
use Rattle.body_program_numbers.proofs.outline.+outline.Given as goal

abbrev pub invariant-push_decls-loop-decl : goal.invariant-push_decls-loop-decl
invariant-push_decls-loop-decl l =
    (channels l.out.channels ≡ channels l.initial.out.channels ++ flat_map (λ (d : Decl). (decl d).channels) (take l.decl-index l.decls))
    × (headers l.out.headers ≡ headers l.initial.out.headers ++ flat_map (λ (d : Decl). (decl d).headers) (take l.decl-index l.decls))
    × (standings l.out.bodies ≡ standings l.initial.out.bodies ++ inner l.by_default (take l.decl-index l.decls))
    × (routine_lists l.out.bodies ≡ routine_lists l.initial.out.bodies ++ flat_map (λ (d : Decl). (decl d).bodies) (take l.decl-index l.decls))
