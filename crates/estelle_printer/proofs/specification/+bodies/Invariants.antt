use Rattle.std.proofs.Common.{◌≡◌, take}
use Rattle.std.specs.List.{flat_map}
use Rattle.estelle_printer.specs.SpecificationTokens.{decl}
use Rattle.estelle_printer.specs.Writing.{write}
use Rattle.estelle_printer.proofs.specification.+bodies.Given as goal

abbrev pub invariant-write_decls-loop-decl : goal.invariant-write_decls-loop-decl
invariant-write_decls-loop-decl l = l.out ≡ write l.initial.out (flat_map decl (take l.decl-index l.decls))
