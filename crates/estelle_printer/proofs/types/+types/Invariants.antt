use Rattle.std.proofs.Common.{◌≡◌, take}
use Rattle.estelle_tree.specs.declared.kind.Kind.TheVariants as k
use Rattle.estelle_printer.specs.Forms.{separated}
use Rattle.estelle_printer.specs.TypeTokens.{typed_names}
use Rattle.estelle_printer.specs.Writing.{write}
use Rattle.estelle_printer.proofs.types.+types.Given as goal

abbrev pub invariant-write_sections-loop-place : goal.invariant-write_sections-loop-place
invariant-write_sections-loop-place l = l.out ≡ write l.initial.out (separated k.Semicolon typed_names (take l.place l.sections))
