use Rattle.std.proofs.Common.{◌≡◌, take}
use Rattle.estelle_tree.specs.declared.kind.Kind.TheVariants as k
use Rattle.estelle_printer.specs.Forms.{separated}
use Rattle.estelle_printer.specs.StatementTokens.{case_, stmt}
use Rattle.estelle_printer.specs.Writing.{write}
use Rattle.estelle_printer.proofs.statements.+statements.Given as goal

abbrev pub invariant-write_cases-loop-place : goal.invariant-write_cases-loop-place
invariant-write_cases-loop-place l = l.out ≡ write l.initial.out (separated k.Semicolon case_ (take l.place l.cases))

abbrev pub invariant-write_list-loop-place : goal.invariant-write_list-loop-place
invariant-write_list-loop-place l = l.out ≡ write l.initial.out (separated k.Semicolon stmt (take l.place l.stmts))
