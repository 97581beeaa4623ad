use Rattle.body_compiler.specs.Whole.{IsFree, HasBodies}
use Rattle.body_compiler.proofs.compiler.all_units.Given as goal

abbrev pub invariant-loop-number : goal.invariant-loop-number
invariant-loop-number l = record { free : IsFree l.units l.number; has : HasBodies l.numbering l.units l.number }
