use Rattle.std.proofs.Common.{◌≡◌, take, map}
use Rattle.estelle_model.specs.declared.meaning.Passing.TheVariants.{ByValue}
use Rattle.body_program.proofs.routines.by_value.Given as goal

abbrev pub invariant-loop-each : goal.invariant-loop-each
invariant-loop-each l = l.passings ≡ map ByValue (take l.each-index l.types)
