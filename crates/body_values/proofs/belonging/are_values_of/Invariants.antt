use Rattle.std.proofs.Common.{◌≡◌, take, true}
use Rattle.estelle_model.specs.Belonging.{are_values_of}
use Rattle.body_values.proofs.belonging.are_values_of.Given as goal

abbrev pub invariant-loop-i : goal.invariant-loop-i
invariant-loop-i l = are_values_of (take l.i l.types) (take l.i l.values) ≡ true
