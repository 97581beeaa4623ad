use Rattle.std.proofs.Common.{◌≡◌, take, map}
use Rattle.estelle_model.specs.Places.{blanked}
use Rattle.body_values.proofs.whole.+blanked.Given as goal

abbrev pub invariant-all_blanked-loop-part : goal.invariant-all_blanked-loop-part
invariant-all_blanked-loop-part l = l.values ≡ map blanked (take l.part-index l.parts)
