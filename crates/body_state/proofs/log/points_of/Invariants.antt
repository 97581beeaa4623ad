use Rattle.std.proofs.Common.{◌≡◌, map}
use Rattle.estelle_model.specs.Actions.{at, count_from}
use Rattle.body_state.proofs.log.points_of.Given as goal

abbrev pub invariant-loop-number : goal.invariant-loop-number
invariant-loop-number l = l.points ≡ map (at l.path) (count_from 0 l.number)
