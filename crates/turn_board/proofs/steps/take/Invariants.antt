use Rattle.std.proofs.Common.{◌≡◌}
use Rattle.turn_board.specs.Seats.{IsSameSeat}
use Rattle.turn_board.proofs.steps.take.Given as goal

abbrev pub invariant-loop : goal.invariant-loop
invariant-loop g l = IsSameSeat l.initial.place l.place × (l.place.me ≡ l.initial.place.me)
