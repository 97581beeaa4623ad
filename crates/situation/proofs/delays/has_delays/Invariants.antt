use Rattle.std.proofs.Common.{◌≡◌, ◌-◌, false}
use Rattle.std.specs.List.{list_any, range_with_len}
use Rattle.situation.proofs.Delayed.{body_delays}
use Rattle.situation.proofs.delays.has_delays.Given as goal

abbrev pub invariant-loop-body : goal.invariant-loop-body
invariant-loop-body l = list_any (body_delays l.program) (range_with_len 0 l.body) ≡ false

abbrev pub decreases-loop-body : goal.decreases-loop-body
decreases-loop-body l = 4294967296 - l.body
