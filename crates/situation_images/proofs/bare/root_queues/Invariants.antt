use Rattle.std.proofs.Common.{◌≡◌, ◌+◌, ◌≤◌, []}
use Rattle.effect_log.specs.Underway.{declared_all}
use Rattle.situation_images.proofs.Alone.{first_points}
use Rattle.situation_images.proofs.bare.root_queues.Given as goal

abbrev pub invariant-loop-number : goal.invariant-loop-number
invariant-loop-number l = (l.queues.queues ≡ declared_all l.program 0 (first_points l.program l.number) []) × (l.count ≤ l.queues.room + l.number)
