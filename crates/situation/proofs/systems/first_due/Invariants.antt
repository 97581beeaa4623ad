use Rattle.std.proofs.Common.{take}
use Rattle.situation_steps.specs.Systems.{NoneIsDue}
use Rattle.situation.proofs.systems.first_due.Given as goal

abbrev pub invariant-loop-at : goal.invariant-loop-at
invariant-loop-at l = NoneIsDue (take l.at l.systems)
