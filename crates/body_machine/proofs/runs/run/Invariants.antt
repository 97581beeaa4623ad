use Rattle.body_machine.specs.Seen.{seen}
use Rattle.body_machine.proofs.Measure.{measure}
use Rattle.body_machine.proofs.Running.{bound_of, IsReached}
use Rattle.body_machine.proofs.runs.run.Given as goal

abbrev pub invariant-loop : goal.invariant-loop
invariant-loop l = IsReached l.bodies l.numbers l.code (seen l.fn.machine) (seen l.machine)

abbrev pub decreases-loop : goal.decreases-loop
decreases-loop l = measure (bound_of l.code (seen l.fn.machine)) (seen l.machine)
