use Rattle.std.proofs.Common.{◌-◌, length}
use Rattle.trace_text.proofs.Runs.{RunsTo}
use Rattle.trace_text.proofs.words.run_end.Given as goal

abbrev pub invariant-loop-end : goal.invariant-loop-end
invariant-loop-end l = RunsTo l.bytes l.at l.end

abbrev pub decreases-loop-end : goal.decreases-loop-end
decreases-loop-end l = length l.bytes - l.end
