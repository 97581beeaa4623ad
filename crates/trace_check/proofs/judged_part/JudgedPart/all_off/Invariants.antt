use Rattle.std.proofs.Common.{map}
use Rattle.trace_check.specs.JudgedParts.{now}
use Rattle.trace_check.proofs.Found.{OffBefore}
use Rattle.trace_check.proofs.judged_part.JudgedPart.all_off.Given as goal

-- those of the parts so far that are systems are off
abbrev pub invariant-loop-part : goal.invariant-loop-part
invariant-loop-part l = OffBefore l.self.state.program.now l.self.state.budget (now l.self) (map (λ r. r.now) l.part-items) l.part-index
