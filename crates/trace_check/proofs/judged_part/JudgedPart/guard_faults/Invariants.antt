use Rattle.trace_check.specs.JudgedParts.{now}
use Rattle.trace_check.proofs.Deciding.{NoneShorter}
use Rattle.trace_check.proofs.judged_part.JudgedPart.guard_faults.Given as goal

-- none of the shorter paths above the instance is that of such a system
abbrev pub invariant-loop-len : goal.invariant-loop-len
invariant-loop-len l = NoneShorter l.self.state.program.now l.self.state.budget (now l.self) l.path l.trans l.kind l.len
