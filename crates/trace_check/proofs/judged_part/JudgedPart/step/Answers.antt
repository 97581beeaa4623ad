use Rattle.trace_check.proofs.Judged.{after_fault}
use Rattle.trace_check.proofs.judged_part.JudgedPart.step.Goals as goal

pub returns-then-is_some : goal.returns-then-is_some
returns-then-is_some c = after_fault c.args.self.now c.requires.keeps c.args.event.now c.requires.next c.is_some.result c.is_some.ensures c.if-is_some.true
