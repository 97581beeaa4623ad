use Rattle.std.proofs.Common.{◌≡◌, ◌≤◌}
use Rattle.trace_check.specs.JudgedParts.{IsJudgedPart}
use Rattle.trace_check.proofs.judging.judge_rest.Given as goal

-- the events before this one apply
abbrev pub invariant-loop-index : goal.invariant-loop-index
invariant-loop-index l = record {
  keeps : IsJudgedPart l.judged_part;
  program : l.judged_part.state.program ≡ l.fn.judged_part.state.program;
  budget : l.judged_part.state.budget ≡ l.fn.judged_part.state.budget;
  events : l.judged_part.events ≡ l.fn.judged_part.events;
  count : l.judged_part.count ≡ l.index;
  some : 1 ≤ l.index;
}
