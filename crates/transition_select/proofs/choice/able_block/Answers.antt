use Rattle.std.proofs.Common.{arith}
use Rattle.transition_select.proofs.Reaches.{spans_on, spans_of_block}
use Rattle.transition_select.proofs.Walks.{some_tested, none_tested, parts_of, left_here, left_before, left_behind, left_nowhere}
use Rattle.transition_select.proofs.choice.able_block.Goals as goal

-- src/choice.rt:75:17
pub returns-then-left-eq0 : goal.returns-then-left-eq0
returns-then-left-eq0 c = record {
  able = λ s budget g ms tree are less.
      left_here s budget g tree ms c.args.number c.loop-len.left c.loop-len.rest.now c.split_at.result.0.now c.split_at.result.1.now
      (parts_of s budget g tree c.loop-len.rest.now c.split_at.result.0.now c.split_at.result.1.now c.first_len-len.result (some_tested c.loop-len.rest.now c.is_empty.result c.is_empty.ensures (cc)) c.first_len-len.ensures.of_first c.split_at.ensures.front c.split_at.ensures.back)
      (c.loop-len.invariant.left s budget g ms tree are less) (cc) (cc);
  within = omega (arith, c.loop-len.invariant.small, c.split_at.ensures.front_len, c.split_at.ensures.back_len);
  spans = spans_of_block c.first_len-len.result c.loop-len.rest.now c.loop-len.ahead.now c.split_at.result.0.now c.loop-len.invariant.spans c.split_at.ensures.front;
}

-- src/choice.rt:71:5
pub loop-len-preserved-else-left-eq0 : goal.loop-len-preserved-else-left-eq0
loop-len-preserved-else-left-eq0 c = record {
  left = λ s budget g ms tree are less.
      left_before s budget g tree ms c.args.number c.loop-len.left c.loop-len.rest.now c.split_at.result.0.now c.split_at.result.1.now
      (parts_of s budget g tree c.loop-len.rest.now c.split_at.result.0.now c.split_at.result.1.now c.first_len-len.result (some_tested c.loop-len.rest.now c.is_empty.result c.is_empty.ensures (cc)) c.first_len-len.ensures.of_first c.split_at.ensures.front c.split_at.ensures.back)
      (c.loop-len.invariant.left s budget g ms tree are less) (cc) (omega (arith, c.if-left-eq0.false));
  small = omega (arith, c.loop-len.invariant.small, c.split_at.ensures.back_len);
  spans = spans_on c.first_len-len.result c.loop-len.rest.now c.loop-len.ahead.now c.split_at.result.1.now c.behind-after.result.now c.loop-len.invariant.spans c.split_at.ensures.back c.behind-after.ensures;
}

-- src/choice.rt:71:5
pub loop-len-preserved : goal.loop-len-preserved
loop-len-preserved c = record {
  left = λ s budget g ms tree are less.
      left_behind s budget g tree ms c.args.number c.loop-len.left c.loop-len.rest.now c.split_at.result.0.now c.split_at.result.1.now
      (parts_of s budget g tree c.loop-len.rest.now c.split_at.result.0.now c.split_at.result.1.now c.first_len-len.result (some_tested c.loop-len.rest.now c.is_empty.result c.is_empty.ensures (cc)) c.first_len-len.ensures.of_first c.split_at.ensures.front c.split_at.ensures.back)
      (c.loop-len.invariant.left s budget g ms tree are less) (cc);
  small = omega (arith, c.loop-len.invariant.small, c.split_at.ensures.back_len);
  spans = spans_on c.first_len-len.result c.loop-len.rest.now c.loop-len.ahead.now c.split_at.result.1.now c.behind-after.result.now c.loop-len.invariant.spans c.split_at.ensures.back c.behind-after.ensures;
}

-- src/choice.rt:65:1
pub returns : goal.returns
returns c = record {
  able = λ s budget g ms tree are less.
      absurd (left_nowhere s budget g tree ms c.args.number c.loop-len.left c.loop-len.rest.now (none_tested c.loop-len.rest.now c.is_empty.result c.is_empty.ensures (cc)) less
      (c.loop-len.invariant.left s budget g ms tree are less));
  within = c.loop-len.invariant.small;
  spans = c.loop-len.invariant.spans;
}

pub offers_some-requires : goal.offers_some-requires
offers_some-requires c = spans_of_block c.first_len-len.result c.loop-len.rest.now c.loop-len.ahead.now c.split_at.result.0.now c.loop-len.invariant.spans c.split_at.ensures.front
