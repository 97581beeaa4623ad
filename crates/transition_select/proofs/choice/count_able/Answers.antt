use Rattle.std.proofs.Common.{arith}
use Rattle.transition_select.proofs.Reaches.{spans_on, spans_of_block}
use Rattle.transition_select.proofs.Walks.{some_tested, none_tested, some_first, parts_of, count_more, count_same, count_all}
use Rattle.transition_select.proofs.choice.count_able.Goals as goal

-- src/choice.rt:54:5
pub loop-rest-preserved-then-offers_some : goal.loop-rest-preserved-then-offers_some
loop-rest-preserved-then-offers_some c = record {
  counted = λ s budget g ms tree are.
      count_more s budget g tree ms c.loop-rest.count c.loop-rest.rest.now c.split_at.result.0.now c.split_at.result.1.now
      (parts_of s budget g tree c.loop-rest.rest.now c.split_at.result.0.now c.split_at.result.1.now c.first_len-len.result (some_tested c.loop-rest.rest.now c.is_empty.result c.is_empty.ensures (cc)) c.first_len-len.ensures.of_first c.split_at.ensures.front c.split_at.ensures.back)
      (c.loop-rest.invariant.counted s budget g ms tree are) (cc);
  small =
      let some = some_tested c.loop-rest.rest.now c.is_empty.result c.is_empty.ensures (cc) in
      let more = some_first c.loop-rest.rest.now some in
      omega (arith, c.loop-rest.invariant.small, c.split_at.ensures.back_len, c.first_len-len.ensures.of_first, more);
  spans = spans_on c.first_len-len.result c.loop-rest.rest.now c.loop-rest.ahead.now c.split_at.result.1.now c.behind-after.result.now c.loop-rest.invariant.spans c.split_at.ensures.back c.behind-after.ensures;
}

-- src/choice.rt:54:5
pub loop-rest-preserved : goal.loop-rest-preserved
loop-rest-preserved c = record {
  counted = λ s budget g ms tree are.
      count_same s budget g tree ms c.loop-rest.count c.loop-rest.rest.now c.split_at.result.0.now c.split_at.result.1.now
      (parts_of s budget g tree c.loop-rest.rest.now c.split_at.result.0.now c.split_at.result.1.now c.first_len-len.result (some_tested c.loop-rest.rest.now c.is_empty.result c.is_empty.ensures (cc)) c.first_len-len.ensures.of_first c.split_at.ensures.front c.split_at.ensures.back)
      (c.loop-rest.invariant.counted s budget g ms tree are) (cc);
  small = omega (arith, c.loop-rest.invariant.small, c.split_at.ensures.back_len);
  spans = spans_on c.first_len-len.result c.loop-rest.rest.now c.loop-rest.ahead.now c.split_at.result.1.now c.behind-after.result.now c.loop-rest.invariant.spans c.split_at.ensures.back c.behind-after.ensures;
}

-- src/choice.rt:49:1
pub returns : goal.returns
returns c s budget g ms tree are = count_all s budget g tree ms c.loop-rest.count c.loop-rest.rest.now (none_tested c.loop-rest.rest.now c.is_empty.result c.is_empty.ensures (cc)) (c.loop-rest.invariant.counted s budget g ms tree are)

pub offers_some-requires : goal.offers_some-requires
offers_some-requires c = spans_of_block c.first_len-len.result c.loop-rest.rest.now c.loop-rest.ahead.now c.split_at.result.0.now c.loop-rest.invariant.spans c.split_at.ensures.front
