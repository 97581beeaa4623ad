use Rattle.std.proofs.Common.{arith}
use Rattle.transition_select.proofs.Reaches.{block_on, spans_on}
use Rattle.transition_select.proofs.spans.block_len.Goals as goal

pub loop-offer-preserved : goal.loop-offer-preserved
loop-offer-preserved c =
    let rest = c.loop-offer.rest.now in
    let n = c.first_len-len.result in
    let back = c.split_at.result.1.now in
    let more = block_on c.args.path.now rest c.in-Some.offer.now _ c.in-Some.ensures.cases.0 c.is_at_or_above.result c.is_at_or_above.ensures c.if-not-is_at_or_above.false n c.first_len-len.ensures.of_first back c.split_at.ensures.back in
    record {
      passed = omega (arith, c.loop-offer.invariant.passed, more);
      within = omega (arith, c.loop-offer.invariant.within, c.split_at.ensures.back_len, c.first_len-len.ensures.within);
      spans = spans_on n rest c.loop-offer.ahead.now back c.behind-ahead.result.now c.loop-offer.invariant.spans c.split_at.ensures.back c.behind-ahead.ensures;
    }
