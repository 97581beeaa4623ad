use Rattle.std.proofs.Common.{◌≡◌, ◌+◌, length}
use Rattle.transition_select.specs.Offers as spec
use Rattle.transition_select.specs.Spans.{AreSpans}
use Rattle.transition_select.proofs.spans.block_len.Given as goal

abbrev pub invariant-loop-offer : goal.invariant-loop-offer
invariant-loop-offer l = record {
  passed : l.count + spec.block_len l.path l.rest ≡ spec.block_len l.path l.offers;
  within : l.count + length l.rest ≡ length l.offers;
  spans : AreSpans l.rest l.ahead;
}

abbrev pub decreases-loop-offer : goal.decreases-loop-offer
decreases-loop-offer l = length l.rest
