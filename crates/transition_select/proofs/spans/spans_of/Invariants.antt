use Rattle.std.proofs.Common.{◌≡◌, ◌≤◌, length, drop}
use Rattle.transition_select.specs.Spans.{AreSpans}
use Rattle.transition_select.proofs.spans.spans_of.Given as goal

abbrev pub invariant-loop-left : goal.invariant-loop-left
invariant-loop-left l = record {
  len : length l.spans.items ≡ length l.offers;
  within : l.left ≤ length l.offers;
  spans : AreSpans (drop l.left l.offers) (drop l.left l.spans.items);
}

abbrev pub decreases-loop-left : goal.decreases-loop-left
decreases-loop-left l = l.left
