use Rattle.std.proofs.Common.{◌<◌, ◌≤◌, ℕ, List, length, filter}
use Rattle.estelle_tree.specs.Paths.{Path as Seen}
use Rattle.estelle_model.specs.Subject.{Subject}
use Rattle.estelle_model.specs.Situation.{Situation}
use Rattle.estelle_model.specs.Schedule.{is_able}
use Rattle.estelle_model_legality.specs.Choices.{AreTree}
use Rattle.transition_select.specs.Offers.{AreOffersOfEach}
use Rattle.transition_select.specs.Spans.{AreSpans}
use Rattle.transition_select.specs.Choosing.{IsLeft}
use Rattle.transition_select.proofs.choice.able_block.Given as goal

abbrev pub invariant-loop-len : goal.invariant-loop-len
invariant-loop-len l = record {
  left : (s : Subject) (budget : ℕ) (g : Situation) (ms : List Seen) → AreTree s g.core.instances → AreOffersOfEach s budget g ms l.fn.offers → l.fn.number < length (filter (is_able s budget g) ms)
      → IsLeft s budget g ms l.fn.number l.left l.rest;
  small : length l.rest ≤ length l.fn.offers;
  spans : AreSpans l.rest l.ahead;
}

abbrev pub decreases-loop-len : goal.decreases-loop-len
decreases-loop-len l = length l.rest
