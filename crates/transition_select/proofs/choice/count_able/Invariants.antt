use Rattle.std.proofs.Common.{◌≤◌, ◌+◌, ℕ, List, length}
use Rattle.estelle_tree.specs.Paths.{Path as Seen}
use Rattle.estelle_model.specs.Subject.{Subject}
use Rattle.estelle_model.specs.Situation.{Situation}
use Rattle.estelle_model_legality.specs.Choices.{AreTree}
use Rattle.transition_select.specs.Offers.{AreOffersOfEach}
use Rattle.transition_select.specs.Spans.{AreSpans}
use Rattle.transition_select.specs.Choosing.{AreCounted}
use Rattle.transition_select.proofs.choice.count_able.Given as goal

abbrev pub invariant-loop-rest : goal.invariant-loop-rest
invariant-loop-rest l = record {
  counted : (s : Subject) (budget : ℕ) (g : Situation) (ms : List Seen) → AreTree s g.core.instances → AreOffersOfEach s budget g ms l.fn.offers → AreCounted s budget g ms l.count l.rest;
  small : l.count + length l.rest ≤ length l.fn.offers;
  spans : AreSpans l.rest l.ahead;
}

abbrev pub decreases-loop-rest : goal.decreases-loop-rest
decreases-loop-rest l = length l.rest
