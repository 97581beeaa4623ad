use Rattle.std.proofs.Common.{◌+◌, ◌*◌, ◌≤◌, ℕ, List, length}
use Rattle.estelle_tree.specs.Paths.{Path as Seen}
use Rattle.estelle_model.specs.Subject.{Subject}
use Rattle.estelle_model.specs.Situation.{Situation}
use Rattle.estelle_model_legality.specs.Choices.{AreTree}
use Rattle.transition_select.specs.Offers.{AreOffersOfEach}
use Rattle.transition_select.specs.Spans.{AreSpans}
use Rattle.transition_select.specs.Choosing.{HasChosenSoFar}
use Rattle.transition_select.proofs.choice.+choice.Given as goal

abbrev pub decreases-choose_in : goal.decreases-choose_in
decreases-choose_in g l = 2 * length l.offers.now

abbrev pub decreases-choose_of_each : goal.decreases-choose_of_each
decreases-choose_of_each g l = 2 * length l.offers.now + 1

abbrev pub decreases-choose_of_one : goal.decreases-choose_of_one
decreases-choose_of_one g l = 2 * length l.offers.now + 1

abbrev pub invariant-choose_of_each-loop-rest : goal.invariant-choose_of_each-loop-rest
invariant-choose_of_each-loop-rest g l = record {
  chosen : (s : Subject) (budget : ℕ) (t : Situation) (ms : List Seen) → AreTree s t.core.instances → AreOffersOfEach s budget t ms l.fn.offers
      → HasChosenSoFar g.H.Chooser.draw s budget t ms l.fn.chooser l.fn.takes.items l.takes.items l.chooser l.rest;
  small : length l.rest ≤ length l.fn.offers;
  spans : AreSpans l.rest l.ahead;
}

abbrev pub decreases-choose_of_each-loop-rest : goal.decreases-choose_of_each-loop-rest
decreases-choose_of_each-loop-rest g l = length l.rest
