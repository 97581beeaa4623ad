use Rattle.std.proofs.Common.{◌≢◌, ◌+◌, ◌*◌, ◌≤◌, ℕ, [], length}
use Rattle.estelle_tree.specs.Paths.{Path as Seen}
use Rattle.estelle_model.specs.Subject.{Subject}
use Rattle.estelle_model.specs.Situation.{Situation}
use Rattle.estelle_model_legality.specs.Choices.{AreTree}
use Rattle.estelle_model_legality.specs.Pending.{AreInOrder}
use Rattle.transition_select.specs.Countings.{AreCountings}
use Rattle.selection_check.specs.Countings.{AreCountingsBelow}
use Rattle.selection_check.proofs.Among.{IsAmong}
use Rattle.selection_check.proofs.Walks.{AreOnTheWay}
use Rattle.selection_check.proofs.selection.+selection.Given as goal

abbrev pub decreases-may_select : goal.decreases-may_select
decreases-may_select l = 2 * length l.counts.now

abbrev pub decreases-may_select_one : goal.decreases-may_select_one
decreases-may_select_one l = 2 * length l.counts.now + 1

abbrev pub invariant-may_select-loop-first : goal.invariant-may_select-loop-first
invariant-may_select-loop-first l = record {
  way : (s : Subject) (budget : ℕ) (g : Situation) (m : Seen) → AreTree s g.core.instances → AreInOrder g → AreCountings s budget g m l.fn.counts
      → AreOnTheWay s budget g m l.fn.takes l.left l.rest;
  small : length l.rest ≤ length l.fn.counts;
}

abbrev pub decreases-may_select-loop-first : goal.decreases-may_select-loop-first
decreases-may_select-loop-first l = length l.rest

abbrev pub invariant-may_select_one-loop-first : goal.invariant-may_select_one-loop-first
invariant-may_select_one-loop-first l = record {
  among : (s : Subject) (budget : ℕ) (g : Situation) (m : Seen) → AreTree s g.core.instances → AreInOrder g → AreCountingsBelow s budget g m l.fn.counts → l.fn.takes ≢ []
      → IsAmong s budget g m l.fn.takes l.rest;
  small : length l.rest ≤ length l.fn.counts;
}

abbrev pub decreases-may_select_one-loop-first : goal.decreases-may_select_one-loop-first
decreases-may_select_one-loop-first l = length l.rest
