use Rattle.std.proofs.Common.{◌≡◌, ◌≤◌, ℕ, Some}
use Rattle.estelle_model.specs.Subject.{transition}
use Rattle.estelle_model.specs.Transitions.{Transition}
use Rattle.body_kinds.specs.Good.{HasClauses}
use Rattle.body_kinds_checker.proofs.presence.has_transitions.Given as goal

-- those of the transitions so far are there
abbrev pub invariant-loop-before : goal.invariant-loop-before
invariant-loop-before l = (k : ℕ) (t : Transition) → k ≤ l.before → transition l.program l.body k ≡ Some t → HasClauses l.code l.body k t
