use Rattle.std.proofs.Common.{◌≡◌, ◌<◌, ℕ, Some}
use Rattle.estelle_model.specs.Subject.{transition}
use Rattle.estelle_model.specs.Transitions.{Transition}
use Rattle.body_kinds.specs.Good.{HasClauses}
use Rattle.body_kinds_checker.proofs.presence.has_units.Given as goal

-- those of the bodies so far are there
abbrev pub invariant-loop-body : goal.invariant-loop-body
invariant-loop-body l = (b k : ℕ) (t : Transition) → b < l.body → transition l.program b k ≡ Some t → HasClauses l.code b k t
