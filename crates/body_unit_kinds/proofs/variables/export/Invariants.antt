use Rattle.std.proofs.Common.{◌≡◌, ◌<◌, ℕ, Some}
use Rattle.std.specs.Prelude.{MatchOption}
use Rattle.body_kinds.specs.Kinded.{variable_shape, HasHeader}
use Rattle.body_unit_kinds.proofs.variables.export.Given as goal

-- the bodies so far that have the header agree
abbrev pub invariant-loop-body : goal.invariant-loop-body
invariant-loop-body l = (k : ℕ) → k < l.body → HasHeader l.here.bodies.now l.here.body l.modvar k → MatchOption l.found ⊥ (λ f. variable_shape l.here.bodies.now k l.own ≡ Some f.now)
