use Rattle.std.proofs.Common.{◌≡◌, drop}
use Rattle.scope_rules.specs.ClauseEvents.{any_of, body_states}
use Rattle.scope_names_events.proofs.specification.any_has_states.Given as goal

abbrev pub invariant-loop-trans : goal.invariant-loop-trans
invariant-loop-trans l = any_of (λ t. body_states t.body) (drop l.trans-index l.trans) ≡ any_of (λ t. body_states t.body) l.trans
