use Rattle.std.proofs.Common.{◌≡◌, take}
use Rattle.std.specs.List.{flat_map}
use Rattle.scope_rules.specs.ExpressionEvents.{selector}
use Rattle.scope_names_events.proofs.expressions.steps_of.Given as goal

abbrev pub invariant-loop-selector : goal.invariant-loop-selector
invariant-loop-selector l = l.steps ≡ flat_map (λ s. (selector s).0) (take l.selector-index l.selectors)
