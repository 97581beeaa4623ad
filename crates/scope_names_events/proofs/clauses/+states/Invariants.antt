use Rattle.std.proofs.Common.{◌≡◌, drop}
use Rattle.scope_rules.specs.ClauseEvents.{any_of, group_states}
use Rattle.scope_names_events.proofs.clauses.+states.Given as goal

abbrev pub invariant-groups_states-loop-group : goal.invariant-groups_states-loop-group
invariant-groups_states-loop-group l = any_of group_states (drop l.group-index l.groups) ≡ any_of group_states l.groups
