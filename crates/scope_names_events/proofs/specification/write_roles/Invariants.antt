use Rattle.std.proofs.Common.{◌≡◌, map, take}
use Rattle.scope_names_events.specs.Writing.{write}
use Rattle.scope_rules.specs.declared.event.Event.TheVariants.{By}
use Rattle.scope_names_events.proofs.specification.write_roles.Given as goal

abbrev pub invariant-loop-role : goal.invariant-loop-role
invariant-loop-role l = l.out ≡ write l.initial.out (map By (take l.role-index l.roles))
