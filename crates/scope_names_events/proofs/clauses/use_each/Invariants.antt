use Rattle.std.proofs.Common.{◌≡◌, take}
use Rattle.std.specs.List.{flat_map}
use Rattle.scope_names_events.specs.Writing.{write}
use Rattle.scope_rules.specs.TypeEvents.{use_alone}
use Rattle.scope_names_events.proofs.clauses.use_each.Given as goal

abbrev pub invariant-loop-name : goal.invariant-loop-name
invariant-loop-name l = l.out ≡ write l.initial.out (flat_map (use_alone l.need) (take l.name-index l.names))
