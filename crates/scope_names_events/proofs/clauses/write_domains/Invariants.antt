use Rattle.std.proofs.Common.{◌≡◌, take}
use Rattle.std.specs.List.{flat_map}
use Rattle.scope_names_events.specs.Writing.{write}
use Rattle.scope_rules.specs.TypeEvents.{ordinal_events}
use Rattle.scope_names_events.proofs.clauses.write_domains.Given as goal

abbrev pub invariant-loop-any : goal.invariant-loop-any
invariant-loop-any l = l.out ≡ write l.initial.out (flat_map (λ x. ordinal_events x.domain) (take l.any-index l.domains))
