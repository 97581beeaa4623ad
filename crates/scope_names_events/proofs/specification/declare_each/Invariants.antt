use Rattle.std.proofs.Common.{◌≡◌, length, map}
use Rattle.std.specs.Char.{to_ascii_lowercase}
use Rattle.scope_rules.specs.SpecificationEvents.{required_event}
use Rattle.scope_names_events.specs.Writing.{write}
use Rattle.scope_names_events.proofs.specification.declare_each.Given as goal

abbrev pub invariant-loop-identifiers : goal.invariant-loop-identifiers
invariant-loop-identifiers l =
    write l.out (map (λ e. required_event (map to_ascii_lowercase e.0.now) e.1) l.identifiers)
    ≡ write l.initial.out (map (λ e. required_event (map to_ascii_lowercase e.0.now) e.1) l.initial.identifiers)

abbrev pub decreases-loop-identifiers : goal.decreases-loop-identifiers
decreases-loop-identifiers l = length l.identifiers
