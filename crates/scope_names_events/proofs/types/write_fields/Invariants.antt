use Rattle.std.proofs.Common.{◌≡◌, ◌∷◌, [], take}
use Rattle.std.specs.List.{flat_map}
use Rattle.scope_names_events.specs.Writing.{write}
use Rattle.scope_rules.specs.declared.declaration.Denotes.TheVariants as d
use Rattle.scope_rules.specs.declared.event.Event.TheVariants.{Declare}
use Rattle.scope_rules.specs.TypeEvents.{section}
use Rattle.scope_names_events.proofs.types.write_fields.Given as goal

abbrev pub invariant-loop-section : goal.invariant-loop-section
invariant-loop-section l = l.out ≡ write l.initial.out (flat_map (λ x. Declare (section x).0.names d.Field (section x).1.0 ∷ []) (take l.section-index l.sections))
