use Rattle.std.proofs.Common.{◌≡◌, take}
use Rattle.std.specs.List.{flat_map}
use Rattle.scope_names_events.specs.Writing.{write}
use Rattle.scope_rules.specs.TypeEvents.{section}
use Rattle.scope_names_events.proofs.types.+types.Given as goal

abbrev pub invariant-write_section_types-loop-section : goal.invariant-write_section_types-loop-section
invariant-write_section_types-loop-section l = l.out ≡ write l.initial.out (flat_map (λ x. (section x).1.1) (take l.section-index l.sections))
