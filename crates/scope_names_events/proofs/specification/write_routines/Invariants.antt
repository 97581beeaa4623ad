use Rattle.std.proofs.Common.{◌≡◌, take}
use Rattle.std.specs.List.{flat_map}
use Rattle.scope_names_events.specs.Writing.{write}
use Rattle.scope_rules.specs.SpecificationEvents.{decl}
use Rattle.scope_names_events.proofs.specification.write_routines.Given as goal

abbrev pub invariant-loop-decl : goal.invariant-loop-decl
invariant-loop-decl l = l.out ≡ write l.initial.out (flat_map (λ x. (decl x).routine) (take l.decl-index l.decls))
