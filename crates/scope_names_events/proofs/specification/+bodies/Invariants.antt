use Rattle.std.proofs.Common.{◌≡◌, take}
use Rattle.std.specs.List.{flat_map}
use Rattle.scope_names_events.specs.Writing.{write}
use Rattle.scope_rules.specs.SpecificationEvents.{decl}
use Rattle.scope_names_events.proofs.specification.+bodies.Given as goal

abbrev pub invariant-write_decls-loop-decl : goal.invariant-write_decls-loop-decl
invariant-write_decls-loop-decl l = l.out ≡ write l.initial.out (flat_map (λ x. (decl x).events) (take l.decl-index l.decls))
