use Rattle.std.proofs.Common.{◌≡◌, drop}
use Rattle.scope_rules.specs.ClauseEvents.{any_of}
use Rattle.scope_rules.specs.SpecificationEvents.{decl}
use Rattle.scope_names_events.proofs.specification.any_declares_states.Given as goal

abbrev pub invariant-loop-decl : goal.invariant-loop-decl
invariant-loop-decl l = any_of (λ x. (decl x).states) (drop l.decl-index l.decls) ≡ any_of (λ x. (decl x).states) l.decls
