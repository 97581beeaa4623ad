use Rattle.std.proofs.Common.{◌≡◌, take}
use Rattle.std.specs.List.{flat_map}
use Rattle.type_rules.specs.Meanings.{declare_all}
use Rattle.type_rules.specs.SpecificationSites.{decl}
use Rattle.declaration_table.proofs.specification.+bodies.Given as goal

abbrev pub invariant-declare_decls-loop-decl : goal.invariant-declare_decls-loop-decl
invariant-declare_decls-loop-decl l = l.table ≡ declare_all l.initial.table (flat_map (λ d. (decl d).declares l.at) (take l.decl-index l.decls))
