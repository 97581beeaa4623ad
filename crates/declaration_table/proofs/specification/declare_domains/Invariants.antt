use Rattle.std.proofs.Common.{◌≡◌, take}
use Rattle.std.specs.List.{flat_map}
use Rattle.type_rules.specs.Meanings.{declare_all}
use Rattle.type_rules.specs.TypeSites.{ordinal_declares}
use Rattle.declaration_table.proofs.specification.declare_domains.Given as goal

abbrev pub invariant-loop-any : goal.invariant-loop-any
invariant-loop-any l = l.table ≡ declare_all l.initial.table (flat_map (λ x. ordinal_declares x.domain) (take l.any-index l.domains))
