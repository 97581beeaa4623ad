use Rattle.std.proofs.Common.{◌≡◌, take, map}
use Rattle.type_rules.specs.Meanings.{declare_all}
use Rattle.type_rules.specs.SpecificationSites.{declare_as}
use Rattle.declaration_table.proofs.specification.declare_each.Given as goal

abbrev pub invariant-loop-name : goal.invariant-loop-name
invariant-loop-name l = l.table ≡ declare_all l.initial.table (map (declare_as (λ env. l.meaning)) (take l.name-index l.names))
