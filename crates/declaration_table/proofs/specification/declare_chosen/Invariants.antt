use Rattle.std.proofs.Common.{◌≡◌, take, map}
use Rattle.type_rules.specs.Meanings.{declare_all}
use Rattle.type_rules.specs.SpecificationSites.{chosen_name}
use Rattle.declaration_table.proofs.specification.declare_chosen.Given as goal

abbrev pub invariant-loop-name : goal.invariant-loop-name
invariant-loop-name l = l.table ≡ declare_all l.initial.table (map (chosen_name l.any) (take l.name-index l.name-items))
