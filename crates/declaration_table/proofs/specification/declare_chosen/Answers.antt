use Rattle.std.proofs.Common.{arith}
use Rattle.type_rules.specs.SpecificationSites.{chosen_name}
use Rattle.declaration_table.proofs.Declaring.{each_more, declare-one}
use Rattle.declaration_table.proofs.specification.declare_chosen.Goals as goal

pub loop-name-preserved : goal.loop-name-preserved
loop-name-preserved c =
    let e = each_more (chosen_name c.args.any.now) c.items-name-items.result.now c.loop-name.name-index c.name-item.result c.args.table.now c.loop-name-test.true c.name-item.is in
    grind (arith, declare-one)
