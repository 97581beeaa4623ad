use Rattle.std.proofs.Common.{arith}
use Rattle.type_rules.specs.SpecificationSites.{declare_as}
use Rattle.declaration_table.proofs.Declaring.{each_more, declare-one}
use Rattle.declaration_table.proofs.specification.declare_each.Goals as goal

pub loop-name-preserved : goal.loop-name-preserved
loop-name-preserved c =
    let e = each_more (declare_as (λ env. c.args.meaning)) c.args.names.now c.loop-name.name-index c.name-item.result c.args.table.now c.loop-name-test.true c.name-item.is in
    grind (arith, declare-one)
