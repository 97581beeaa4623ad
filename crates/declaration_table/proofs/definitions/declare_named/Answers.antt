use Rattle.std.proofs.Common.{arith}
use Rattle.type_rules.specs.Meanings.{named_type}
use Rattle.type_rules.specs.TypeSites.{variable_of}
use Rattle.declaration_table.proofs.Declaring.{each_more, declare-one}
use Rattle.declaration_table.proofs.definitions.declare_named.Goals as goal

pub loop-name-preserved : goal.loop-name-preserved
loop-name-preserved c =
    let e = each_more (variable_of (λ env. named_type env c.args.type_name.now)) c.args.names.now c.loop-name.name-index c.name-item.result c.args.table.now c.loop-name-test.true c.name-item.is in
    grind (arith, declare-one)
