use Rattle.std.proofs.Common.{arith}
use Rattle.type_rules.specs.TypeSites.{ordinal_declares}
use Rattle.declaration_table.proofs.Declaring.{chain_more}
use Rattle.declaration_table.proofs.specification.declare_domains.Goals as goal

pub loop-any-preserved : goal.loop-any-preserved
loop-any-preserved c =
    let e = chain_more (λ x. ordinal_declares x.domain) c.args.domains.now c.loop-any.any-index c.any-item.result c.args.table.now c.loop-any-test.true c.any-item.is in
    grind (arith)
