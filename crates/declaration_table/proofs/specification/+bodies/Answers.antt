use Rattle.std.proofs.Common.{arith}
use Rattle.type_rules.specs.SpecificationSites.{decl}
use Rattle.declaration_table.proofs.Bodies.{parts_written}
use Rattle.declaration_table.proofs.Declaring.{chain_more, on_ok}
use Rattle.declaration_table.proofs.specification.+bodies.Goals as goal

pub declare_decls-loop-decl-preserved : goal.declare_decls-loop-decl-preserved
declare_decls-loop-decl-preserved t c =
    let e = chain_more (λ d. (decl d).declares c.args.at) c.args.decls.now c.loop-decl.decl-index c.decl-item.result c.args.table.now c.loop-decl-test.true c.decl-item.is in
    grind (arith)

pub declare_parts-returns : goal.declare_parts-returns
declare_parts-returns t c = on_ok c.chain.result (parts_written c.args.parts.now c.args.at c.args.table.now c.declare_decls.new.table c.declare_init.new.table c.chain.new.table c.items.result.now c.items-2.result.now c.items.ensures c.items-2.ensures c.in_ok-declare_decls.ensures c.in_ok-declare_init.ensures) c.chain.ensures
