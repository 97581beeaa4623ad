use Rattle.body_table.proofs.BodyEquations.{specification_known}
use Rattle.body_table.proofs.bodies.meanings.Goals as goal

pub returns : goal.returns
returns c =
    specification_known c.args.tree.now c.args.names.now.uses c.in_ok-table.table c.declare_parts.new.table c.default_of-by_default.result c.items.result.now c.items.ensures c.default_of-by_default.ensures c.in_ok-table.ensures c.in_ok-declare_parts.ensures.0
