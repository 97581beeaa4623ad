use Rattle.std.specs.Option.{option_copied}
use Rattle.body_table.proofs.Parameters.{on_ok}
use Rattle.body_table.proofs.BodyEquations.{standing_known}
use Rattle.body_table.proofs.bodies.declare_standing.Goals as goal

pub returns : goal.returns
returns c =
    on_ok c.declare_name.result
    (standing_known c.args.by_default c.args.number (option_copied c.args.name) (option_copied c.args.header) c.args.parts.now c.args.table.now c.declare_decls.new.table c.declare_blocks.new.table c.declare_name.new.table c.items.result.now c.items-2.result.now c.items.ensures c.items-2.ensures c.in_ok-declare_decls.ensures c.in_ok-declare_blocks.ensures)
    c.declare_name.ensures
