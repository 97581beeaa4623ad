use Rattle.body_table.proofs.Parameters.{on_ok}
use Rattle.body_table.proofs.HeaderEquations.{instance_known}
use Rattle.body_table.proofs.headers.declare_instance.Goals as goal

pub returns : goal.returns
returns c =
    on_ok c.declare_header_ips.result
    (instance_known c.args.header.now c.args.table.now c.declare_types.new.table c.declare_params.new.table c.declare_sections.new.table c.declare_header_ips.new.table c.in_ok-number.number c.items.result.now c.items-exports.result.now c.items-2.result.now c.items.ensures c.items-exports.ensures c.items-2.ensures c.in_ok-declare_types.ensures c.in_ok-number.ensures.0 c.in_ok-number.ensures.1 c.in_ok-declare_sections.ensures.0)
    c.declare_header_ips.ensures
