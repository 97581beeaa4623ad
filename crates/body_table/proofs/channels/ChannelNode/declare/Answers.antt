use Rattle.body_table.proofs.Parameters.{on_ok}
use Rattle.body_table.proofs.ChannelEquations.{channel_known}
use Rattle.body_table.proofs.channels.ChannelNode.declare.Goals as goal

pub returns : goal.returns
returns c =
    on_ok c.declare_groups.result
    (channel_known c.args.self.now c.args.table.now c.declare.new.self c.declare-2.new.self c.declare-3.new.self c.declare_groups.new.table c.items.result.now c.items.ensures c.in_ok-declare.ensures c.in_ok-declare-2.ensures c.in_ok-declare-3.ensures)
    c.declare_groups.ensures
