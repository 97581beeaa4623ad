use Rattle.std.proofs.Common.{◌+◌, ◌*◌}
use Rattle.body_compiler.proofs.Growth.{then_grown, then_comes}
use Rattle.body_compiler.proofs.Parts.{known_same, one_made}
use Rattle.body_compiler.proofs.transitions.put_transition.Goals as goal

pub put_guard-requires : goal.put_guard-requires
put_guard-requires c = c.requires.free

pub put_delay-requires : goal.put_delay-requires
put_delay-requires c = c.in_ok-put_guard.ensures.comes.free

pub put_block-requires : goal.put_block-requires
put_block-requires c = c.in_ok-put_delay.ensures.comes.free

pub returns : goal.returns
returns c =
    let us = c.put_guard.new.units in
    let vs = c.put_delay.new.units in
    let guard = c.in_ok-put_guard.ensures in
    let late = c.in_ok-put_delay.ensures in
    let does = c.in_ok-put_block.ensures in
    record {
      comes = then_comes c.args.units.now vs c.put_block.new.units c.args.body 2 (3 * c.args.trans + 3) (then_grown c.args.units.now us vs guard.comes.grown late.comes.grown) does.comes;
      has = one_made c.args.numbering.now us vs c.put_block.new.units c.args.body c.args.trans c.args.transition.now c.table-known.result.now c.chosen-chosen.result.now c.in_ok-table.table c.received-received.result.now _ _ c.args.block.now
          (known_same c.args.numbering.now c.program.result.now c.table-known.result.now c.program.ensures c.table-known.ensures) c.chosen-chosen.ensures c.in_ok-table.ensures c.received-received.ensures c.provided.ensures c.delay.ensures c.requires.block
          late.comes.grown does.comes.grown c.in_ok-test_apart.ensures guard.has late.has does.has;
    }
