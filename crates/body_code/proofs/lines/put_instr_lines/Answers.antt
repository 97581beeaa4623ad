use Rattle.body_code.specs.Listing.{instr_line}
use Rattle.body_code.proofs.Numbered.{one_more}
use Rattle.body_code.proofs.lines.put_instr_lines.Goals as goal

pub loop-i-preserved : goal.loop-i-preserved
loop-i-preserved c =
    one_more instr_line c.args.instrs.now c.args.first c.loop-i.i c.index-instrs-i.result c.loop-i.out.items c.put_instr_line.new.out.items _
    c.loop-i-test.true c.index-instrs-i.is c.in_ok-put_instr_line.ensures c.loop-i.invariant
