use Rattle.std.proofs.Common.{arith}
use Rattle.scope_names.proofs.Entries.{shares_hit, shares_missed}
use Rattle.scope_names.proofs.names.NameTable.some_is_in.Goals as goal

pub returns-then-is_in : goal.returns-then-is_in
returns-then-is_in c =
    let e = shares_hit c.args.self.now c.args.others.now c.args.without.now c.loop-i.i (grind (arith)) in
    grind (arith)

pub loop-i-preserved : goal.loop-i-preserved
loop-i-preserved c =
    let e = shares_missed c.args.self.now c.args.others.now c.args.without.now c.loop-i.i (grind (arith)) in
    grind (arith)
