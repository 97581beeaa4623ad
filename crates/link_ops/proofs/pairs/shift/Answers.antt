use Rattle.std.proofs.Common.{◌≡◌, Some, is_some, ap, ◌<◌, length, arith}
use Rattle.link_ops.proofs.Ties.{first-point, second-point}
use Rattle.link_ops.proofs.Changes.{slot-within}
use Rattle.link_ops.proofs.Shifts.{tied-shift}
use Rattle.link_ops.proofs.pairs.shift.Goals as goal

pub set_both-requires-clause-first : goal.set_both-requires-clause-first
set_both-requires-clause-first c = let a = first-point c.args.points.now c.args.pairs.now.items c.requires.tied c.args.from c.args.pair c.requires.here in ap is_some a.1

pub set_both-requires-clause-second : goal.set_both-requires-clause-second
set_both-requires-clause-second c = let a = second-point c.args.points.now c.args.pairs.now.items c.requires.tied c.args.from c.args.pair c.requires.here in ap is_some a.1

pub returns-clause-tied : goal.returns-clause-tied
returns-clause-tied c =
    let w = c.set_both.ensures in
    let within : c.args.to < length c.args.pairs.now.items = omega (arith, slot-within c.args.pairs.now.items c.args.from c.args.pair c.requires.here, c.requires.before) in
    tied-shift c.args.points.now c.set_both.new.points c.args.pairs.now.items c.requires.tied w.sound w.points c.args.to c.args.from c.args.pair c.requires.here c.requires.gap within w.written w.others
