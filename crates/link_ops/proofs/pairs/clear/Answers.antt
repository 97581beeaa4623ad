use Rattle.std.proofs.Common.{◌≡◌, refl, Some, is_some, ap, ◌∙◌, None, slice_set}
use Rattle.link_ops.proofs.Ties.{first-point, second-point}
use Rattle.link_ops.proofs.Changes.{tied-clear, seen-same}
use Rattle.link_ops.proofs.pairs.clear.Goals as goal

pub set_both-requires-clause-first : goal.set_both-requires-clause-first
set_both-requires-clause-first c = let a = first-point c.args.points.now c.args.pairs.now.items c.requires.tied c.args.at c.args.pair c.requires.here in ap is_some a.1

pub set_both-requires-clause-second : goal.set_both-requires-clause-second
set_both-requires-clause-second c = let a = second-point c.args.points.now c.args.pairs.now.items c.requires.tied c.args.at c.args.pair c.requires.here in ap is_some a.1

pub returns-clause-tied : goal.returns-clause-tied
returns-clause-tied c =
    let w = c.set_both.ensures in
    tied-clear c.args.points.now c.set_both.new.points c.args.pairs.now.items c.requires.tied w.sound w.points c.args.at c.args.pair c.requires.here w.written w.others

pub returns-clause-seen : goal.returns-clause-seen
returns-clause-seen c =
    let w = c.set_both.ensures in
    seen-same c.args.points.now c.set_both.new.points c.args.pairs.now.items c.requires.tied w.sound w.points (slice_set c.args.pairs.now.items c.args.at None)
