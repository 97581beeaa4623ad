use Rattle.std.proofs.Common.{◌<◌, ◌≤◌, length, sym, ◌∙◌, arith}
use Rattle.estelle_tree.specs.Timers.{pair}
use Rattle.situation_state.proofs.Lists.{place_found, none_more, nowhere}
use Rattle.situation_state.proofs.list.place_in.Goals as goal

pub returns-then-is_of : goal.returns-then-is_of
returns-then-is_of c =
    let within : c.loop-at.at < length c.args.pending.now.items = omega arith in
    place_found (pair c.args.path.now c.args.trans) c.args.pending.now.items c.loop-at.at c.loop-at.invariant c.index.result.now within c.index.ensures (sym c.is_of.ensures ∙ c.if-is_of.true)

pub loop-at-preserved : goal.loop-at-preserved
loop-at-preserved c = none_more (pair c.args.path.now c.args.trans) c.args.pending.now.items c.loop-at.at c.loop-at.invariant c.index.result.now c.index.ensures (sym c.is_of.ensures ∙ c.if-is_of.false)

pub returns : goal.returns
returns c =
    let ends : length c.args.pending.now.items ≤ c.loop-at.at = omega arith in
    nowhere (pair c.args.path.now c.args.trans) c.args.pending.now.items c.loop-at.at c.loop-at.invariant ends
