use Rattle.std.proofs.Common.{◌≡◌, Bool, not, Some, is_some, refl, sym, ap, ◌∙◌, arith, length}
use Rattle.estelle_tree.specs.Links.{touches}
use Rattle.std.specs.List.{filter}
use Rattle.link_ops.specs.Pairs.{slot, seen, link_of}
use Rattle.link_ops.proofs.Ties.{first-point, second-point}
use Rattle.link_ops.proofs.Lists.{filter-gap, full-gap}
use Rattle.link_ops.proofs.pairs.forget_at.Goals as goal

pub touches-requires-clause-first : goal.touches-requires-clause-first
touches-requires-clause-first c =
    let d = c.deref.ensures.value in
    let here : slot c.args.pairs.now.items c.args.at ≡ Some c.in-Some.pair = rw d at (sym c.pair_at.ensures ∙ c.in-Some.is) in
    let a = first-point c.args.points.now c.args.pairs.now.items c.requires c.args.at c.in-Some.pair here in
    ap is_some a.1

pub touches-requires-clause-second : goal.touches-requires-clause-second
touches-requires-clause-second c =
    let d = c.deref.ensures.value in
    let here : slot c.args.pairs.now.items c.args.at ≡ Some c.in-Some.pair = rw d at (sym c.pair_at.ensures ∙ c.in-Some.is) in
    let a = second-point c.args.points.now c.args.pairs.now.items c.requires c.args.at c.in-Some.pair here in
    ap is_some a.1

pub returns-then-touches-clause-kept : goal.returns-then-touches-clause-kept
returns-then-touches-clause-kept c =
    let d = c.deref.ensures.value in
    let here : slot c.args.pairs.now.items c.args.at ≡ Some c.in-Some.pair = rw d at (sym c.pair_at.ensures ∙ c.in-Some.is) in
    rw c.clear.ensures.seen
    (filter-gap (link_of c.args.points.now) (λ l. not (touches c.args.path.now l)) c.args.pairs.now.items c.args.at c.in-Some.pair here (ap not (sym c.touches.ensures ∙ c.if-touches.true)))

pub returns-then-touches-clause-removed : goal.returns-then-touches-clause-removed
returns-then-touches-clause-removed c =
    let d = c.deref.ensures.value in
    let here : slot c.args.pairs.now.items c.args.at ≡ Some c.in-Some.pair = rw d at (sym c.pair_at.ensures ∙ c.in-Some.is) in
    rw c.clear.ensures.seen (full-gap (link_of c.args.points.now) c.args.pairs.now.items c.args.at c.in-Some.pair here)
