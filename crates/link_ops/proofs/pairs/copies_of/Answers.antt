use Rattle.std.proofs.Common.{◌≡◌, ◌∙◌, ℕ, ◌+◌, ◌<◌, List, [], ◌∷◌, ◌++◌, Option, None, length, ap, take, get_or, add-one, arith, is_some, filter}
use Rattle.std.specs.Option.{option_map}
use Rattle.std.proofs.Math.Seq.{take-suc}
use Rattle.std.proofs.lemmas.List.Elements.{filter_map-append, filter-append}
use Rattle.link_ops.specs.declared.pairs.Pairing.{Pairing}
use Rattle.link_ops.specs.declared.points.Points.{Points}
use Rattle.link_ops.specs.Pairs as spec
use Rattle.link_ops.proofs.Ties.{first-point, second-point}
use Rattle.link_ops.proofs.pairs.copies_of.Goals as goal

-- one more place of the list
seen_more : (p : Points) (pairs : List (Option Pairing)) (i : ℕ) (d : Option Pairing) → i < length pairs → spec.seen p (take (i + 1) pairs) ≡ spec.seen p (take i pairs) ++ spec.seen p (get_or pairs i d ∷ [])
seen_more p pairs i d h =
    rw add-one (ap (spec.seen p) (take-suc pairs i d h) ∙ filter_map-append (option_map (spec.link_of p)) (take i pairs) (get_or pairs i d ∷ []))

pub push_copy-requires : goal.push_copy-requires
push_copy-requires g c = λ x is.
    let first = first-point c.args.points.now c.args.pairs.now c.requires c.loop-pair.pair-index x is in
    let second = second-point c.args.points.now c.args.pairs.now c.requires c.loop-pair.pair-index x is in
    (ap is_some first.1, ap is_some second.1)

pub loop-pair-preserved : goal.loop-pair-preserved
loop-pair-preserved g c =
    let passes = g.T.LinkTest.passes c.args.test.now in
    let more = seen_more c.args.points.now c.args.pairs.now c.loop-pair.pair-index None c.loop-pair-test.true in
    let parts = filter-append passes (spec.seen c.args.points.now (take c.loop-pair.pair-index c.args.pairs.now)) (spec.seen c.args.points.now (get_or c.args.pairs.now c.loop-pair.pair-index None ∷ [])) in
    let all = ap (filter passes) more ∙ parts in
    let pushed = c.in_ok-push_copy.ensures in
    grind (arith)
