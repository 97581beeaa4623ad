use Rattle.std.proofs.Common.{◌≡◌, ◌<◌, rules, w64, to_z, of_z, sym, subst, arith}
use Rattle.std.proofs.lemmas.Int.{to_z-of_z}
use Rattle.flat_transitions.proofs.Numbered.{behind_is}
use Rattle.flat_transitions.proofs.choices.behind.Goals as goal

pub returns : goal.returns
returns c xs positive is =
    let x = c.args.name in
    let low : to_z w64 (of_z w64 c.args.name.low) ≡ c.args.name.low = search (rules, to_z-of_z) in
    let high : to_z w64 (of_z w64 c.args.name.high) ≡ c.args.name.high = search (rules, to_z-of_z) in
    let b = behind_is x xs (to_z w64 (of_z w64 x.low)) (to_z w64 (of_z w64 x.high)) c.args.count c.item_count-size.result low high (omega (arith, c.ranges.count.fits)) c.item_count-size.ensures positive is in
    (b.1.1.0, subst (λ n. 0 < n) (sym b.1.1.0) b.1.1.1)
