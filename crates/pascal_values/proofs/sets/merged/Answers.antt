use Rattle.std.proofs.Common.{◌⊎◌, ◌≤◌, length, inl, inr, refl, arith}
use Rattle.pascal_values.proofs.SetLemmas.{merge_both, merge_one, merged_all}
use Rattle.pascal_values.proofs.sets.merged.Goals as goal
use Rattle.pascal_values.proofs.sets.merged.Goals.{then-m-n, else-m-n, then-loop-i-test+else-j-b, else-loop-i-test}

pub loop-i-preserved-then-n-m : goal.loop-i-preserved-then-n-m
loop-i-preserved-then-n-m c =
    let merge = merge_both c.args.a.now c.args.b.now c.loop-i.ordinals.items _ c.loop-i.i c.loop-i.j _ _ c.requires.a_rising c.requires.b_rising c.loop-i-test.true c.if-j-b.true refl refl c.loop-i.invariant.rest c.min.result c.if-m-n.i c.push.new.self.items c.min.ensures c.if-n-m.true c.in_ok-push.ensures.items in
    elim c.if-m-n.branch [
      | then-m-n w ↦ record { i_in = omega arith; j_in = omega arith; rest = merge (inl (w.if-m-n.true, w.i-is)) }
      | else-m-n w ↦ record { i_in = omega arith; j_in = omega arith; rest = merge (inr (w.if-m-n.false, w.i-is)) }
    ]

pub loop-i-preserved : goal.loop-i-preserved
loop-i-preserved c =
    let merge = merge_one c.args.a.now c.args.b.now c.loop-i.ordinals.items _ c.loop-i.i c.loop-i.j _ _ c.requires.a_rising c.requires.b_rising c.loop-i-test.true c.if-j-b.true refl refl c.loop-i.invariant.rest c.min.result c.if-m-n.i c.push.new.self.items c.min.ensures c.if-n-m.false c.in_ok-push.ensures.items in
    elim c.if-m-n.branch [
      | then-m-n w ↦ record { i_in = omega arith; j_in = omega arith; rest = merge w.i-is }
      | else-m-n w ↦ absurd (omega arith)
    ]

pub returns : goal.returns
returns c =
    let over : (length c.args.a.now ≤ c.loop-i.i) ⊎ (length c.args.b.now ≤ c.loop-i.j) = elim c.loop-i-test.branch [ then-loop-i-test+else-j-b w ↦ inr w.if-j-b.false | else-loop-i-test w ↦ inl w.loop-i-test.false ] in
    let all = merged_all c.args.a.now c.args.b.now c.loop-i.ordinals.items _ c.loop-i.i c.loop-i.j c.requires.a_rising c.requires.b_rising c.loop-i.invariant.rest over in
    let first = c.in_ok-extend_from_slice.ensures.items in
    let second = c.in_ok-extend_from_slice-2.ensures.items in
    rw (second, first) all
