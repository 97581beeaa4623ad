use Rattle.std.proofs.Common.{◌≡◌, ◌+◌, ◌∙◌, ℕ, suc, List, [], ◌∷◌, length, take, drop, subst, ap, refl, sym, arith}
use Rattle.transition_select.specs.declared.countings.Counting.{Counting}
use Rattle.transition_select.specs.Countings.{AreCountings}
use Rattle.selection_check.specs.Countings.{AreCountingsBelow, takes_len}
use Rattle.selection_check.proofs.Among.{IsAmong, one_begins, one_goes_on, one_is_here, one_is_nowhere}
use Rattle.selection_check.proofs.Walks.{AreOnTheWay, begins, ends, own_goes_on, must_stops, process_goes_on, quiet_goes_on, activity_goes_on, activity_stops}
use Rattle.selection_check.proofs.selection.+selection.Goals as goal
use Rattle.selection_check.proofs.selection.+selection.Goals.{may_select-then-first-via-then-first, may_select-then-first-via-else-first+then-not-begins_in}

-- the first, and so many of the others
one_more : (n : ℕ) → 1 + n ≡ suc n
one_more n = omega arith

take_first : (n : ℕ) (xs : List Counting) (d : Counting) (cs : List Counting) → xs ≡ d ∷ cs → take (1 + n) xs ≡ d ∷ take n cs
take_first n xs d cs e = ap (take (1 + n)) e ∙ ap (λ k. take k (d ∷ cs)) (one_more n)

drop_first : (n : ℕ) (xs : List Counting) (d : Counting) (cs : List Counting) → xs ≡ d ∷ cs → drop (1 + n) xs ≡ drop n cs
drop_first n xs d cs e = ap (drop (1 + n)) e ∙ ap (λ k. drop k (d ∷ cs)) (one_more n)

no_countings : (xs : List Counting) → length xs ≡ 0 → xs ≡ []
no_countings [] e = refl
no_countings (x ∷ xs) e = absurd (omega (arith, e))

-- src/selection.rt:41:5
pub may_select-loop-first-init : goal.may_select-loop-first-init
may_select-loop-first-init t c = record {
  way = λ s budget g m tree in_order are. begins s budget g m c.args.takes.now c.args.counts.now are;
  small = omega arith;
}

-- src/selection.rt:41:5
pub may_select-loop-first-preserved-then-takes_own : goal.may_select-loop-first-preserved-then-takes_own
may_select-loop-first-preserved-then-takes_own t c = record {
  way = λ s budget g m tree in_order are.
      let at = subst (AreOnTheWay s budget g m c.args.takes.now c.loop-first.left.now) c.in-Some.ensures.cases.0 (c.loop-first.invariant.way s budget g m tree in_order are) in
      let goes_on = own_goes_on s budget g m tree in_order c.args.takes.now c.loop-first.left.now c.in-Some.first.now c.in-Some.others.now at (cc) in
      subst (λ ps. AreOnTheWay s budget g m c.args.takes.now ps c.split_at.result.1.now) (sym c.split_at-then-takes_own.ensures.back)
      (subst (AreOnTheWay s budget g m c.args.takes.now (drop 1 c.loop-first.left.now)) (sym (c.split_at.ensures.back ∙ ap (λ n. drop n c.in-Some.others.now) c.block_len.ensures.passed)) goes_on);
  small = let len = ap length c.in-Some.ensures.cases.0 in omega (arith, c.loop-first.invariant.small, c.split_at.ensures.back_len, len);
}

-- src/selection.rt:48:13
pub may_select-returns-then-must_some : goal.may_select-returns-then-must_some
may_select-returns-then-must_some t c s budget g m tree in_order are =
    let at = subst (AreOnTheWay s budget g m c.args.takes.now c.loop-first.left.now) c.in-Some.ensures.cases.0 (c.loop-first.invariant.way s budget g m tree in_order are) in
    must_stops s budget g m tree in_order c.args.takes.now c.loop-first.left.now c.in-Some.first.now c.in-Some.others.now at (cc) (cc)

-- src/selection.rt:41:5
pub may_select-loop-first-preserved-then-first : goal.may_select-loop-first-preserved-then-first
may_select-loop-first-preserved-then-first t c = record {
  way = λ s budget g m tree in_order are.
      let at = subst (AreOnTheWay s budget g m c.args.takes.now c.loop-first.left.now) c.in-Some.ensures.cases.0 (c.loop-first.invariant.way s budget g m tree in_order are) in
      elim c.then-first.branch [
        | may_select-then-first-via-then-first w ↦
            process_goes_on s budget g m tree in_order c.args.takes.now c.loop-first.left.now c.in-Some.first.now c.in-Some.others.now at (cc) (cc) (cc)
        | may_select-then-first-via-else-first+then-not-begins_in w ↦
            quiet_goes_on s budget g m tree in_order c.args.takes.now c.loop-first.left.now c.in-Some.first.now c.in-Some.others.now at (cc) (cc) (cc) (cc)
      ];
  small = let len = ap length c.in-Some.ensures.cases.0 in omega (arith, c.loop-first.invariant.small, len);
}

-- src/selection.rt:58:13
pub may_select-returns-then-not-may_select_one : goal.may_select-returns-then-not-may_select_one
may_select-returns-then-not-may_select_one t c s budget g m tree in_order are =
    let at = subst (AreOnTheWay s budget g m c.args.takes.now c.loop-first.left.now) c.in-Some.ensures.cases.0 (c.loop-first.invariant.way s budget g m tree in_order are) in
    activity_stops s budget g m tree in_order c.args.takes.now c.loop-first.left.now c.in-Some.first.now c.in-Some.others.now at (cc) (cc) (cc) (cc)
    c.split_at-in-Some-2.result.0.now (c.split_at-in-Some-2.ensures.front ∙ ap (λ n. take n c.loop-first.left.now) c.takes_len.ensures.passed) c.may_select_one.result
    (λ q below some.
    c.may_select_one.ensures s budget g q tree in_order
    (subst (AreCountingsBelow s budget g q) (sym (c.split_at-in-Some.ensures.front ∙ ap (λ n. take n c.in-Some.others.now) c.block_len-in-Some.ensures.passed)) below) some)
    (cc)

-- src/selection.rt:41:5
pub may_select-loop-first-preserved : goal.may_select-loop-first-preserved
may_select-loop-first-preserved t c = record {
  way = λ s budget g m tree in_order are.
      let at = subst (AreOnTheWay s budget g m c.args.takes.now c.loop-first.left.now) c.in-Some.ensures.cases.0 (c.loop-first.invariant.way s budget g m tree in_order are) in
      let goes_on = activity_goes_on s budget g m tree in_order c.args.takes.now c.loop-first.left.now c.in-Some.first.now c.in-Some.others.now at (cc) (cc) (cc) (cc)
      c.split_at-in-Some-2.result.0.now (c.split_at-in-Some-2.ensures.front ∙ ap (λ n. take n c.loop-first.left.now) c.takes_len.ensures.passed) c.may_select_one.result
      (λ q below some.
      c.may_select_one.ensures s budget g q tree in_order
      (subst (AreCountingsBelow s budget g q) (sym (c.split_at-in-Some.ensures.front ∙ ap (λ n. take n c.in-Some.others.now) c.block_len-in-Some.ensures.passed)) below) some)
      (cc) in
      subst (λ ps. AreOnTheWay s budget g m c.args.takes.now ps c.split_at-in-Some.result.1.now) (sym (c.split_at-in-Some-2.ensures.back ∙ ap (λ n. drop n c.loop-first.left.now) c.takes_len.ensures.passed))
      (subst (AreOnTheWay s budget g m c.args.takes.now (drop (takes_len c.in-Some.first.now.path c.loop-first.left.now) c.loop-first.left.now)) (sym (c.split_at-in-Some.ensures.back ∙ ap (λ n. drop n c.in-Some.others.now) c.block_len-in-Some.ensures.passed)) goes_on);
  small = let len = ap length c.in-Some.ensures.cases.0 in omega (arith, c.loop-first.invariant.small, c.split_at-in-Some.ensures.back_len, len);
}

-- src/selection.rt:35:1
pub may_select-returns : goal.may_select-returns
may_select-returns t c s budget g m tree in_order are =
    ends s budget g m tree c.args.takes.now c.loop-first.left.now c.loop-first.rest.now (c.loop-first.invariant.way s budget g m tree in_order are) (no_countings c.loop-first.rest.now c.in_default.ensures.cases) c.is_empty.result c.is_empty.ensures

-- src/selection.rt:23:5
pub may_select_one-loop-first-init : goal.may_select_one-loop-first-init
may_select_one-loop-first-init t c = record {
  among = λ s budget g m tree in_order are some. one_begins s budget g m c.args.takes.now c.args.counts.now are;
  small = omega arith;
}

-- src/selection.rt:26:13
pub may_select_one-returns-then-begins_in : goal.may_select_one-returns-then-begins_in
may_select_one-returns-then-begins_in t c s budget g m tree in_order are some =
    let at = subst (IsAmong s budget g m c.args.takes.now) c.in-Some.ensures.cases.0 (c.loop-first.invariant.among s budget g m tree in_order are some) in
    let is = c.split_at.ensures.front ∙ take_first c.block_len.result c.loop-first.rest.now c.in-Some.first.now c.in-Some.others.now c.in-Some.ensures.cases.0
    ∙ ap (λ n. c.in-Some.first.now ∷ take n c.in-Some.others.now) c.block_len.ensures.passed in
    one_is_here s budget g m tree c.args.takes.now some c.in-Some.first.now c.in-Some.others.now at (cc) c.may_select.result
    (λ q of_first. c.may_select.ensures s budget g q tree in_order (subst (AreCountings s budget g q) (sym is) of_first))

-- src/selection.rt:23:5
pub may_select_one-loop-first-preserved : goal.may_select_one-loop-first-preserved
may_select_one-loop-first-preserved t c = record {
  among = λ s budget g m tree in_order are some.
      let at = subst (IsAmong s budget g m c.args.takes.now) c.in-Some.ensures.cases.0 (c.loop-first.invariant.among s budget g m tree in_order are some) in
      let is = c.split_at.ensures.back ∙ drop_first c.block_len.result c.loop-first.rest.now c.in-Some.first.now c.in-Some.others.now c.in-Some.ensures.cases.0
      ∙ ap (λ n. drop n c.in-Some.others.now) c.block_len.ensures.passed in
      subst (IsAmong s budget g m c.args.takes.now) (sym is) (one_goes_on s budget g m tree c.args.takes.now some c.in-Some.first.now c.in-Some.others.now at (cc));
  small = omega (arith, c.loop-first.invariant.small, c.split_at.ensures.back_len);
}

-- src/selection.rt:18:1
pub may_select_one-returns : goal.may_select_one-returns
may_select_one-returns t c s budget g m tree in_order are some =
    one_is_nowhere s budget g m tree c.args.takes.now c.loop-first.rest.now (c.loop-first.invariant.among s budget g m tree in_order are some) (no_countings c.loop-first.rest.now c.in_default.ensures.cases)
