use Rattle.std.proofs.Common.{◌≡◌, ℕ, ◌+◌, ◌<◌, ◌≤◌, ◌⊎◌, Option, None, take, length, sym, ap, ◌∙◌, inl, inr, arith}
use Rattle.std.proofs.lemmas.Bool.{cases_lt}
use Rattle.std.proofs.lemmas.List.{get_or_past}
use Rattle.link_ops.specs.Pairs.{slot, seen, link_of}
use Rattle.link_ops.proofs.Shifts.{tied-alike, full-take, get_or-take}
use Rattle.link_ops.proofs.pairs.pack.Goals as goal

pub returns-clause-tied : goal.returns-clause-tied
returns-clause-tied c =
    let inv = c.loop-at.invariant.0 in
    let pairs = c.loop-at.pairs.items in
    let gaps : (k : ℕ) → c.loop-at.end ≤ k → slot pairs k ≡ None =
    λ k low. elim (cases_lt k c.loop-at.at) [
      | inl less ↦ inv.gaps k low less
      | inr more ↦ get_or_past pairs k None (omega (arith, inv.len, c.loop-at-test.false, c.len-at-end.ensures, c.args.pairs.now.ok.0))
    ] in
    rw c.truncate.ensures.items (tied-alike c.loop-at.points pairs (take c.loop-at.end pairs) (get_or-take c.loop-at.end pairs gaps) inv.tied)

pub returns-clause-seen : goal.returns-clause-seen
returns-clause-seen c =
    let inv = c.loop-at.invariant.0 in
    let pairs = c.loop-at.pairs.items in
    let gaps : (k : ℕ) → c.loop-at.end ≤ k → slot pairs k ≡ None =
    λ k low. elim (cases_lt k c.loop-at.at) [
      | inl less ↦ inv.gaps k low less
      | inr more ↦ get_or_past pairs k None (omega (arith, inv.len, c.loop-at-test.false, c.len-at-end.ensures, c.args.pairs.now.ok.0))
    ] in
    rw c.truncate.ensures.items (full-take (link_of c.loop-at.points) c.loop-at.end pairs gaps ∙ inv.links)
