-- The callers of open routines, one place of the list after another.
use Rattle.std.proofs.Common.{◌≡◌, ℕ, ◌+◌, ◌<◌, ◌≤◌, ◌⊎◌, inl, inr, nat_eq, List, length, slice_get, Option, Some, None, ap, ◌∙◌, sym, refl, subst, arith}
use Rattle.std.proofs.lemmas.Option.{slice_get-get_or}
use Rattle.indexmap.specs.IndexSet.{insert_all}
use Rattle.scope_rules.specs.NameRules.{IsOne}
use Rattle.pascal_check.specs.Opening.{with_callers, with_callers_of, IsReached, Follows}
use Rattle.pascal_check.specs.Opening.IsReached.{first, further}
use Rattle.pascal_check.proofs.Members.{one_at, place_of, get_left, Added, added_kept, added_all}

-- the routines before a place of the list are followed
pub record Following (callers : ℕ → List ℕ) (begun opened : List ℕ) (at : ℕ) : Type 0 where
  pub kept : (x : ℕ) → IsOne x begun → IsOne x opened
  pub reached : (x : ℕ) → IsOne x opened → IsReached callers begun x
  pub followed : (i x y : ℕ) → i < at → slice_get opened i ≡ Some y → IsOne x (callers y) → IsOne x opened

pub following_begun : (callers : ℕ → List ℕ) (begun : List ℕ) → Following callers begun begun 0
following_begun callers begun = record { kept = λ x h. h; reached = λ x h. first x h; followed = λ i x y l e h. absurd (omega arith) }

pub following_all : (callers : ℕ → List ℕ) (begun opened : List ℕ) (at : ℕ) → length opened ≤ at → Following callers begun opened at → Follows callers begun opened
following_all callers begun opened at end f = record {
  kept = f.kept;
  reached = f.reached;
  followed = λ x y h c. let w = place_of y opened h in f.followed w.0 x y (let l : w.0 < length opened = w.1.0 in omega arith) w.1.1 c;
}

following_added : (callers : ℕ → List ℕ) (begun opened new : List ℕ) (at r : ℕ) → at < length opened → slice_get opened at ≡ Some r → Added (callers r) opened new → Following callers begun opened at → Following callers begun new (at + 1)
following_added callers begun opened new at r within here a f = record {
  kept = λ x h. added_kept (callers r) opened new a x (f.kept x h);
  reached = λ x h. elim (a.only x h) [ inl o ↦ f.reached x o | inr c ↦ further x r (f.reached r (one_at opened at r here)) c ];
  followed = followed;
}
  where
    same : (i : ℕ) → i < length opened → slice_get new i ≡ slice_get opened i
    same i l = ap (λ ks. slice_get ks i) a.grown ∙ get_left opened a.more i l

    before_or_at : (i : ℕ) → i < at + 1 → (i < at) ⊎ (i ≡ at)
    before_or_at i l = grind arith

    followed : (i x y : ℕ) → i < at + 1 → slice_get new i ≡ Some y → IsOne x (callers y) → IsOne x new
    followed i x y l e c = elim (before_or_at i l) [
      | inl b ↦ added_kept (callers r) opened new a x (f.followed i x y b (sym (same i (omega arith)) ∙ e) c)
      | inr s ↦ (let t : r ≡ y = (let u = same at within in let v = ap (λ j. slice_get new j) s in cc) in a.there x (subst (λ z. IsOne x (callers z)) (sym t) c))
    ]

pub following_more : (callers : ℕ → List ℕ) (begun opened : List ℕ) (at : ℕ) → at < length opened → Following callers begun opened at → Following callers begun (with_callers callers opened at) (at + 1)
following_more callers begun opened at within f = by (slice_get opened at) refl
  where
    by : (o : Option ℕ) → slice_get opened at ≡ o → Following callers begun (with_callers_of callers opened o) (at + 1)
    by None e = absurd (let g = slice_get-get_or opened at 0 within in cc)
    by (Some r) e = following_added callers begun opened (insert_all nat_eq opened (callers r)) at r within e (added_all (callers r) opened) f
