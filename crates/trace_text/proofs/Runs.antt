-- Runs of letters, digits and `_`.
use Rattle.std.proofs.Common.{◌≡◌, ℕ, ◌+◌, ◌-◌, ◌<◌, ◌≤◌, Bool, true, false, List, [], ◌∷◌, ◌++◌, length, drop, take, get_or, ap, subst, ◌∙◌, sym, refl, arith, drop-cons, length-drop, inl, inr}
use Rattle.std.specs.List.{list_all}
use Rattle.std.specs.Cmp.Derive.{both_true}
use Rattle.std.proofs.lemmas.List.{drop-drop, take-append-drop, drop_all}
use Rattle.std.proofs.lemmas.List.Folds.{list_all_more}
use Rattle.std.proofs.lemmas.Bool.{cases_lt, false≢true}
use Rattle.estelle_tree.specs.Lexed.{first_is, is_word_byte}
use Rattle.estelle_model.proofs.PrivateParts.{left_true, right_true}
use Rattle.trace_text.specs.Fields.{IsRun}

pub first_here : (p : ℕ → Bool) (bytes : List ℕ) (at_ : ℕ) → at_ < length bytes → first_is p (drop at_ bytes) ≡ p (get_or bytes at_ 0)
first_here p bytes at_ lt = ap (first_is p) (drop-cons bytes at_ 0 lt)

pub first_none : (p : ℕ → Bool) (bytes : List ℕ) (at_ : ℕ) → length bytes ≤ at_ → first_is p (drop at_ bytes) ≡ false
first_none p bytes at_ le = ap (first_is p) (drop_all at_ bytes le)

-- what a loop over a run keeps
pub record RunsTo (bytes : List ℕ) (at_ end_ : ℕ) : Type 0 where
  pub goes : at_ ≤ end_
  pub within : end_ ≤ length bytes
  pub all : list_all is_word_byte (take (end_ - at_) (drop at_ bytes)) ≡ true

pub run_none : (bytes : List ℕ) (at_ : ℕ) → at_ ≤ length bytes → RunsTo bytes at_ at_
run_none bytes at_ le = record { goes = omega arith; within = le; all = subst (λ i. list_all is_word_byte (take i (drop at_ bytes)) ≡ true) none refl }
  where
    none : 0 ≡ at_ - at_
    none = omega arith

pub run_within : (bytes : List ℕ) (at_ end_ : ℕ) → RunsTo bytes at_ end_ → first_is is_word_byte (drop end_ bytes) ≡ true → end_ < length bytes
run_within bytes at_ end_ run go = elim (cases_lt end_ (length bytes)) [ inl lt ↦ lt | inr le ↦ absurd (false≢true (sym (first_none is_word_byte bytes end_ le) ∙ go)) ]

pub run_more : (bytes : List ℕ) (at_ end_ : ℕ) → RunsTo bytes at_ end_ → first_is is_word_byte (drop end_ bytes) ≡ true → RunsTo bytes at_ (end_ + 1)
run_more bytes at_ end_ run go = record { goes = omega (arith, run.goes); within = omega (arith, within); all = subst (λ i. list_all is_word_byte (take i (drop at_ bytes)) ≡ true) count more }
  where
    within : end_ < length bytes
    within = run_within bytes at_ end_ run go

    count : end_ - at_ + 1 ≡ end_ + 1 - at_
    count = omega (arith, run.goes)

    inside : end_ - at_ < length (drop at_ bytes)
    inside = omega (arith, run.goes, within, length-drop at_ bytes)

    place : at_ + (end_ - at_) ≡ end_
    place = omega (arith, run.goes)

    here : is_word_byte (get_or (drop at_ bytes) (end_ - at_) 0) ≡ true
    here = sym (first_here is_word_byte (drop at_ bytes) (end_ - at_) inside) ∙ (ap (first_is is_word_byte) (drop-drop (end_ - at_) at_ bytes ∙ ap (λ i. drop i bytes) place) ∙ go)

    more : list_all is_word_byte (take (end_ - at_ + 1) (drop at_ bytes)) ≡ true
    more = list_all_more is_word_byte (drop at_ bytes) (end_ - at_) 0 inside ∙ both_true run.all here

pub run_done : (bytes : List ℕ) (at_ end_ : ℕ) → RunsTo bytes at_ end_ → first_is is_word_byte (drop end_ bytes) ≡ false → IsRun bytes at_ end_
run_done bytes at_ end_ run ends = record {
  goes = run.goes;
  within = run.within;
  all = run.all;
  is = sym (take-append-drop (end_ - at_) (drop at_ bytes)) ∙ ap (λ t. take (end_ - at_) (drop at_ bytes) ++ t) (drop-drop (end_ - at_) at_ bytes ∙ ap (λ i. drop i bytes) place);
  longest = ends;
}
  where
    place : at_ + (end_ - at_) ≡ end_
    place = omega (arith, run.goes)

-- a text has one run at its front
pub runs_apart : (p : ℕ → Bool) (a b r s : List ℕ) → list_all p a ≡ true → list_all p b ≡ true → first_is p r ≡ false → first_is p s ≡ false → a ++ r ≡ b ++ s → (a ≡ b) × (r ≡ s)
runs_apart p [] [] r s ha hb hr hs e = (refl, e)
runs_apart p [] (c ∷ b) r s ha hb hr hs e = absurd (false≢true (sym hr ∙ (ap (first_is p) e ∙ left_true (p c) (list_all p b) hb)))
runs_apart p (c ∷ a) [] r s ha hb hr hs e = absurd (false≢true (sym hs ∙ (ap (first_is p) (sym e) ∙ left_true (p c) (list_all p a) ha)))
runs_apart p (c ∷ a) (d ∷ b) r s ha hb hr hs e =
    let head : c ≡ d = cc in
    let tail : a ++ r ≡ b ++ s = cc in
    let t = runs_apart p a b r s (right_true (p c) (list_all p a) ha) (right_true (p d) (list_all p b) hb) hr hs tail in
    (ap (λ x. x ∷ a) head ∙ ap (λ xs. d ∷ xs) t.0, t.1)
