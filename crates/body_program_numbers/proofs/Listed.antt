-- What is listed with its number stands there.
use Rattle.std.proofs.Common.{◌≡◌, ◌∙◌, ap, sym, subst, ℕ, zero, suc, ◌+◌, Bool, true, false, cond, nat_eq, List, [], ◌∷◌, ◌++◌, reverse, refl, arith, Option, Some, None}
use Rattle.std.specs.Prelude.{slice_get}
use Rattle.std.specs.List.{flat_map}
use Rattle.std.specs.Map.{lookup}
use Rattle.std.proofs.lemmas.Bool.Decides.{Decides-eqb}
use Rattle.std.proofs.lemmas.List.{reverse-append}
use Rattle.place_table.specs.Latest.{latest}
use Rattle.body_program_numbers.specs.Places.{Number, list_from, lists_from}

module _ {A : Type 0} (P : A → Type 0) where
  abbrev pub Each : List A → Type 0
  Each [] = Unit {0}
  Each (x ∷ xs) = P x × Each xs

  pub each-append : (xs ys : List A) → Each xs → Each ys → Each (xs ++ ys)
  each-append [] ys p q = q
  each-append (x ∷ xs) ys p q = (p.0, each-append xs ys p.1 q)

  pub each-flat_map : {B : Type 0} (f : B → List A) → ((b : B) → Each (f b)) → (bs : List B) → Each (flat_map f bs)
  each-flat_map f h [] = tt
  each-flat_map f h (b ∷ bs) = each-append (f b) (flat_map f bs) (h b) (each-flat_map f h bs)

  pub each-reverse : (xs : List A) → Each xs → Each (reverse xs)
  each-reverse [] p = tt
  each-reverse (x ∷ xs) p = subst (λ ys. Each ys) (sym (reverse-append (x ∷ []) xs)) (each-append (reverse xs) (x ∷ []) (each-reverse xs p.1) (p.0, tt))

  pub each_at : (xs : List A) (k : ℕ) (x : A) → Each xs → slice_get xs k ≡ Some x → P x
  each_at [] k x p h = absurd (cc)
  each_at (y ∷ ys) zero x p h = let same : y ≡ x = cc in subst P same p.0
  each_at (y ∷ ys) (suc k) x p h = each_at ys k x p.1 h

-- what a place has
each_found : {V : Type 0} (P : ℕ × V → Type 0) (place : ℕ) (v : V) (es : List (ℕ × V)) → Each P es → lookup (nat_eq place) es ≡ Some v → P (place, v)
each_found P place v [] p h = absurd (cc)
each_found {V = V} P place v (e ∷ es) p h = by (nat_eq place e.0) refl h (each_found P place v es p.1)
  where
    by : (b : Bool) → nat_eq place e.0 ≡ b → cond b (Some e.1) (lookup (nat_eq place) es) ≡ Some v → (lookup (nat_eq place) es ≡ Some v → P (place, v)) → P (place, v)
    by true is found rest =
        let value : e.1 ≡ v = cc in
        let at : place ≡ e.0 = (Decides-eqb place e.0).0 is in
        subst (λ (u : V). P (place, u)) value (subst (λ n. P (n, e.1)) (sym at) p.0)
    by false is found rest = rest found

pub each_latest : {V : Type 0} (P : ℕ × V → Type 0) (place : ℕ) (v : V) (es : List (ℕ × V)) → Each P es → latest place es ≡ Some v → P (place, v)
each_latest P place v es p h = each_found P place v (reverse es) (each-reverse P es p) h

-- ---- lists of places

-- in the list with a number, the place has a number
abbrev pub Stands : List (List ℕ) → ℕ × Number → Type 0
Stands lists e = (places : List ℕ) × ((slice_get lists e.1.0 ≡ Some places) × (slice_get places e.1.1 ≡ Some e.0))

each_listed : (lists : List (List ℕ)) (k n : ℕ) (places rest : List ℕ) → slice_get lists k ≡ Some places → ((j : ℕ) → slice_get rest j ≡ slice_get places (n + j)) → Each (Stands lists) (list_from k n rest)
each_listed lists k n places [] at h = tt
each_listed lists k n places (p ∷ ps) at h =
    let here : n + 0 ≡ n = omega arith in (
      (places, (at, ap (slice_get places) (sym here) ∙ sym (h 0))),
      each_listed lists k (suc n) places ps at (λ j. let far : n + suc j ≡ suc n + j = omega arith in h (suc j) ∙ ap (slice_get places) far),
    )

each_in_lists : (lists : List (List ℕ)) (k : ℕ) (rest : List (List ℕ)) → ((j : ℕ) → slice_get rest j ≡ slice_get lists (k + j)) → Each (Stands lists) (lists_from k rest)
each_in_lists lists k [] h = tt
each_in_lists lists k (ps ∷ more) h =
    let here : k + 0 ≡ k = omega arith in
    each-append (Stands lists) (list_from k 0 ps) (lists_from (suc k) more)
    (each_listed lists k 0 ps ps (ap (slice_get lists) (sym here) ∙ sym (h 0)) (λ j. let same : j ≡ 0 + j = omega arith in ap (slice_get ps) same))
    (each_in_lists lists (suc k) more (λ j. let far : k + suc j ≡ suc k + j = omega arith in h (suc j) ∙ ap (slice_get lists) far))

-- the latest at a place stands there
pub stands : (lists : List (List ℕ)) (place : ℕ) (n : Number) → latest place (lists_from 0 lists) ≡ Some n → Stands lists (place, n)
stands lists place n h = each_latest (Stands lists) place n (lists_from 0 lists) (each_in_lists lists 0 lists (λ j. let same : j ≡ 0 + j = omega arith in ap (slice_get lists) same)) h
