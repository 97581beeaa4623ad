-- Lists: what they end with, and what is found in them.
use Rattle.std.proofs.Common.{◌≡◌, ℕ, zero, suc, ◌<◌, Bool, true, false, List, [], ◌∷◌, ◌++◌, length, Option, Some, None, refl, sym, ap, subst, ◌∙◌, ◌⊎◌, inl, inr, cond, arith}
use Rattle.std.specs.Prelude.{IfSome, All, AllPairs, Contains, filter}
use Rattle.std.specs.List.{find}
use Rattle.std.specs.Option.{option_or}
use Rattle.std.proofs.lemmas.Bool.{cond_both}
use Rattle.std.proofs.lemmas.List.Elements.{All-nil, All-cons, All-head, All-tail, All-push, All-filter, All-contains, All-contains_itself, filter_passes}
use Rattle.std.proofs.lemmas.List.Folds.{find-append}
use Rattle.std.proofs.lemmas.List.Kept.{AllPairs-cons}

-- ---- the last of a list

pub record WithLast {A : Type 0} (xs : List A) (x : A) (ys : List A) (y : A) (zs : List A) : Type 0 where
  pub rest : List A
  pub after : zs ≡ rest ++ x ∷ []
  pub before : xs ≡ ys ++ y ∷ rest

pub record AsLast {A : Type 0} (xs : List A) (x : A) (ys : List A) (y : A) (zs : List A) : Type 0 where
  pub none : zs ≡ []
  pub it : x ≡ y
  pub before : xs ≡ ys

pub too_short : {A : Type 0} (y : A) (ys zs : List A) → [] ≡ ys ++ y ∷ zs → ⊥
too_short y [] zs e = cc
too_short y (x ∷ ys) zs e = cc

-- an element of a list with a last one is that one, or is one before it
pub at_last : {A : Type 0} (xs : List A) (x : A) (ys : List A) (y : A) (zs : List A) → xs ++ x ∷ [] ≡ ys ++ y ∷ zs → AsLast xs x ys y zs ⊎ WithLast xs x ys y zs
at_last [] x [] y zs e = inl (record { none = cc; it = cc; before = refl })
at_last [] x (w ∷ ys) y zs e = let short : [] ≡ ys ++ y ∷ zs = cc in absurd (too_short y ys zs short)
at_last (v ∷ xs) x [] y zs e = inr (record { rest = xs; after = cc; before = cc })
at_last (v ∷ xs) x (w ∷ ys) y zs e =
    let tail : xs ++ x ∷ [] ≡ ys ++ y ∷ zs = cc in
    let head : v ≡ w = cc in
    by head (at_last xs x ys y zs tail)
  where
    by : v ≡ w → AsLast xs x ys y zs ⊎ WithLast xs x ys y zs → AsLast (v ∷ xs) x (w ∷ ys) y zs ⊎ WithLast (v ∷ xs) x (w ∷ ys) y zs
    by h (inl a) = inl (record { none = a.none; it = a.it; before = let b = a.before in cc })
    by h (inr a) = inr (record { rest = a.rest; after = a.after; before = let b = a.before in cc })

-- ---- what is found

module _ {A : Type 0} (p : A → Bool) where
  pub all_unfound : (xs : List A) → find p xs ≡ None → All (λ x. p x ≡ false) xs
  all_unfound [] e = All-nil (λ x. p x ≡ false)
  all_unfound (x ∷ xs) e = by (p x) refl (λ h. all_unfound xs (sym (ap (λ b. cond b (Some x) (find p xs)) h) ∙ e))
    where
      by : (b : Bool) → p x ≡ b → (p x ≡ false → All (λ x. p x ≡ false) xs) → All (λ x. p x ≡ false) (x ∷ xs)
      by true h rest = let found : find p (x ∷ xs) ≡ Some x = ap (λ b. cond b (Some x) (find p xs)) h in absurd (cc)
      by false h rest = All-cons (λ x. p x ≡ false) x xs h (rest h)

  pub none_found : (xs : List A) → All (λ x. p x ≡ false) xs → find p xs ≡ None
  none_found [] h = refl
  none_found (x ∷ xs) h = ap (λ b. cond b (Some x) (find p xs)) (All-head (λ x. p x ≡ false) x xs h) ∙ none_found xs (All-tail (λ x. p x ≡ false) x xs h)

  -- where what is found would have a property that none has, none is found
  pub unfound_by : (P : A → Type 0) (xs : List A) → All (λ x. P x → ⊥) xs → IfSome (find p xs) P → All (λ x. p x ≡ false) xs
  unfound_by P [] never h = All-nil (λ x. p x ≡ false)
  unfound_by P (x ∷ xs) never h = by (p x) refl (λ e. unfound_by P xs (All-tail (λ x. P x → ⊥) x xs never) (subst (λ b. IfSome (cond b (Some x) (find p xs)) P) e h))
    where
      by : (b : Bool) → p x ≡ b → (p x ≡ false → All (λ x. p x ≡ false) xs) → All (λ x. p x ≡ false) (x ∷ xs)
      by true e rest = absurd (All-head (λ x. P x → ⊥) x xs never (subst (λ b. IfSome (cond b (Some x) (find p xs)) P) e h))
      by false e rest = All-cons (λ x. p x ≡ false) x xs e (rest e)

  -- what is found in a list with one more: in the list, or the last, where it was not found before
  pub found_more : (P : A → Type 0) (xs : List A) (x : A) → IfSome (find p xs) P → (find p xs ≡ None → p x ≡ true → P x) → IfSome (find p (xs ++ x ∷ [])) P
  found_more P xs x h last = subst (λ (o : Option A). IfSome o P) (sym (find-append p xs (x ∷ []))) (by (find p xs) refl h)
    where
      one : (b : Bool) → p x ≡ b → (p x ≡ true → P x) → IfSome (cond b (Some x) None) P
      one true e h = h e
      one false e h = tt

      by : (o : Option A) → find p xs ≡ o → IfSome o P → IfSome (option_or o (find p (x ∷ []))) P
      by None e h = one (p x) refl (last e)
      by (Some y) e h = h

-- ---- filters

module _ {A : Type 0} (p : A → Bool) where
  pub of_filter : (xs : List A) (x : A) → Contains (filter p xs) x → Contains xs x × (p x ≡ true)
  of_filter xs x c = (All-contains (Contains xs) (filter p xs) x (All-filter p (Contains xs) xs (All-contains_itself xs)) c, All-contains (λ y. p y ≡ true) (filter p xs) x (filter_passes p xs) c)

  later : (x y : A) (xs : List A) → Contains xs x → Contains (y ∷ xs) x
  later x y xs c = let k : ℕ = c.0 in let n : ℕ = length xs in let lt : k < n = c.1 in (suc c.0, omega arith, c.2)

  pub in_filter : (xs : List A) (x : A) → Contains xs x → p x ≡ true → Contains (filter p xs) x
  in_filter [] x c h = absurd (omega (arith, c.1))
  in_filter (y ∷ ys) x (zero, lt, e) h =
      cond_both (p y) (y ∷ filter p ys) (filter p ys) (λ l. Contains l x) (λ _. (0, omega arith, e)) (λ no. let wrong : true ≡ false = sym h ∙ (ap p (sym e) ∙ no) in absurd (cc))
  in_filter (y ∷ ys) x (suc k, lt, e) h =
      let c = in_filter ys x (k, omega arith, e) h in
      cond_both (p y) (y ∷ filter p ys) (filter p ys) (λ l. Contains l x) (λ _. later x y (filter p ys) c) (λ _. c)

-- each before the next, with one more that all are before
pub pairs_more : {A : Type 0} (R : A → A → Type 0) (xs : List A) (x : A) → AllPairs R xs → All (λ y. R y x) xs → AllPairs R (xs ++ x ∷ [])
pairs_more R [] x h all = λ i j d lt within. absurd (omega arith)
pairs_more R (y ∷ ys) x h all =
    AllPairs-cons R y (ys ++ x ∷ []) (All-push (R y) ys x (λ k d lt. h zero (suc k) d (omega arith) (omega arith)) (All-head (λ z. R z x) y ys all))
    (pairs_more R ys x (λ i j d lt within. h (suc i) (suc j) d (omega arith) (omega arith)) (All-tail (λ z. R z x) y ys all))
