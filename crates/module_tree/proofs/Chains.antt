-- The children that are there, from the last one back.
use Rattle.std.proofs.Common.{◌≡◌, ◌≢◌, ℕ, zero, suc, ◌+◌, ◌-◌, Bool, true, false, cond, List, [], ◌∷◌, ◌++◌, map, reverse, filter, refl, sym, ap, subst, ◌∙◌, arith, append_assoc, append-nil}
use Rattle.std.specs.List.{range_with_len}
use Rattle.std.proofs.lemmas.List.{reverse-append, map-append}
use Rattle.std.proofs.lemmas.List.Elements.{filter-append}
use Rattle.module_tree.specs.Nodes.{latest}
use Rattle.module_tree.proofs.Latest.{latest_there}

-- the numbers from 1 to n that pass
abbrev pub passing : (ℕ → Bool) → ℕ → List ℕ
passing P n = filter P (range_with_len 1 n)

range_more : (a n : ℕ) → range_with_len a (suc n) ≡ range_with_len a n ++ (a + n) ∷ []
range_more a zero = ap (λ k. k ∷ []) (omega arith)
range_more a (suc n) = ap (λ ks. a ∷ ks) (range_more (a + 1) n ∙ ap (λ k. range_with_len (a + 1) n ++ k ∷ []) (omega arith))

passing_more : (P : ℕ → Bool) (n : ℕ) → passing P (suc n) ≡ passing P n ++ cond (P (suc n)) (suc n ∷ []) []
passing_more P n = ap (filter P) (range_more 1 n ∙ ap (λ k. range_with_len 1 n ++ k ∷ []) (omega arith)) ∙ filter-append P (range_with_len 1 n) (suc n ∷ [])

-- none passes beyond the greatest that does
pub passing_latest : (P : ℕ → Bool) (n : ℕ) → passing P n ≡ passing P (latest P n)
passing_latest P zero = refl
passing_latest P (suc n) = by (P (suc n)) refl (passing_latest P n)
  where
    by : (b : Bool) → P (suc n) ≡ b → passing P n ≡ passing P (latest P n) → passing P (suc n) ≡ passing P (cond b (suc n) (latest P n))
    by true e rest = refl
    by false e rest = passing_more P n ∙ ap (λ b. passing P n ++ cond b (suc n ∷ []) []) e ∙ append-nil (passing P n) ∙ rest

pub passing_top : (P : ℕ → Bool) (k : ℕ) → k ≢ 0 → P k ≡ true → passing P k ≡ passing P (latest P (k - 1)) ++ k ∷ []
passing_top P zero some h = absurd (some refl)
passing_top P (suc n) some h =
    let e : suc n - 1 ≡ n = omega arith in
    passing_more P n ∙ ap (λ b. passing P n ++ cond b (suc n ∷ []) []) h ∙ ap (λ m. m ++ suc n ∷ []) (passing_latest P n) ∙ ap (λ m. passing P (latest P m) ++ suc n ∷ []) (sym e)

-- one more of them is listed
pub listed_more : {A : Type 0} (f : ℕ → A) (P : ℕ → Bool) (k : ℕ) (all xs : List A) → k ≢ 0 → P k ≡ true → all ≡ xs ++ map f (reverse (passing P k)) → all ≡ (xs ++ f k ∷ []) ++ map f (reverse (passing P (latest P (k - 1))))
listed_more f P k all xs some h is =
    is ∙ ap (λ ks. xs ++ map f (reverse ks)) (passing_top P k some h) ∙ ap (λ ks. xs ++ map f ks) (reverse-append (passing P (latest P (k - 1))) (k ∷ [])) ∙ sym (append_assoc xs (f k ∷ []) _)

pub chain_step : {A : Type 0} (f : ℕ → A) (P : ℕ → Bool) (k before : ℕ) (all xs ys : List A) → k ≢ 0 → P k ≡ true → before ≡ latest P (k - 1) → ys ≡ xs ++ f k ∷ [] → all ≡ xs ++ map f (reverse (passing P k)) → all ≡ ys ++ map f (reverse (passing P before))
chain_step f P k before all xs ys some h is more listed =
    listed_more f P k all xs some h listed ∙ ap (λ zs. zs ++ map f (reverse (passing P (latest P (k - 1))))) (sym more) ∙ ap (λ n. ys ++ map f (reverse (passing P n))) (sym is)

pub chain_start : {A : Type 0} (f : ℕ → A) (P : ℕ → Bool) (n last : ℕ) (xs : List A) → last ≡ latest P n → xs ≡ [] → map f (reverse (passing P n)) ≡ xs ++ map f (reverse (passing P last))
chain_start f P n last xs is none = ap (λ ks. map f (reverse ks)) (passing_latest P n ∙ ap (passing P) (sym is)) ∙ ap (λ zs. zs ++ map f (reverse (passing P last))) (sym none)

pub passes_where : (P : ℕ → Bool) (n k : ℕ) → k ≡ latest P n → k ≢ 0 → P k ≡ true
passes_where P n k is some = subst (λ k. P k ≡ true) (sym is) (latest_there P n (λ e. some (is ∙ e)))

pub map-reverse : {A B : Type 0} (f : A → B) (xs : List A) → map f (reverse xs) ≡ reverse (map f xs)
map-reverse f [] = refl
map-reverse f (x ∷ xs) = ap (map f) (reverse-append (x ∷ []) xs) ∙ map-append f (reverse xs) (x ∷ []) ∙ ap (λ ys. ys ++ f x ∷ []) (map-reverse f xs) ∙ sym (reverse-append (f x ∷ []) (map f xs))

reverse-reverse : {A : Type 0} (xs : List A) → reverse (reverse xs) ≡ xs
reverse-reverse [] = refl
reverse-reverse (x ∷ xs) = ap reverse (reverse-append (x ∷ []) xs) ∙ reverse-append (reverse xs) (x ∷ []) ∙ ap (λ ys. x ∷ ys) (reverse-reverse xs)

pub forth : {A B : Type 0} (f : A → B) (xs : List A) → reverse (map f (reverse xs)) ≡ map f xs
forth f xs = ap reverse (map-reverse f xs) ∙ reverse-reverse (map f xs)
