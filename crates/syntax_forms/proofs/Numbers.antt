-- Places in a list of tokens, by number.
use Rattle.std.proofs.Common.{◌≡◌, ◌≤◌, ◌+◌, ℕ, zero, suc, List, [], ◌∷◌, length, sym, refl, ap, ◌∙◌, inl, inr, ◌⊎◌, arith}
use Rattle.estelle_tree.specs.declared.token.Placed.{Placed}
use Rattle.estelle_tree.specs.Input.{Input, input, next, left, skip}
use Rattle.syntax_forms.specs.Places.{Reach}

-- a place further on has as many tokens left as are not skipped
pub skip_left : (n : ℕ) (ts : List Placed) (end : ℕ) → n ≤ length ts → left (skip n (input ts end)) + n ≡ length ts
unfolding left next
skip_left zero ts end le = omega arith
skip_left (suc n) [] end le = absurd (omega arith)
skip_left (suc n) (t ∷ ts) end le = let more = skip_left n ts t.span.end (omega arith) in omega arith

skip_past : (n : ℕ) (ts : List Placed) (end : ℕ) → length ts ≤ n → left (skip n (input ts end)) ≡ 0
unfolding left next
skip_past zero [] end le = refl
skip_past zero (t ∷ ts) end le = absurd (omega arith)
skip_past (suc n) [] end le = skip_past n [] end (omega arith)
skip_past (suc n) (t ∷ ts) end le = skip_past n ts t.span.end (omega arith)

-- behind the last token there is one place
skip_end : (n : ℕ) (ts : List Placed) (end : ℕ) → length ts ≤ n → skip n (input ts end) ≡ skip (length ts) (input ts end)
unfolding next
skip_end zero [] end le = refl
skip_end zero (t ∷ ts) end le = absurd (omega arith)
skip_end (suc n) [] end le = skip_end n [] end (omega arith)
skip_end (suc n) (t ∷ ts) end le = skip_end n ts t.span.end (omega arith)

skip_more : (m n : ℕ) (i : Input) → skip n (skip m i) ≡ skip (m + n) i
skip_more zero n i = let e : zero + n ≡ n = omega arith in rw e
skip_more (suc m) n i = let e : suc m + n ≡ suc (m + n) = omega arith in rw e (skip_more m n (next i))

-- a place behind this one, by how many tokens are left there
pub place_of : (tokens : List Placed) (at : ℕ) (j : Input) (to : ℕ) → at ≤ length tokens → Reach (skip at (input tokens 0)) j → to + left j ≡ length tokens → j ≡ skip to (input tokens 0)
place_of tokens at j to inside r count = go (at + r.0) (sym (skip_more at r.0 (input tokens 0)) ∙ r.1)
  where
    go : (n : ℕ) → skip n (input tokens 0) ≡ j → j ≡ skip to (input tokens 0)
    go n e = by n e (le_or n (length tokens))
      where
        le_or : (n m : ℕ) → (n ≤ m) ⊎ (m ≤ n)
        le_or zero m = inl (omega arith)
        le_or (suc n) zero = inr (omega arith)
        le_or (suc n) (suc m) = up (le_or n m)
          where
            up : (n ≤ m) ⊎ (m ≤ n) → (suc n ≤ suc m) ⊎ (suc m ≤ suc n)
            up (inl h) = inl (omega arith)
            up (inr h) = inr (omega arith)

        by : (n : ℕ) → skip n (input tokens 0) ≡ j → (n ≤ length tokens) ⊎ (length tokens ≤ n) → j ≡ skip to (input tokens 0)
        by n e (inl le) =
            let here = skip_left n tokens 0 le in
            let same : left (skip n (input tokens 0)) ≡ left j = ap left e in
            let number : n ≡ to = omega arith in
            sym e ∙ ap (λ n. skip n (input tokens 0)) number
        by n e (inr le) =
            let none = skip_past n tokens 0 le in
            let same : left (skip n (input tokens 0)) ≡ left j = ap left e in
            let number : length tokens ≡ to = omega arith in
            sym e ∙ (skip_end n tokens 0 le ∙ ap (λ n. skip n (input tokens 0)) number)
