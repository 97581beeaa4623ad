-- Locals of parameters, by their numbers.
use Rattle.std.proofs.Common.{◌≡◌, ◌∙◌, ℕ, zero, suc, ◌+◌, ◌-◌, ◌<◌, ◌≤◌, List, [], ◌∷◌, ◌++◌, length, get_or, drop, Option, Some, None, refl, sym, ap, arith, rules, tests, Bool, true, append_assoc}
use Rattle.std.specs.Prelude.{option_map, if◌then◌else◌, nat_lt, slice_get}
use Rattle.std.proofs.lemmas.List.{append-nil}
use Rattle.estelle_model.specs.declared.meaning.Passing.{Passing}
use Rattle.estelle_model.specs.declared.meaning.Passing.TheVariants.{ByValue, ByPlace}
use Rattle.body_compiler_pieces.specs.UnitCode.{local_of, reference_of}
use Rattle.body_compiler_emission.specs.Scopes.{value_local, value_locals, place_local, place_locals}
use Rattle.body_compiler_emission.proofs.Lists.{opened, all_dropped}

-- ---- one parameter more

pub value_next : (ps : List Passing) (i at : ℕ) (p : Passing) (ls ms : List ℕ) → i < length ps → p ≡ get_or ps i p → ms ≡ ls ++ value_local at p
    → ms ++ value_locals (at + 1) (drop (i + 1) ps) ≡ ls ++ value_locals at (drop i ps)
value_next ps i at p ls ms some is more =
    ap (λ l. l ++ value_locals (at + 1) (drop (i + 1) ps)) more
    ∙ append_assoc ls (value_local at p) (value_locals (at + 1) (drop (i + 1) ps))
    ∙ ap (λ l. ls ++ value_locals at l) (sym (opened ps i p some is))

pub value_end : (ps : List Passing) (i at : ℕ) (ls : List ℕ) → length ps ≤ i → ls ++ value_locals at (drop i ps) ≡ ls
value_end ps i at ls end = ap (λ l. ls ++ value_locals at l) (all_dropped ps i end) ∙ append-nil ls

pub place_next : (ps : List Passing) (i at : ℕ) (p : Passing) (ls ms : List ℕ) → i < length ps → p ≡ get_or ps i p → ms ≡ ls ++ place_local at p
    → ms ++ place_locals (at + 1) (drop (i + 1) ps) ≡ ls ++ place_locals at (drop i ps)
place_next ps i at p ls ms some is more =
    ap (λ l. l ++ place_locals (at + 1) (drop (i + 1) ps)) more
    ∙ append_assoc ls (place_local at p) (place_locals (at + 1) (drop (i + 1) ps))
    ∙ ap (λ l. ls ++ place_locals at l) (sym (opened ps i p some is))

pub place_end : (ps : List Passing) (i at : ℕ) (ls : List ℕ) → length ps ≤ i → ls ++ place_locals at (drop i ps) ≡ ls
place_end ps i at ls end = ap (λ l. ls ++ place_locals at l) (all_dropped ps i end) ∙ append-nil ls

-- ---- the local with a number

-- a number among what stands behind so many parameters
unfoldable ahead : ℕ → Option ℕ → Option ℕ
ahead zero o = o
ahead (suc i) o = ahead i (option_map suc o)

ahead_some : (i k : ℕ) → ahead i (Some k) ≡ Some (i + k)
unfolding ahead
ahead_some zero k = ap (λ n. Some n) (let e : k ≡ 0 + k = omega arith in e)
ahead_some (suc i) k = ahead_some i (suc k) ∙ ap (λ n. Some n) (let e : i + suc k ≡ suc i + k = omega arith in e)

ahead_next : (i : ℕ) (o : Option ℕ) → ahead i (option_map suc o) ≡ ahead (i + 1) o
unfolding ahead
ahead_next i o = ap (λ n. ahead n o) (let e : suc i ≡ i + 1 = omega arith in e)

here : (i : ℕ) → ahead i (Some 0) ≡ Some i
here i = ahead_some i 0 ∙ ap (λ n. Some n) (let e : i + 0 ≡ i = omega arith in e)

value_at : (ps : List Passing) (own i k n : ℕ) → slice_get (value_locals i ps) k ≡ Some n → ahead i (local_of ps own k) ≡ Some n
value_at [] own i k n is = absurd (cc)
value_at (ByPlace ∷ ps) own i k n is = ahead_next i (local_of ps own k) ∙ value_at ps own (i + 1) k n is
value_at (ByValue t ∷ ps) own i zero n is = here i ∙ is
value_at (ByValue t ∷ ps) own i (suc k) n is = ahead_next i (local_of ps own k) ∙ value_at ps own (i + 1) k n is

pub value_found : (ps : List Passing) (own k n : ℕ) → slice_get (value_locals 0 ps) k ≡ Some n → local_of ps own k ≡ Some n
unfolding ahead
value_found ps own k n is = value_at ps own 0 k n is

less_is : (left own : ℕ) → left < own → nat_lt left own ≡ true
less_is left own less = search (tests, rules)

behind_all : (ps : List Passing) (own i k left : ℕ) → left < own → k ≡ length (value_locals i ps) + left → ahead i (local_of ps own k) ≡ Some (i + length ps + left)
behind_all [] own i k left less is =
    let same : k ≡ left = omega (arith, is) in
    ap (λ n. ahead i (if nat_lt n own then Some n else None)) same ∙ ap (λ (b : Bool). ahead i (if b then Some left else None)) (less_is left own less) ∙ ahead_some i left
    ∙ ap (λ n. Some n) (let e : i + left ≡ i + 0 + left = omega arith in e)
behind_all (ByPlace ∷ ps) own i k left less is =
    ahead_next i (local_of ps own k) ∙ behind_all ps own (i + 1) k left less is
    ∙ ap (λ n. Some n) (let e : i + 1 + length ps + left ≡ i + suc (length ps) + left = omega arith in e)
behind_all (ByValue t ∷ ps) own i zero left less is = absurd (omega (arith, is))
behind_all (ByValue t ∷ ps) own i (suc k) left less is =
    ahead_next i (local_of ps own k) ∙ behind_all ps own (i + 1) k left less (omega (arith, is))
    ∙ ap (λ n. Some n) (let e : i + 1 + length ps + left ≡ i + suc (length ps) + left = omega arith in e)

past : (xs : List ℕ) (k : ℕ) → slice_get xs k ≡ None → length xs ≤ k
past [] k is = omega arith
past (x ∷ xs) zero is = absurd (cc)
past (x ∷ xs) (suc k) is = let h = past xs k is in omega (arith, h)

pub own_found : (ps : List Passing) (own k left n : ℕ) → slice_get (value_locals 0 ps) k ≡ None → left ≡ k - length (value_locals 0 ps) → left < own → n ≡ length ps + left → local_of ps own k ≡ Some n
unfolding ahead
own_found ps own k left n is rest less at =
    let h = past (value_locals 0 ps) k is in
    behind_all ps own 0 k left less (omega (arith, h, rest)) ∙ ap (λ m. Some m) (let e : 0 + length ps + left ≡ n = omega (arith, at) in e)

place_at : (ps : List Passing) (i k n : ℕ) → slice_get (place_locals i ps) k ≡ Some n → ahead i (reference_of ps k) ≡ Some n
place_at [] i k n is = absurd (cc)
place_at (ByValue t ∷ ps) i k n is = ahead_next i (reference_of ps k) ∙ place_at ps (i + 1) k n is
place_at (ByPlace ∷ ps) i zero n is = here i ∙ is
place_at (ByPlace ∷ ps) i (suc k) n is = ahead_next i (reference_of ps k) ∙ place_at ps (i + 1) k n is

pub place_found : (ps : List Passing) (k n : ℕ) → slice_get (place_locals 0 ps) k ≡ Some n → reference_of ps k ≡ Some n
unfolding ahead
place_found ps k n is = place_at ps 0 k n is
