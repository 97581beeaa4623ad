-- Rising lists, and the sets that they are.
use Rattle.std.proofs.Common.{◌≡◌, ℕ, zero, suc, ◌+◌, ◌-◌, ◌<◌, ◌≤◌, Bool, true, false, cond, not, ◌&&◌, ◌||◌, List, [], ◌∷◌, ◌++◌, filter, take, drop, length, sym, ap, ◌∙◌, refl, arith, nat_le, nat_lt, ◌==◌, nat_eq, get_or, inl, inr, ◌⊎◌, subst, append_assoc, drop-cons, add-one, append-nil, length-drop, add-zero, min, max, Result, Ok, Err}
use Rattle.std.specs.List.{range_with_len}
use Rattle.std.specs.List.Sorted.{IsBinarySearchResult}
use Rattle.std.specs.Ordering.{nat_cmp}
use Rattle.std.specs.Result.{is_ok}
use Rattle.std.proofs.lemmas.Bool.{cases_order, cases_lt}
use Rattle.std.proofs.lemmas.List.{drop_all, take_all, take_more}
use Rattle.std.proofs.lemmas.Bool.Decides.{nat_tests}
use Rattle.std.proofs.lemmas.List.Folds.{list_any_at}
use Rattle.std.proofs.lemmas.List.Sorted.{searched}
use Rattle.pascal_values.specs.Sets.{IsRising, IsSet, is_member, set_of, union, intersection, difference, interval}

-- the ordinals from n on, below 256
abbrev pub from : ℕ → List ℕ
from n = range_with_len n (256 - n)

-- a rising list goes up
pub IsRising-le : (low : ℕ) (ns : List ℕ) (high : ℕ) → IsRising low ns high → low ≤ high
IsRising-le low [] high r = r
IsRising-le low (n ∷ ns) high r = omega (arith, IsRising-le (n + 1) ns high r.1)

pub IsRising-lower : (low mid : ℕ) (ns : List ℕ) (high : ℕ) → low ≤ mid → IsRising mid ns high → IsRising low ns high
IsRising-lower low mid [] high le r = omega arith
IsRising-lower low mid (n ∷ ns) high le r = (omega arith, r.1)

pub IsRising-higher : (low : ℕ) (ns : List ℕ) (mid high : ℕ) → mid ≤ high → IsRising low ns mid → IsRising low ns high
IsRising-higher low [] mid high le r = omega arith
IsRising-higher low (n ∷ ns) mid high le r = (r.0, IsRising-higher (n + 1) ns mid high le r.1)

-- one more ordinal at the end
pub IsRising-push : (low : ℕ) (ns : List ℕ) (mid n : ℕ) → IsRising low ns mid → mid ≤ n → IsRising low (ns ++ n ∷ []) (n + 1)
IsRising-push low [] mid n r le = (omega arith, omega arith)
IsRising-push low (m ∷ ns) mid n r le = (r.0, IsRising-push (m + 1) ns mid n r.1 le)

-- what is chosen from ordinals that rise, rises
pub IsRising-filter : (p : ℕ → Bool) (low : ℕ) (ns : List ℕ) (high : ℕ) → IsRising low ns high → IsRising low (filter p ns) high
IsRising-filter p low [] high r = r
IsRising-filter p low (n ∷ ns) high r = elim (p n) as (λ b. IsRising low (cond b (n ∷ filter p ns) (filter p ns)) high) [ true ↦ (r.0, IsRising-filter p (n + 1) ns high r.1) | false ↦ IsRising-lower low (n + 1) (filter p ns) high (omega (arith, r.0)) (IsRising-filter p (n + 1) ns high r.1) ]

pub IsRising-range : (low n high : ℕ) → low + n ≤ high → IsRising low (range_with_len low n) high
IsRising-range low zero high le = omega arith
IsRising-range low (suc n) high le = (omega arith, IsRising-range (low + 1) n high (omega arith))

pub IsSet-set_of : (p : ℕ → Bool) → IsSet (set_of p)
unfolding set_of
IsSet-set_of p = IsRising-filter p 0 (range_with_len 0 256) 256 (IsRising-range 0 256 256 (omega arith))

-- two tests that agree from low on choose the same
pub filter-range-agree : (p q : ℕ → Bool) (low n : ℕ) → ((m : ℕ) → low ≤ m → p m ≡ q m) → filter p (range_with_len low n) ≡ filter q (range_with_len low n)
filter-range-agree p q low zero agree = refl
filter-range-agree p q low (suc n) agree =
    let e = agree low (omega arith) in
    let rest = filter-range-agree p q (low + 1) n (λ m le. agree m (omega arith)) in
    rw (e, rest)

-- an ordinal below a rising list is not in it
pub is_member-below : (m low : ℕ) (ns : List ℕ) (high : ℕ) → IsRising low ns high → m < low → is_member m ns ≡ false
is_member-below m low [] high r lt = refl
is_member-below m low (n ∷ ns) high r lt =
    let rest = is_member-below m (n + 1) ns high r.1 (omega (arith, r.0)) in
    let h = r.0 in grind (arith, nat_tests)

-- a test that first holds at x, and goes on as another
cons_from : (p q : ℕ → Bool) (x low n : ℕ) → low ≤ x → x < low + n → p x ≡ true → ((m : ℕ) → m < x → p m ≡ false) → ((m : ℕ) → x < m → p m ≡ q m) → ((m : ℕ) → m ≤ x → q m ≡ false) → filter p (range_with_len low n) ≡ x ∷ filter q (range_with_len low n)
cons_from p q x low zero le lt at before after none = absurd (omega arith)
cons_from p q x low (suc n) le lt at before after none = elim (nat_eq low x) as (λ b. nat_eq low x ≡ b → filter p (range_with_len low (suc n)) ≡ x ∷ filter q (range_with_len low (suc n))) [
  | true ↦ λ e. let is : low ≡ x = grind (arith, nat_tests) in
      let here : p low ≡ true = ap p is ∙ at in
      let gone : q low ≡ false = none low (omega arith) in
      let rest = filter-range-agree p q (low + 1) n (λ m more. after m (omega arith)) in
      rw (here, gone, rest, is)
  | false ↦ λ e. let less : low < x = grind (arith, nat_tests) in
      let here : p low ≡ false = before low less in
      let gone : q low ≡ false = none low (omega arith) in
      rw (here, gone) (cons_from p q x (low + 1) n (omega arith) (omega arith) at before after none)
] refl

set_of-cons : (p q : ℕ → Bool) (x : ℕ) → x < 256 → p x ≡ true → ((m : ℕ) → m < x → p m ≡ false) → ((m : ℕ) → x < m → p m ≡ q m) → ((m : ℕ) → m ≤ x → q m ≡ false) → set_of p ≡ x ∷ set_of q
unfolding set_of
set_of-cons p q x lt at before after none = cons_from p q x 0 256 (omega arith) (omega arith) at before after none

-- ---- searching

IsRising-at : (low : ℕ) (ns : List ℕ) (high i : ℕ) → IsRising low ns high → i < length ns → low ≤ get_or ns i 0
IsRising-at low [] high i r lt = omega arith
IsRising-at low (n ∷ ns) high zero r lt = r.0
IsRising-at low (n ∷ ns) high (suc i) r lt = omega (arith, IsRising-at (n + 1) ns high i r.1 (omega arith), r.0)

IsRising-sorted : (low : ℕ) (ns : List ℕ) (high i j : ℕ) → IsRising low ns high → i ≤ j → j < length ns → get_or ns i 0 ≤ get_or ns j 0
IsRising-sorted low [] high i j r le lt = omega arith
IsRising-sorted low (n ∷ ns) high zero zero r le lt = omega arith
IsRising-sorted low (n ∷ ns) high zero (suc j) r le lt = omega (arith, IsRising-at (n + 1) ns high j r.1 (omega arith))
IsRising-sorted low (n ∷ ns) high (suc i) zero r le lt = omega arith
IsRising-sorted low (n ∷ ns) high (suc i) (suc j) r le lt = IsRising-sorted (n + 1) ns high i j r.1 (omega arith) (omega arith)

absent : (n : ℕ) (ns : List ℕ) → ((k : ℕ) → k < length ns → (get_or ns k 0 == n) ≡ false) → is_member n ns ≡ false
absent n [] none = refl
absent n (m ∷ ns) none =
    let here : (m == n) ≡ false = none 0 (omega arith) in
    rw here (absent n ns (λ k lt. none (suc k) (omega arith)))

-- what a search answers
pub found : (ns : List ℕ) (n : ℕ) (r : Result ℕ ℕ) → IsSet ns → IsBinarySearchResult (λ y. nat_cmp y n) ns r → is_ok r ≡ is_member n ns
found ns n (Ok i) set s =
    let at = searched ns n (Ok i) s (λ i j. IsRising-sorted 0 ns 256 i j set) in
    sym (list_any_at (λ m. m == n) ns i 0 at.0 (rw at.1 (grind (arith, nat_tests))))
found ns n (Err i) set s =
    let at = searched ns n (Err i) s (λ i j. IsRising-sorted 0 ns 256 i j set) in
    sym (absent n ns (λ k lt. elim (nat_le i k) as (λ b. nat_le i k ≡ b → (get_or ns k 0 == n) ≡ false) [
      | true ↦ λ e. let le : i ≤ k = grind (arith, nat_tests) in let above = at.2 k le lt in grind (arith, nat_tests)
      | false ↦ λ e. let less : k < i = grind (arith, nat_tests) in let below = at.1 k less in grind (arith, nat_tests)
    ] refl))

-- ---- choosing

filter-range-none : (p : ℕ → Bool) (low n : ℕ) → ((m : ℕ) → p m ≡ false) → filter p (range_with_len low n) ≡ []
filter-range-none p low zero none = refl
filter-range-none p low (suc n) none = rw (none low) (filter-range-none p (low + 1) n none)

set_of-none : (p : ℕ → Bool) → ((m : ℕ) → p m ≡ false) → set_of p ≡ []
unfolding set_of
set_of-none p none = filter-range-none p 0 256 none

set_of-agree : (p q : ℕ → Bool) → ((m : ℕ) → p m ≡ q m) → set_of p ≡ set_of q
unfolding set_of
set_of-agree p q agree = filter-range-agree p q 0 256 (λ m le. agree m)

not_equal : (m n : ℕ) → m < n → (m == n) ≡ false
not_equal m n lt = grind (arith, nat_tests)

not_equal_above : (m n : ℕ) → n < m → (m == n) ≡ false
not_equal_above m n lt = grind (arith, nat_tests)

itself : (n : ℕ) → (n == n) ≡ true
itself n = grind (arith, nat_tests)

by_order : {P : Type 0} (m n : ℕ) → (m < n → P) → (m ≡ n → P) → (n < m → P) → P
by_order m n less same more = elim (cases_order m n) [ inl is ↦ same is | inr (inl lt) ↦ less lt | inr (inr gt) ↦ more gt ]

and-false : (b : Bool) → (b && false) ≡ false
and-false true = refl
and-false false = refl

-- the members of a set that pass a test
pub choice : (q : ℕ → Bool) (low : ℕ) (ns : List ℕ) → IsRising low ns 256 → set_of (λ m. is_member m ns && q m) ≡ filter q ns
choice q low [] r = set_of-none _ (λ m. refl)
choice q low (n ∷ ns) r =
    let top : n < 256 = omega (arith, IsRising-le (n + 1) ns 256 r.1) in
    let rest = choice q (n + 1) ns r.1 in
    let agree : (m : ℕ) → n < m → (is_member m (n ∷ ns) && q m) ≡ (is_member m ns && q m) = λ m lt. rw (not_equal n m lt) in
    let before : (m : ℕ) → m < n → (is_member m (n ∷ ns) && q m) ≡ false = λ m lt. rw (not_equal_above n m lt, is_member-below m (n + 1) ns 256 r.1 (omega arith)) in
    let gone : (m : ℕ) → m ≤ n → (is_member m ns && q m) ≡ false = λ m le. rw (is_member-below m (n + 1) ns 256 r.1 (omega arith)) in
    elim (q n) as (λ b. q n ≡ b → set_of (λ m. is_member m (n ∷ ns) && q m) ≡ cond b (n ∷ filter q ns) (filter q ns)) [
      | true ↦ λ e. set_of-cons (λ m. is_member m (n ∷ ns) && q m) (λ m. is_member m ns && q m) n top (rw (itself n, e)) before agree gone ∙ ap (λ l. n ∷ l) rest
      | false ↦ λ e. set_of-agree (λ m. is_member m (n ∷ ns) && q m) (λ m. is_member m ns && q m) (λ m. by_order n m (λ lt. agree m lt) (λ is. let fails : q m ≡ false = ap q (sym is) ∙ e in rw fails (and-false (is_member m (n ∷ ns)) ∙ sym (and-false (is_member m ns)))) (λ lt. before m lt ∙ sym (gone m (omega arith)))) ∙ rest
    ] refl

and-true : (b : Bool) → (b && true) ≡ b
and-true true = refl
and-true false = refl

filter-all : (ns : List ℕ) → filter (λ n. true) ns ≡ ns
filter-all [] = refl
filter-all (n ∷ ns) = ap (λ l. n ∷ l) (filter-all ns)

-- ---- merging

or-swap : (x y : Bool) → (x || y) ≡ (y || x)
or-swap true true = refl
or-swap true false = refl
or-swap false true = refl
or-swap false false = refl

-- where the least of what is left is in a
pub union-less : (x : ℕ) (xs : List ℕ) (y : ℕ) (ys : List ℕ) → IsSet (x ∷ xs) → IsSet (y ∷ ys) → x < y → union (x ∷ xs) (y ∷ ys) ≡ x ∷ union xs (y ∷ ys)
unfolding union
union-less x xs y ys r s lt =
    let top : x < 256 = omega (arith, IsRising-le (x + 1) xs 256 r.1) in
    let t : IsRising y (y ∷ ys) 256 = (omega arith, s.1) in
    set_of-cons (λ m. is_member m (x ∷ xs) || is_member m (y ∷ ys)) (λ m. is_member m xs || is_member m (y ∷ ys)) x top
    (rw (itself x))
    (λ m less. rw (not_equal_above x m less, is_member-below m (x + 1) xs 256 r.1 (omega arith)) (is_member-below m y (y ∷ ys) 256 t (omega arith)))
    (λ m more. rw (not_equal x m more))
    (λ m le. rw (is_member-below m (x + 1) xs 256 r.1 (omega arith)) (is_member-below m y (y ∷ ys) 256 t (omega arith)))

union-swap : (a b : List ℕ) → union a b ≡ union b a
unfolding union
union-swap a b = set_of-agree _ _ (λ m. or-swap (is_member m a) (is_member m b))

pub union-more : (x : ℕ) (xs : List ℕ) (y : ℕ) (ys : List ℕ) → IsSet (x ∷ xs) → IsSet (y ∷ ys) → y < x → union (x ∷ xs) (y ∷ ys) ≡ y ∷ union (x ∷ xs) ys
union-more x xs y ys r s lt = union-swap (x ∷ xs) (y ∷ ys) ∙ (union-less y ys x xs s r lt ∙ ap (λ l. y ∷ l) (union-swap ys (x ∷ xs)))

pub union-same : (x : ℕ) (xs ys : List ℕ) → IsSet (x ∷ xs) → IsSet (x ∷ ys) → union (x ∷ xs) (x ∷ ys) ≡ x ∷ union xs ys
unfolding union
union-same x xs ys r s =
    let top : x < 256 = omega (arith, IsRising-le (x + 1) xs 256 r.1) in
    set_of-cons (λ m. is_member m (x ∷ xs) || is_member m (x ∷ ys)) (λ m. is_member m xs || is_member m ys) x top
    (rw (itself x))
    (λ m less. rw (not_equal_above x m less, is_member-below m (x + 1) xs 256 r.1 (omega arith)) (is_member-below m (x + 1) ys 256 s.1 (omega arith)))
    (λ m more. rw (not_equal x m more))
    (λ m le. rw (is_member-below m (x + 1) xs 256 r.1 (omega arith)) (is_member-below m (x + 1) ys 256 s.1 (omega arith)))

-- a set is what it chooses
pub set_of-itself : (ns : List ℕ) → IsSet ns → set_of (λ m. is_member m ns) ≡ ns
set_of-itself ns set = set_of-agree _ (λ m. is_member m ns && true) (λ m. sym (and-true (is_member m ns))) ∙ (choice (λ m. true) 0 ns set ∙ filter-all ns)

pub union-right : (ns : List ℕ) → IsSet ns → union [] ns ≡ ns
unfolding union
union-right ns set = set_of-itself ns set

pub union-left : (ns : List ℕ) → IsSet ns → union ns [] ≡ ns
union-left ns set = union-swap ns [] ∙ union-right ns set

IsSet-drop : (i low : ℕ) (ns : List ℕ) → IsRising low ns 256 → IsRising low (drop i ns) 256
IsSet-drop zero low ns r = r
IsSet-drop (suc i) low [] r = r
IsSet-drop (suc i) low (n ∷ ns) r = IsRising-lower low (n + 1) (drop i ns) 256 (omega (arith, r.0)) (IsSet-drop i (n + 1) ns r.1)

-- one step of a merge of two sets
module _ (a b out u : List ℕ) (i j m n : ℕ) (a_set : IsSet a) (b_set : IsSet b) (i_in : i < length a) (j_in : j < length b) (m_is : m ≡ get_or a i 0) (n_is : n ≡ get_or b j 0) (rest : out ++ union (drop i a) (drop j b) ≡ u) where
  at_a : drop i a ≡ m ∷ drop (i + 1) a
  at_a = rw (add-one) (drop-cons a i 0 i_in ∙ ap (λ x. x ∷ drop (suc i) a) (sym m_is))

  at_b : drop j b ≡ n ∷ drop (j + 1) b
  at_b = rw (add-one) (drop-cons b j 0 j_in ∙ ap (λ x. x ∷ drop (suc j) b) (sym n_is))

  a_left : IsSet (m ∷ drop (i + 1) a)
  a_left = subst IsSet at_a (IsSet-drop i 0 a a_set)

  b_left : IsSet (n ∷ drop (j + 1) b)
  b_left = subst IsSet at_b (IsSet-drop j 0 b b_set)

  whole : union (drop i a) (drop j b) ≡ union (m ∷ drop (i + 1) a) (n ∷ drop (j + 1) b)
  whole = rw (at_a, at_b)

  next : (k : ℕ) (more : List ℕ) → union (m ∷ drop (i + 1) a) (n ∷ drop (j + 1) b) ≡ k ∷ more → (out ++ k ∷ []) ++ more ≡ u
  next k more e = append_assoc out (k ∷ []) more ∙ (ap (λ l. out ++ l) (sym (whole ∙ e)) ∙ rest)

  pub merge_less : m < n → (out ++ m ∷ []) ++ union (drop (i + 1) a) (drop j b) ≡ u
  merge_less lt = next m (union (drop (i + 1) a) (drop j b)) (union-less m (drop (i + 1) a) n (drop (j + 1) b) a_left b_left lt ∙ ap (λ l. m ∷ union (drop (i + 1) a) l) (sym at_b))

  pub merge_more : n < m → (out ++ n ∷ []) ++ union (drop i a) (drop (j + 1) b) ≡ u
  merge_more lt = next n (union (drop i a) (drop (j + 1) b)) (union-more m (drop (i + 1) a) n (drop (j + 1) b) a_left b_left lt ∙ ap (λ l. n ∷ union l (drop (j + 1) b)) (sym at_a))

  pub merge_same : m ≡ n → (out ++ m ∷ []) ++ union (drop (i + 1) a) (drop (j + 1) b) ≡ u
  merge_same e = next m (union (drop (i + 1) a) (drop (j + 1) b)) (ap (λ k. union (m ∷ drop (i + 1) a) (k ∷ drop (j + 1) b)) (sym e) ∙ union-same m (drop (i + 1) a) (drop (j + 1) b) a_left (subst (λ k. IsSet (k ∷ drop (j + 1) b)) (sym e) b_left))

  pub merge_both : (k i' : ℕ) (new : List ℕ) → k ≡ min m n → n ≤ m → new ≡ out ++ k ∷ [] → ((m ≤ n) × (i' ≡ i + 1)) ⊎ ((n < m) × (i' ≡ i)) → new ++ union (drop i' a) (drop (j + 1) b) ≡ u
  merge_both k i' new k_is le e (inl (le', i_is)) =
      let is : k ≡ m = omega arith in
      rw (e, is, i_is) (merge_same (omega arith))
  merge_both k i' new k_is le e (inr (lt, i_is)) =
      let is : k ≡ n = omega arith in
      rw (e, is, i_is) (merge_more lt)

  pub merge_one : (k i' : ℕ) (new : List ℕ) → k ≡ min m n → m < n → new ≡ out ++ k ∷ [] → i' ≡ i + 1 → new ++ union (drop i' a) (drop j b) ≡ u
  merge_one k i' new k_is lt e i_is =
      let is : k ≡ m = omega arith in
      rw (e, is, i_is) (merge_less lt)

take_rest : (i : ℕ) (ns : List ℕ) → take (length ns - i) (drop i ns) ≡ drop i ns
take_rest i ns = take_all (length ns - i) (drop i ns) (omega (arith, length-drop i ns))

-- the end of a merge, where one of the two is used up
pub merged_all : (a b out u : List ℕ) (i j : ℕ) → IsSet a → IsSet b → out ++ union (drop i a) (drop j b) ≡ u → (length a ≤ i) ⊎ (length b ≤ j) → (out ++ take (length a - i) (drop i a)) ++ take (length b - j) (drop j b) ≡ u
merged_all a b out u i j a_set b_set rest (inl all) =
    let none : drop i a ≡ [] = drop_all i a all in
    rw (take_rest i a, take_rest j b, none, append-nil) (ap (λ l. out ++ l) (sym (union-right (drop j b) (IsSet-drop j 0 b b_set))) ∙ rw none at rest)
merged_all a b out u i j a_set b_set rest (inr all) =
    let none : drop j b ≡ [] = drop_all j b all in
    rw (take_rest i a, take_rest j b, none, append-nil) (ap (λ l. out ++ l) (sym (union-left (drop i a) (IsSet-drop i 0 a a_set))) ∙ rw none at rest)

-- ---- the other operations

range_member : (m low n : ℕ) → is_member m (range_with_len low n) ≡ (nat_le low m && nat_lt m (low + n))
range_member m low zero = grind (arith, nat_tests)
range_member m low (suc n) = rw (range_member m (low + 1) n) (grind (arith, nat_tests))

pub IsSet-range : (low high : ℕ) → high < 256 → IsSet (range_with_len low (high + 1 - low))
IsSet-range low high lt = elim (cases_lt high low) [
  | inl above ↦ let none : high + 1 - low ≡ 0 = omega arith in rw none (omega arith)
  | inr le ↦ IsRising-lower 0 low (range_with_len low (high + 1 - low)) 256 (omega arith) (IsRising-range low (high + 1 - low) 256 (omega arith))
]

pub interval-is : (low high : ℕ) → high < 256 → interval low high ≡ range_with_len low (high + 1 - low)
unfolding interval
interval-is low high lt =
    set_of-agree _ _ (λ m. sym (range_member m low (high + 1 - low) ∙ grind (arith, nat_tests))) ∙ set_of-itself (range_with_len low (high + 1 - low)) (IsSet-range low high lt)

pub IsSet-union : (a b ns : List ℕ) → ns ≡ union a b → IsSet ns
unfolding union
IsSet-union a b ns is = subst IsSet (sym is) (IsSet-set_of (λ n. is_member n a || is_member n b))

range-push : (low k : ℕ) → range_with_len low k ++ (low + k) ∷ [] ≡ range_with_len low (suc k)
range-push low zero = ap (λ n. n ∷ []) (add-zero low)
range-push low (suc k) =
    let e : low + suc k ≡ low + 1 + k = omega arith in
    ap (λ l. low ∷ l) (ap (λ n. range_with_len (low + 1) k ++ n ∷ []) e ∙ range-push (low + 1) k)

-- one more ordinal of a range
pub range-more : (low n : ℕ) (ns new : List ℕ) → low ≤ n → ns ≡ range_with_len low (n - low) → new ≡ ns ++ n ∷ [] → new ≡ range_with_len low (n + 1 - low)
range-more low n ns new le is pushed =
    let e : low + (n - low) ≡ n = omega arith in
    let f : suc (n - low) ≡ n + 1 - low = omega arith in
    pushed ∙ (ap (λ l. l ++ n ∷ []) is ∙ (ap (λ m. range_with_len low (n - low) ++ m ∷ []) (sym e) ∙ (range-push low (n - low) ∙ ap (range_with_len low) f)))

-- what a loop over a set has chosen at its end
pub IsSet-chosen : (p : ℕ → Bool) (a out : List ℕ) (i : ℕ) → IsSet a → length a ≤ i → out ≡ filter p (take i a) → IsSet out
IsSet-chosen p a out i set all is = subst IsSet (sym (is ∙ ap (filter p) (take_all i a all))) (IsRising-filter p 0 a 256 set)

pub chosen-is : (p : ℕ → Bool) (a out : List ℕ) (i : ℕ) → length a ≤ i → out ≡ filter p (take i a) → out ≡ filter p a
chosen-is p a out i all is = is ∙ ap (filter p) (take_all i a all)

pub intersection-is : (items a b out : List ℕ) (i : ℕ) → items ≡ a → IsSet a → length items ≤ i → out ≡ filter (λ n. is_member n b) (take i items) → out ≡ intersection a b
unfolding intersection
intersection-is items a b out i same set all is = chosen-is (λ n. is_member n b) items out i all is ∙ (ap (filter (λ n. is_member n b)) same ∙ sym (choice (λ n. is_member n b) 0 a set))

pub difference-is : (items a b out : List ℕ) (i : ℕ) → items ≡ a → IsSet a → length items ≤ i → out ≡ filter (λ n. not (is_member n b)) (take i items) → out ≡ difference a b
unfolding difference
difference-is items a b out i same set all is = chosen-is (λ n. not (is_member n b)) items out i all is ∙ (ap (filter (λ n. not (is_member n b))) same ∙ sym (choice (λ n. not (is_member n b)) 0 a set))

range-up : (low high n : ℕ) → high + 1 ≤ n → n ≤ max low (high + 1) → n - low ≡ high + 1 - low
range-up low high n le up = omega arith

pub IsSet-ranged : (low high n : ℕ) (out : List ℕ) → high < 256 → high + 1 ≤ n → n ≤ max low (high + 1) → out ≡ range_with_len low (n - low) → IsSet out
IsSet-ranged low high n out lt le up is = subst IsSet (sym (is ∙ ap (range_with_len low) (range-up low high n le up))) (IsSet-range low high lt)

pub ranged-is : (low high n : ℕ) (out : List ℕ) → high < 256 → high + 1 ≤ n → n ≤ max low (high + 1) → out ≡ range_with_len low (n - low) → out ≡ interval low high
ranged-is low high n out lt le up is = is ∙ (ap (range_with_len low) (range-up low high n le up) ∙ sym (interval-is low high lt))

-- ---- whether ordinals rise

-- ordinals rise from low on, and the next may be this one at least
abbrev pub Rises : ℕ → List ℕ → ℕ → Type 0
Rises low [] next = low ≡ next
Rises low (n ∷ ns) next = (low ≤ n) × Rises (n + 1) ns next

Rises-push : (low : ℕ) (ns : List ℕ) (next n : ℕ) → Rises low ns next → next ≤ n → Rises low (ns ++ n ∷ []) (n + 1)
Rises-push low [] next n r le = (omega arith, refl)
Rises-push low (m ∷ ns) next n r le = (r.0, Rises-push (m + 1) ns next n r.1 le)

Rises-rising : (low : ℕ) (ns : List ℕ) (next high : ℕ) → Rises low ns next → next ≤ high → IsRising low ns high
Rises-rising low [] next high r le = omega arith
Rises-rising low (n ∷ ns) next high r le = (r.0, Rises-rising (n + 1) ns next high r.1 le)

Rises-at : (low : ℕ) (ns : List ℕ) (next high i : ℕ) → Rises low (take i ns) next → IsRising low ns high → i < length ns → (next ≤ get_or ns i 0) × (get_or ns i 0 < high)
Rises-at low [] next high i r s lt = absurd (omega arith)
Rises-at low (n ∷ ns) next high zero r s lt = (omega (arith, s.0), omega (arith, IsRising-le (n + 1) ns high s.1))
Rises-at low (n ∷ ns) next high (suc i) r s lt = Rises-at (n + 1) ns next high i r.1 s.1 (omega arith)

pub rises_more : (ns : List ℕ) (i least n : ℕ) → Rises 0 (take i ns) least → i < length ns → get_or ns i 0 ≡ n → least ≤ n → Rises 0 (take (i + 1) ns) (n + 1)
rises_more ns i least n r lt is le = subst (λ l. Rises 0 l (n + 1)) (sym (take_more ns i 0 lt ∙ ap (λ x. take i ns ++ x ∷ []) is)) (Rises-push 0 (take i ns) least n r le)

pub rises_all : (ns : List ℕ) (i least : ℕ) → length ns ≤ i → Rises 0 (take i ns) least → least ≤ 256 → IsSet ns
rises_all ns i least all r le = subst IsSet (take_all i ns all) (Rises-rising 0 (take i ns) least 256 r le)

pub rises_not : (ns : List ℕ) (i least n : ℕ) → Rises 0 (take i ns) least → i < length ns → get_or ns i 0 ≡ n → (n < least) ⊎ (255 < n) → ¬ IsSet ns
rises_not ns i least n r lt is (inl low) set = let a = Rises-at 0 ns least 256 i r set lt in omega (arith, a.0)
rises_not ns i least n r lt is (inr high) set = let a = Rises-at 0 ns least 256 i r set lt in omega (arith, a.1)

-- ---- members

pub same_members : (a b : List ℕ) → IsSet a → IsSet b → ((n : ℕ) → is_member n a ≡ is_member n b) → a ≡ b
same_members a b r s same = sym (set_of-itself a r) ∙ (set_of-agree (λ n. is_member n a) (λ n. is_member n b) same ∙ set_of-itself b s)

member_by : (same_ kept others passes : Bool) (here rest : Bool) → (same_ ≡ true → passes ≡ kept) → rest ≡ (others && passes) → here ≡ cond kept (same_ || rest) rest → here ≡ ((same_ || others) && passes)
member_by true true others passes here rest p r h = rw (p refl) h
member_by true false others passes here rest p r h = rw (p refl) (h ∙ (r ∙ rw (p refl) (and-false others)))
member_by false true others passes here rest p r h = h ∙ r
member_by false false others passes here rest p r h = h ∙ r

is_member-filter : (p : ℕ → Bool) (ns : List ℕ) (n : ℕ) → is_member n (filter p ns) ≡ (is_member n ns && p n)
is_member-filter p [] n = refl
is_member-filter p (m ∷ ns) n = member_by (m == n) (p m) (is_member n ns) (p n) (is_member n (filter p (m ∷ ns))) (is_member n (filter p ns)) (λ e. let is : m ≡ n = grind (arith, nat_tests) in ap p (sym is)) (is_member-filter p ns n) (by_kept (p m))
  where
    by_kept : (b : Bool) → is_member n (cond b (m ∷ filter p ns) (filter p ns)) ≡ cond b ((m == n) || is_member n (filter p ns)) (is_member n (filter p ns))
    by_kept true = refl
    by_kept false = refl

pub is_member-set_of : (p : ℕ → Bool) (n : ℕ) → is_member n (set_of p) ≡ (nat_lt n 256 && p n)
unfolding set_of
is_member-set_of p n = is_member-filter p (range_with_len 0 256) n ∙ ap (λ b. b && p n) (range_member n 0 256 ∙ grind (arith, nat_tests))
