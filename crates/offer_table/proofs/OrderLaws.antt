-- Lists in path order, in parts.
use Rattle.std.proofs.Common.{◌≡◌, ◌<◌, ◌≤◌, ◌+◌, ◌-◌, ℕ, zero, suc, Bool, true, false, not, List, [], ◌∷◌, ◌++◌, length, get_or, take, drop, filter, slice_range, length-drop, refl, sym, ap, subst, cond, ◌∙◌, arith, inl, inr}
use Rattle.std.specs.Prelude.{MatchResult, Result, Ok, Err}
use Rattle.std.specs.List.{AllWithin, HoldsAt}
use Rattle.std.specs.List.Sorted.{IsNonDecreasingBy, IsPartitionedBy, IsPartitionPoint, IsBinarySearchResult, IsSearchInRange}
use Rattle.std.specs.Ordering.{is_lt, ordering_index}
use Rattle.std.specs.declared.cmp.Ordering.TheVariants.{Less, Equal, Greater}
use Rattle.std.proofs.lemmas.Bool.{cases_eq}
use Rattle.std.proofs.lemmas.List.{get_or-drop, take_all}
use Rattle.std.proofs.lemmas.List.Sorted.{searchable_from_sorted}
use Rattle.std.proofs.lemmas.Map.Keys.{Less-from_sorted}
use Rattle.std.proofs.lemmas.Option.{slice_get-get_or}
use Rattle.estelle_tree.specs.Paths.{Path, path_cmp, is_inside}
use Rattle.offer_table.specs.Order.{InOrder, inside, outside}
use Rattle.offer_table.specs.Searches.{StandsAt, IsGap}
use Rattle.offer_table.proofs.PathLaws.{total, apart, turned, is_less, le_from_not_before, not_inside_before, inside_between}

-- ---- what passes a test, in one piece

module _ {T : Type 0} (P : T → Bool) where
  -- at the front
  pub front : (xs : List T) (i : ℕ) → i ≤ length xs → AllWithin (λ y. P y ≡ true) xs 0 i → AllWithin (λ y. P y ≡ false) xs i (length xs) → take i xs ≡ filter P xs
  front [] zero l h k = refl
  front [] (suc i) l h k = absurd (omega arith)
  front (x ∷ xs) zero l h k = front xs zero (omega arith) (λ j d a b. absurd (omega arith)) (λ j d a b. k (suc j) d (omega arith) (omega arith)) ∙ sym (ap (λ b. cond b (x ∷ filter P xs) (filter P xs)) (k 0 x (omega arith) (omega arith)))
  front (x ∷ xs) (suc i) l h k =
      ap (λ ys. x ∷ ys) (front xs i (omega arith) (λ j d a b. h (suc j) d (omega arith) (omega arith)) (λ j d a b. k (suc j) d (omega arith) (omega arith)))
      ∙ sym (ap (λ b. cond b (x ∷ filter P xs) (filter P xs)) (h 0 x (omega arith) (omega arith)))

  -- at the back
  pub back : (xs : List T) (i : ℕ) → AllWithin (λ y. P y ≡ false) xs 0 i → AllWithin (λ y. P y ≡ true) xs i (length xs) → drop i xs ≡ filter P xs
  back [] zero h k = refl
  back [] (suc i) h k = refl
  back (x ∷ xs) zero h k =
      ap (λ ys. x ∷ ys) (back xs zero (λ j d a b. absurd (omega arith)) (λ j d a b. k (suc j) d (omega arith) (omega arith)))
      ∙ sym (ap (λ b. cond b (x ∷ filter P xs) (filter P xs)) (k 0 x (omega arith) (omega arith)))
  back (x ∷ xs) (suc i) h k =
      back xs i (λ j d a b. h (suc j) d (omega arith) (omega arith)) (λ j d a b. k (suc j) d (omega arith) (omega arith))
      ∙ sym (ap (λ b. cond b (x ∷ filter P xs) (filter P xs)) (h 0 x (omega arith) (omega arith)))

  -- in the middle
  pub middle : (xs : List T) (a n : ℕ) → n ≤ length (drop a xs) → AllWithin (λ y. P y ≡ false) xs 0 a → IsPartitionPoint (λ y. P y ≡ true) (λ y. P y ≡ false) (drop a xs) n → take n (drop a xs) ≡ filter P xs
  middle [] zero n l h k = front [] n l k.0 k.1
  middle [] (suc a) n l h k = front [] n l k.0 k.1
  middle (x ∷ xs) zero n l h k = front (x ∷ xs) n l k.0 k.1
  middle (x ∷ xs) (suc a) n l h k = middle xs a n l (λ j d c b. h (suc j) d (omega arith) (omega arith)) k ∙ sym (ap (λ b. cond b (x ∷ filter P xs) (filter P xs)) (h 0 x (omega arith) (omega arith)))

module _ {T : Type 0} (P : T → Bool) where
  -- what fails a test round what passes it
  pub around : (xs : List T) (a n : ℕ) → AllWithin (λ y. P y ≡ false) xs 0 a → IsPartitionPoint (λ y. P y ≡ true) (λ y. P y ≡ false) (drop a xs) n → take a xs ++ drop n (drop a xs) ≡ filter (λ y. not (P y)) xs
  around xs zero n h k = back (λ y. not (P y)) xs n (λ j d c b. ap not (k.0 j d c b)) (λ j d c b. ap not (k.1 j d c b))
  around [] (suc a) n h k = back (λ y. not (P y)) [] n (λ j d c b. ap not (k.0 j d c b)) (λ j d c b. ap not (k.1 j d c b))
  around (x ∷ xs) (suc a) n h k =
      ap (λ ys. x ∷ ys) (around xs a n (λ j d c b. h (suc j) d (omega arith) (omega arith)) k)
      ∙ sym (ap (λ b. cond (not b) (x ∷ filter (λ y. not (P y)) xs) (filter (λ y. not (P y)) xs)) (h 0 x (omega arith) (omega arith)))

-- ---- searches

module _ {T : Type 0} (place : T → Path) where
  pub searchable : (xs : List T) (p : Path) → InOrder place xs → IsNonDecreasingBy (λ y. ordering_index (path_cmp (place y) p)) xs
  searchable xs p s = searchable_from_sorted total place xs p (λ k d low l. ap is_lt (turned (place (get_or xs k d)) (place (get_or xs (k + 1) d)) Less (Less-from_sorted (λ x y. path_cmp (place x) (place y)) xs k (k + 1) d s (omega arith) l)))

  -- what a search finds at an index
  pub stands : (xs : List T) (p : Path) (i : ℕ) → InOrder place xs → i < length xs → HoldsAt (λ y. path_cmp (place y) p ≡ Equal) xs i → StandsAt place p xs i
  stands [] p i s l h = absurd (omega arith)
  stands (x ∷ xs) p i s l h =
      record {
        own = (get_or (x ∷ xs) i x, slice_get-get_or (x ∷ xs) i x l, is x);
        within = l;
        front = front (λ y. is_lt (path_cmp (place y) p)) (x ∷ xs) i (omega arith) (λ k d a b. ap is_lt (earlier k d b)) (λ k d a b. not_before k d a b);
        back = back (λ y. is_lt (path_cmp p (place y))) (x ∷ xs) (i + 1) (λ k d a b. not_after k d b) (λ k d a b. ap is_lt (later k d (omega arith) b));
      }
    where
      is : (d : T) → place (get_or (x ∷ xs) i d) ≡ p
      is d = apart (place (get_or (x ∷ xs) i d)) p (h d)

      earlier : (k : ℕ) (d : T) → k < i → path_cmp (place (get_or (x ∷ xs) k d)) p ≡ Less
      earlier k d b = subst (λ q. path_cmp (place (get_or (x ∷ xs) k d)) q ≡ Less) (is d) (Less-from_sorted (λ x y. path_cmp (place x) (place y)) (x ∷ xs) k i d s b l)

      later : (k : ℕ) (d : T) → i < k → k < length (x ∷ xs) → path_cmp p (place (get_or (x ∷ xs) k d)) ≡ Less
      later k d a b = subst (λ q. path_cmp q (place (get_or (x ∷ xs) k d)) ≡ Less) (is d) (Less-from_sorted (λ x y. path_cmp (place x) (place y)) (x ∷ xs) i k d s a b)

      not_before : (k : ℕ) (d : T) → i ≤ k → k < length (x ∷ xs) → is_lt (path_cmp (place (get_or (x ∷ xs) k d)) p) ≡ false
      not_before k d a b =
          elim (cases_eq i k) [
            | inl e ↦ subst (λ n. is_lt (path_cmp (place (get_or (x ∷ xs) n d)) p) ≡ false) e (ap is_lt (h d))
            | inr n ↦ ap is_lt (turned p (place (get_or (x ∷ xs) k d)) Less (later k d (omega arith) b))
          ]

      not_after : (k : ℕ) (d : T) → k < i + 1 → is_lt (path_cmp p (place (get_or (x ∷ xs) k d))) ≡ false
      not_after k d b =
          elim (cases_eq i k) [
            | inl e ↦ subst (λ n. is_lt (path_cmp p (place (get_or (x ∷ xs) n d))) ≡ false) e (ap is_lt (turned (place (get_or (x ∷ xs) i d)) p Equal (h d)))
            | inr n ↦ ap is_lt (turned (place (get_or (x ∷ xs) k d)) p Less (earlier k d (omega arith)))
          ]

  -- and where it finds nothing
  pub gap : (xs : List T) (p : Path) (i : ℕ) → i ≤ length xs → IsPartitionPoint (λ y. path_cmp (place y) p ≡ Less) (λ y. path_cmp (place y) p ≡ Greater) xs i → IsGap place p xs i
  gap xs p i l h =
      record {
        within = l;
        front = front (λ y. is_lt (path_cmp (place y) p)) xs i l (λ k d a b. ap is_lt (h.0 k d a b)) (λ k d a b. ap is_lt (h.1 k d a b));
        back = back (λ y. is_lt (path_cmp p (place y))) xs i
            (λ k d a b. ap is_lt (turned (place (get_or xs k d)) p Less (h.0 k d a b)))
            (λ k d a b. ap is_lt (turned (place (get_or xs k d)) p Greater (h.1 k d a b)));
      }

  -- what a search comes to
  pub found : (xs : List T) (p : Path) (r : Result ℕ ℕ) → InOrder place xs → IsSearchInRange r (length xs) → IsBinarySearchResult (λ y. path_cmp (place y) p) xs r → MatchResult r (StandsAt place p xs) (IsGap place p xs)
  found xs p (Ok i) s l h = stands xs p i s l h
  found xs p (Err i) s l h = gap xs p i l (h (searchable xs p s))

  -- ---- what is before an instance, and then what is inside of it

  pub parted_before : (xs : List T) (p : Path) → InOrder place xs → IsPartitionedBy (λ y. is_lt (path_cmp (place y) p)) xs
  parted_before xs p s i j d le l h =
      elim (cases_eq i j) [
        | inl e ↦ subst (λ n. is_lt (path_cmp (place (get_or xs n d)) p) ≡ true) (sym e) h
        | inr n ↦ ap is_lt (total.trans (place (get_or xs i d)) (place (get_or xs j d)) p (Less-from_sorted (λ x y. path_cmp (place x) (place y)) xs i j d s (omega arith) l) (is_less _ h))
      ]

  -- from an index on nothing is before the instance
  abbrev pub IsFrom : Path → List T → ℕ → Type 0
  IsFrom p xs a = IsPartitionPoint (λ y. is_lt (path_cmp (place y) p) ≡ true) (λ y. is_lt (path_cmp (place y) p) ≡ false) xs a

  pub parted_inside : (xs : List T) (p : Path) (a : ℕ) → InOrder place xs → IsFrom p xs a → IsPartitionedBy (λ y. is_inside p (place y)) (drop a xs)
  parted_inside xs p a s f i j d le l h =
      let long : a + j < length xs = within xs a j l in
      elim (cases_eq i j) [
        | inl e ↦ subst (λ n. is_inside p (place (get_or (drop a xs) n d)) ≡ true) (sym e) h
        | inr n ↦
            ap (λ x. is_inside p (place x)) (get_or-drop a xs i d)
            ∙ inside_between p (place (get_or xs (a + i) d)) (place (get_or xs (a + j) d))
            (le_from_not_before p (place (get_or xs (a + i) d)) (f.1 (a + i) d (omega arith) (omega arith)))
            (Less-from_sorted (λ x y. path_cmp (place x) (place y)) xs (a + i) (a + j) d s (omega arith) long)
            (ap (λ x. is_inside p (place x)) (sym (get_or-drop a xs j d)) ∙ h)
      ]
    where
      within : (xs : List T) (a j : ℕ) → j < length (drop a xs) → a + j < length xs
      within xs zero j l = omega arith
      within [] (suc a) j l = omega arith
      within (x ∷ xs) (suc a) j l = let h = within xs a j l in omega arith

  -- what is before the instance is not inside
  pub none_inside : (xs : List T) (p : Path) (a : ℕ) → IsFrom p xs a → AllWithin (λ y. is_inside p (place y) ≡ false) xs 0 a
  none_inside xs p a f k d low l = not_inside_before p (place (get_or xs k d)) (is_less _ (f.0 k d low l))

  -- from there on what is inside of it lies in one piece
  pub spanned : (xs : List T) (p : Path) (a n : ℕ) (ys : List T) → InOrder place xs → (IsPartitionedBy (λ y. is_lt (path_cmp (place y) p)) xs → IsFrom p xs a)
      → ys ≡ take (length xs - a) (drop a xs) → n ≤ length ys → (IsPartitionedBy (λ y. is_inside p (place y)) ys → IsPartitionPoint (λ y. is_inside p (place y) ≡ true) (λ y. is_inside p (place y) ≡ false) ys n)
      → (slice_range xs a (a + n) ≡ inside place p xs) × (take a xs ++ drop (a + n) xs ≡ outside place p xs)
  spanned xs p a n ys s starts is l ends =
      let rest : ys ≡ drop a xs = is ∙ ap (λ m. take m (drop a xs)) (sym (length-drop a xs)) ∙ take_all (length (drop a xs)) (drop a xs) (omega arith) in
      let from : IsFrom p xs a = starts (parted_before xs p s) in
      let part = subst (λ zs. IsPartitionPoint (λ y. is_inside p (place y) ≡ true) (λ y. is_inside p (place y) ≡ false) zs n) rest (ends (subst (IsPartitionedBy (λ y. is_inside p (place y))) (sym rest) (parted_inside xs p a s from))) in (
        ap (λ m. take m (drop a xs)) {x = a + n - a} {y = n} (omega arith) ∙ middle (λ y. is_inside p (place y)) xs a n (subst (λ zs. n ≤ length zs) rest l) (none_inside xs p a from) part,
        ap (λ zs. take a xs ++ zs) (sym (later xs a n)) ∙ around (λ y. is_inside p (place y)) xs a n (none_inside xs p a from) part,
      )
    where
      none : (n : ℕ) → drop n [] ≡ (let xs : List T = [] in xs)
      none zero = refl
      none (suc n) = refl

      later : (xs : List T) (a n : ℕ) → drop n (drop a xs) ≡ drop (a + n) xs
      later xs zero n = ap (λ m. drop m xs) {x = n} {y = zero + n} (omega arith)
      later [] (suc a) n = none n ∙ sym (none (suc a + n))
      later (x ∷ xs) (suc a) n = later xs a n ∙ ap (λ m. drop m (x ∷ xs)) {x = suc (a + n)} {y = suc a + n} (omega arith)
