-- What is enabled and what is marked after each change of a table, for callers.
use Rattle.std.proofs.Common.{◌≡◌, ◌≢◌, ◌<◌, length, arith, ℕ, Bool, true, false, not, List, [], ◌∷◌, ◌++◌, filter, refl, sym, ap, subst, cond, ◌∙◌, append-nil, nat_eq}
use Rattle.std.specs.Prelude.{◌&&◌, ◌||◌, ◌↔◌, IsTrue, MatchBool}
use Rattle.std.specs.List.{All, list_any, flat_map}
use Rattle.std.specs.Ordering.{is_lt, is_eq}
use Rattle.std.specs.Str.{bytes_eq}
use Rattle.std.specs.declared.cmp.Ordering.{Ordering}
use Rattle.std.specs.declared.cmp.Ordering.TheVariants.{Less, Equal, Greater}
use Rattle.std.proofs.lemmas.Bool.Decides.{nat_tests}
use Rattle.std.proofs.lemmas.List.Elements.{All-head, filter-append}
use Rattle.std.proofs.lemmas.Map.Text.{is_eq-slice_cmp}
use Rattle.std.proofs.lemmas.Map.Views.{any-filter_same}
use Rattle.estelle_tree.specs.Paths.{Path, path_cmp, is_inside}
use Rattle.offer_table.specs.declared.rows.Row.{Row}
use Rattle.offer_table.specs.Order.{before, after, inside, outside}
use Rattle.offer_table.specs.Tables.{Table, row_path, mark_path, IsRow, IsTable, is_on, numbers_at, row_of, with_row, with_mark}
use Rattle.offer_table.proofs.PathLaws.{apart as paths_apart, turned, same_path, same_itself}
use Rattle.offer_table.proofs.TableLaws.{found_between}

-- ---- what a test finds in a part of a list

module _ {T : Type 0} where
  -- in a part of which another test tells, wherever the first passes
  found_in_part : (E B : T → Bool) (b : Bool) → ((x : T) → E x ≡ true → B x ≡ b) → (xs : List T) → filter E (filter B xs) ≡ cond b (filter E xs) []
  found_in_part E B true h [] = refl
  found_in_part E B false h [] = refl
  found_in_part E B b h (x ∷ xs) = by (E x) refl (B x) refl b h (found_in_part E B b h xs)
    where
      by : (e : Bool) → E x ≡ e → (s : Bool) → B x ≡ s → (b : Bool) → ((x : T) → E x ≡ true → B x ≡ b) → filter E (filter B xs) ≡ cond b (filter E xs) []
          → filter E (cond s (x ∷ filter B xs) (filter B xs)) ≡ cond b (cond e (x ∷ filter E xs) (filter E xs)) []
      by true e true s true h rest = ap (λ c. cond c (x ∷ filter E (filter B xs)) (filter E (filter B xs))) e ∙ ap (λ ys. x ∷ ys) rest
      by true e true s false h rest = let w = sym s ∙ h x e in absurd (cc)
      by true e false s true h rest = let w = sym s ∙ h x e in absurd (cc)
      by true e false s false h rest = rest
      by false e true s b h rest = ap (λ c. cond c (x ∷ filter E (filter B xs)) (filter E (filter B xs))) e ∙ rest
      by false e false s b h rest = rest

  found_in_both : (E : T → Bool) (xs ys : List T) → list_any E (xs ++ ys) ≡ (list_any E xs || list_any E ys)
  found_in_both E [] ys = refl
  found_in_both E (x ∷ xs) ys = elim (E x) as (λ e. (e || list_any E (xs ++ ys)) ≡ ((e || list_any E xs) || list_any E ys)) [ true ↦ refl | false ↦ found_in_both E xs ys ]

  -- nothing that passes is left where it was taken out
  pub none_left : (P : T → Bool) (xs : List T) → filter P (filter (λ x. not (P x)) xs) ≡ []
  none_left P xs = found_in_part P (λ x. not (P x)) false (λ x e. ap not e) xs

-- nothing stands at and below an instance once it is removed there
pub none_inside_left : {T : Type 0} (place : T → Path) (p : Path) (xs : List T) → inside place p (outside place p xs) ≡ []
none_inside_left place p xs = none_left (λ x. is_inside p (place x)) xs

-- ---- rows

own_row : (p : Path) (ns : List ℕ) → filter (λ r. bytes_eq p r.path) (row_of p ns) ≡ row_of p ns
own_row p [] = refl
own_row p (n ∷ ns) = ap (λ b. cond b (row_of p (n ∷ ns)) []) (same_itself p)

numbers_in : (p : Path) (ns : List ℕ) → flat_map (λ r. r.numbers) (row_of p ns) ≡ ns
numbers_in p [] = refl
numbers_in p (n ∷ ns) = append-nil (n ∷ ns)

numbers_of_own : (p : Path) (ns : List ℕ) (rows : List Row) → numbers_at (with_row p ns rows) p ≡ ns
numbers_of_own p ns rows = ap (flat_map (λ r. r.numbers)) (found_between row_path rows p (row_of p ns) ∙ own_row p ns) ∙ numbers_in p ns

module _ (p q : Path) where
  other_row : (ns : List ℕ) → bytes_eq q p ≡ false → filter (λ r. bytes_eq q r.path) (row_of p ns) ≡ []
  other_row [] e = refl
  other_row (n ∷ ns) e = ap (λ b. cond b (row_of p (n ∷ ns)) []) e

  in_before : (b : Bool) → is_lt (path_cmp q p) ≡ b → (rows : List Row) → filter (λ r. bytes_eq q r.path) (before row_path p rows) ≡ cond b (filter (λ r. bytes_eq q r.path) rows) []
  in_before b e rows = found_in_part (λ r. bytes_eq q r.path) (λ r. is_lt (path_cmp r.path p)) b (λ r h. ap (λ x. is_lt (path_cmp x p)) (sym (same_path q r.path h)) ∙ e) rows

  in_after : (b : Bool) → is_lt (path_cmp p q) ≡ b → (rows : List Row) → filter (λ r. bytes_eq q r.path) (after row_path p rows) ≡ cond b (filter (λ r. bytes_eq q r.path) rows) []
  in_after b e rows = found_in_part (λ r. bytes_eq q r.path) (λ r. is_lt (path_cmp p r.path)) b (λ r h. ap (λ x. is_lt (path_cmp p x)) (sym (same_path q r.path h)) ∙ e) rows

  spread : (ns : List ℕ) (rows : List Row) → bytes_eq q p ≡ false → filter (λ r. bytes_eq q r.path) (with_row p ns rows) ≡ filter (λ r. bytes_eq q r.path) (before row_path p rows) ++ filter (λ r. bytes_eq q r.path) (after row_path p rows)
  spread ns rows e =
      filter-append (λ r. bytes_eq q r.path) (before row_path p rows) (row_of p ns ++ after row_path p rows)
      ∙ ap (λ zs. filter (λ r. bytes_eq q r.path) (before row_path p rows) ++ zs) (filter-append (λ r. bytes_eq q r.path) (row_of p ns) (after row_path p rows)
      ∙ ap (λ zs. zs ++ filter (λ r. bytes_eq q r.path) (after row_path p rows)) (other_row ns e))

-- these transitions of the instance are enabled then, and those of others as before
pub numbers_installed : (p q : Path) (ns : List ℕ) (rows : List Row) → numbers_at (with_row p ns rows) q ≡ cond (bytes_eq q p) ns (numbers_at rows q)
numbers_installed p q ns rows = by (path_cmp q p) refl
  where
    apart : (o : Ordering) → path_cmp q p ≡ o → is_eq o ≡ false → bytes_eq q p ≡ false
    apart o e n = sym (is_eq-slice_cmp q p) ∙ ap is_eq e ∙ n

    other : bytes_eq q p ≡ false → filter (λ r. bytes_eq q r.path) (with_row p ns rows) ≡ filter (λ r. bytes_eq q r.path) rows → numbers_at (with_row p ns rows) q ≡ cond (bytes_eq q p) ns (numbers_at rows q)
    other d e = ap (flat_map (λ r. r.numbers)) e ∙ sym (ap (λ b. cond b ns (numbers_at rows q)) d)

    by : (o : Ordering) → path_cmp q p ≡ o → numbers_at (with_row p ns rows) q ≡ cond (bytes_eq q p) ns (numbers_at rows q)
    by Less e =
        let d = apart Less e refl in
        other d (spread p q ns rows d ∙ (λ i. in_before p q true (ap is_lt e) rows i ++ in_after p q false (ap is_lt (turned q p Less e)) rows i) ∙ append-nil (filter (λ r. bytes_eq q r.path) rows))
    by Equal e =
        let same = paths_apart q p e in
        subst (λ x. numbers_at (with_row p ns rows) x ≡ cond (bytes_eq x p) ns (numbers_at rows x)) (sym same) (numbers_of_own p ns rows ∙ sym (ap (λ b. cond b ns (numbers_at rows p)) (same_itself p)))
    by Greater e =
        let d = apart Greater e refl in
        other d (spread p q ns rows d ∙ (λ i. in_before p q false (ap is_lt e) rows i ++ in_after p q true (ap is_lt (turned q p Greater e)) rows i))

-- nothing is enabled at and below an instance once it is removed there, and elsewhere what was
pub numbers_forgotten : (p q : Path) (rows : List Row) → numbers_at (outside row_path p rows) q ≡ cond (not (is_inside p q)) (numbers_at rows q) []
numbers_forgotten p q rows =
    ap (flat_map (λ r. r.numbers)) (found_in_part (λ r. bytes_eq q r.path) (λ r. not (is_inside p r.path)) (not (is_inside p q)) (λ r h. ap (λ x. not (is_inside p x)) (sym (same_path q r.path h))) rows)
    ∙ elim (not (is_inside p q)) as (λ b. flat_map (λ r. r.numbers) (cond b (filter (λ r. bytes_eq q r.path) rows) []) ≡ cond b (numbers_at rows q) []) [ true ↦ refl | false ↦ refl ]

-- ---- marks

-- the instance is marked then, and others as before
pub marked_then : (p q : Path) (marks : List Path) → list_any (bytes_eq q) (with_mark p marks) ≡ (bytes_eq q p || list_any (bytes_eq q) marks)
marked_then p q marks =
    found_in_both (bytes_eq q) (before mark_path p marks) (p ∷ after mark_path p marks) ∙ by (path_cmp q p) refl
  where
    part : (B : Path → Bool) (b : Bool) → B q ≡ b → list_any (bytes_eq q) (filter B marks) ≡ (b && list_any (bytes_eq q) marks)
    part B b e = any-filter_same (bytes_eq q) B b (λ k h. ap B (sym (same_path q k h)) ∙ e) marks

    at : (o : Ordering) → path_cmp q p ≡ o → bytes_eq q p ≡ is_eq o
    at o e = sym (is_eq-slice_cmp q p) ∙ ap is_eq e

    first : (b : Bool) → (b || false) ≡ b
    first true = refl
    first false = refl

    always : (b c : Bool) → (b || (true || c)) ≡ true
    always true c = refl
    always false c = refl

    by : (o : Ordering) → path_cmp q p ≡ o → (list_any (bytes_eq q) (before mark_path p marks) || (bytes_eq q p || list_any (bytes_eq q) (after mark_path p marks))) ≡ (bytes_eq q p || list_any (bytes_eq q) marks)
    by Less e =
        (λ i. part (λ x. is_lt (path_cmp x p)) true (ap is_lt e) i || (at Less e i || part (λ x. is_lt (path_cmp p x)) false (ap is_lt (turned q p Less e)) i))
        ∙ first (list_any (bytes_eq q) marks) ∙ sym (ap (λ b. b || list_any (bytes_eq q) marks) (at Less e))
    by Equal e =
        ap (λ b. list_any (bytes_eq q) (before mark_path p marks) || (b || list_any (bytes_eq q) (after mark_path p marks))) (at Equal e)
        ∙ always (list_any (bytes_eq q) (before mark_path p marks)) (list_any (bytes_eq q) (after mark_path p marks))
        ∙ sym (ap (λ b. b || list_any (bytes_eq q) marks) (at Equal e))
    by Greater e =
        (λ i. part (λ x. is_lt (path_cmp x p)) false (ap is_lt e) i || (at Greater e i || part (λ x. is_lt (path_cmp p x)) true (ap is_lt (turned q p Greater e)) i))
        ∙ sym (ap (λ b. b || list_any (bytes_eq q) marks) (at Greater e))

-- nothing is marked at and below an instance once it is removed there, and elsewhere what was
pub marked_elsewhere : (p q : Path) (marks : List Path) → list_any (bytes_eq q) (outside mark_path p marks) ≡ (not (is_inside p q) && list_any (bytes_eq q) marks)
marked_elsewhere p q marks = any-filter_same (bytes_eq q) (λ x. not (is_inside p x)) (not (is_inside p q)) (λ k h. ap (λ x. not (is_inside p x)) (sym (same_path q k h))) marks

-- ---- whether anything is enabled

-- the first number of the first row
some_on : (rows : List Row) → All IsRow rows → rows ≢ [] → (p : Path) × (n : ℕ) × (list_any (nat_eq n) (numbers_at rows p) ≡ true)
some_on [] h some = absurd (some refl)
some_on (r ∷ rows) h some = by r.numbers refl (All-head IsRow r rows h).some
  where
    by : (ns : List ℕ) → r.numbers ≡ ns → 0 < length r.numbers → (p : Path) × (n : ℕ) × (list_any (nat_eq n) (numbers_at (r ∷ rows) p) ≡ true)
    by [] e long = let none = ap length e in absurd (omega arith)
    by (n ∷ ns) e long =
        let found = filter (λ q. bytes_eq r.path q.path) rows in
        let same : nat_eq n n ≡ true = grind (arith, nat_tests) in (
          r.path,
          n,
          ap (λ b. list_any (nat_eq n) (flat_map (λ (q : Row). q.numbers) (cond b (r ∷ found) found))) (same_itself r.path)
              ∙ ap (λ ms. list_any (nat_eq n) (ms ++ flat_map (λ (q : Row). q.numbers) found)) e
              ∙ ap (λ b. b || list_any (nat_eq n) (ns ++ flat_map (λ (q : Row). q.numbers) found)) same,
        )

-- something is enabled unless there is no row
pub enabled : (t : Table) (b : Bool) → IsTable t → (IsTrue b ↔ (t.rows ≡ [])) → MatchBool b ((p : Path) (n : ℕ) → is_on t p n ≡ false) ((p : Path) × (n : ℕ) × (is_on t p n ≡ true))
enabled t true h e = λ p n. ap (λ rows. list_any (nat_eq n) (numbers_at rows p)) (e.0 refl)
enabled t false h e = some_on t.rows h.each_row (λ none. let yes = e.1 none in absurd (cc))
