-- What changes of a table keep, and what is found in it.
use Rattle.std.proofs.Common.{◌≡◌, ◌<◌, ◌≤◌, ◌+◌, ℕ, zero, suc, Bool, true, false, List, [], ◌∷◌, ◌++◌, length, get_or, take, drop, filter, Some, refl, sym, ap, subst, cond, ◌∙◌, arith, append-nil, length-append, nat_le, nat_eq}
use Rattle.std.specs.Prelude.{slice_get, slice_set, IsTrue, ◌↔◌, MatchResult, OnOk, OnErr, Result, Ok, Err}
use Rattle.std.specs.List.{All, list_any, flat_map}
use Rattle.std.specs.List.Sorted.{IsStrictlySortedBy, IsBinarySearchResult, IsSearchInRange}
use Rattle.std.specs.Ordering.{is_lt, is_le, nat_cmp}
use Rattle.std.specs.Result.{is_ok}
use Rattle.std.specs.Str.{bytes_eq}
use Rattle.std.specs.declared.alloc.AllocError.{AllocError}
use Rattle.std.specs.declared.cmp.Ordering.{Ordering}
use Rattle.std.specs.declared.cmp.Ordering.TheVariants.{Less, Equal, Greater}
use Rattle.std.proofs.lemmas.Bool.Decides.{nat_tests}
use Rattle.std.proofs.lemmas.List.{take-append-drop}
use Rattle.std.proofs.lemmas.List.Elements.{All-from_recursion, recursion_from_All, All-append, All-cons, All-nil, All-head, All-tail, All-weaker, All-filter, All-get_or, filter-append, filter_passes}
use Rattle.std.proofs.lemmas.List.Folds.{list_any_at}
use Rattle.std.proofs.lemmas.List.Kept.{IsStrictlySortedBy-filter}
use Rattle.std.proofs.lemmas.List.Sorted.{searched}
use Rattle.std.proofs.lemmas.Option.{slice_get-get_or}
use Rattle.std.proofs.lemmas.Map.Keys.{non_decreasing_from_sorted, any_passes_from_place}
use Rattle.estelle_tree.specs.Paths.{Path, path_cmp}
use Rattle.offer_table.specs.declared.rows.Row.{Row}
use Rattle.offer_table.specs.Order.{InOrder, before, after}
use Rattle.offer_table.specs.Searches.{StandsAt, IsGap, HasRowAt}
use Rattle.offer_table.specs.Tables.{Table, table_of, spare, row_path, mark_path, Rise, IsRow, IsTable, numbers_at, row_of, with_row, with_mark}
use Rattle.offer_table.proofs.PathLaws.{turned, is_less, less_le, le_itself, same_itself, differs_after, differs_before}

module _ {T : Type 0} where
  same_some : (x y : T) → Some x ≡ Some y → x ≡ y
  same_some x y e = cc

  -- a list round one of its items
  pub round : (xs : List T) (i : ℕ) (x : T) → slice_get xs i ≡ Some x → take i xs ++ x ∷ drop (i + 1) xs ≡ xs
  round [] i x e = absurd (cc)
  round (y ∷ xs) zero x e = ap (λ z. z ∷ xs) (sym (same_some y x e))
  round (y ∷ xs) (suc i) x e =
      ap (λ n. y ∷ (take i xs ++ x ∷ drop n (y ∷ xs))) {x = suc i + 1} {y = suc (i + 1)} (omega arith) ∙ ap (λ zs. y ∷ zs) (round xs i x e)

  set_round : (xs : List T) (i : ℕ) (x : T) → i < length xs → slice_set xs i x ≡ take i xs ++ x ∷ drop (i + 1) xs
  set_round [] i x l = absurd (omega arith)
  set_round (y ∷ xs) zero x l = refl
  set_round (y ∷ xs) (suc i) x l =
      ap (λ zs. y ∷ zs) (set_round xs i x (omega arith)) ∙ ap (λ n. y ∷ (take i xs ++ x ∷ drop n (y ∷ xs))) {x = suc (i + 1)} {y = suc i + 1} (omega arith)

  pub on_ok : {E : Type 0} {P Q : Type 0} (r : Result T E) → OnOk r P → (P → Q) → OnOk r Q
  on_ok (Ok x) p f = f p
  on_ok (Err e) p f = tt

  none_pass : (P : T → Bool) (xs : List T) → All (λ x. P x ≡ false) xs → filter P xs ≡ []
  none_pass P [] h = refl
  none_pass P (x ∷ xs) h = ap (λ b. cond b (x ∷ filter P xs) (filter P xs)) (All-head (λ x. P x ≡ false) x xs h) ∙ none_pass P xs (All-tail (λ x. P x ≡ false) x xs h)

  none_any : (P : T → Bool) (xs : List T) → All (λ x. P x ≡ false) xs → list_any P xs ≡ false
  none_any P [] h = refl
  none_any P (x ∷ xs) h = let here = All-head (λ x. P x ≡ false) x xs h in rw here (none_any P xs (All-tail (λ x. P x ≡ false) x xs h))

module _ {T : Type 0} (place : T → Path) where
  pub before_all : (xs : List T) (p : Path) → All (λ x. path_cmp (place x) p ≡ Less) (before place p xs)
  before_all xs p = All-weaker (λ x. is_lt (path_cmp (place x) p) ≡ true) (λ x. path_cmp (place x) p ≡ Less) (λ x e. is_less _ e) (before place p xs) (filter_passes (λ x. is_lt (path_cmp (place x) p)) xs)

  pub after_all : (xs : List T) (p : Path) → All (λ x. path_cmp p (place x) ≡ Less) (after place p xs)
  after_all xs p = All-weaker (λ x. is_lt (path_cmp p (place x)) ≡ true) (λ x. path_cmp p (place x) ≡ Less) (λ x e. is_less _ e) (after place p xs) (filter_passes (λ x. is_lt (path_cmp p (place x))) xs)

  -- ---- order

  -- one list behind another, where a path is after the first and not after the second
  joined : (xs ys : List T) (p : Path) → InOrder place xs → InOrder place ys → All (λ x. path_cmp (place x) p ≡ Less) xs → All (λ y. is_le (path_cmp p (place y)) ≡ true) ys → InOrder place (xs ++ ys)
  unfolding IsStrictlySortedBy
  joined [] ys p s t h k = t
  joined (x ∷ xs) ys p s t h k =
      let less = All-head (λ x. path_cmp (place x) p ≡ Less) x xs h in (
        recursion_from_All (λ y. path_cmp (place x) (place y) ≡ Less) (xs ++ ys) (All-append (λ y. path_cmp (place x) (place y) ≡ Less) xs ys
            (All-from_recursion (λ y. path_cmp (place x) (place y) ≡ Less) xs s.0)
            (All-weaker (λ y. is_le (path_cmp p (place y)) ≡ true) (λ y. path_cmp (place x) (place y) ≡ Less) (λ y e. less_le (place x) p (place y) less e) ys k)),
        joined xs ys p s.1 t (All-tail (λ x. path_cmp (place x) p ≡ Less) x xs h) k,
      )

  kept : (P : T → Bool) (xs : List T) → InOrder place xs → InOrder place (filter P xs)
  kept P xs = IsStrictlySortedBy-filter (λ x y. path_cmp (place x) (place y)) P xs

  not_after : (xs : List T) (p : Path) → All (λ y. is_le (path_cmp p (place y)) ≡ true) (after place p xs)
  not_after xs p = All-weaker (λ y. path_cmp p (place y) ≡ Less) (λ y. is_le (path_cmp p (place y)) ≡ true) (λ y e. ap is_le e) (after place p xs) (after_all xs p)

  without_in_order : (xs : List T) (p : Path) → InOrder place xs → InOrder place (before place p xs ++ after place p xs)
  without_in_order xs p s = joined (before place p xs) (after place p xs) p (kept _ xs s) (kept _ xs s) (before_all xs p) (not_after xs p)

  with_in_order : (xs : List T) (p : Path) (x : T) → place x ≡ p → InOrder place xs → InOrder place (before place p xs ++ x ∷ after place p xs)
  unfolding IsStrictlySortedBy
  with_in_order xs p x is s =
      joined (before place p xs) (x ∷ after place p xs) p (kept _ xs s)
      (recursion_from_All (λ y. path_cmp (place x) (place y) ≡ Less) (after place p xs) (subst (λ q. All (λ y. path_cmp q (place y) ≡ Less) (after place p xs)) (sym is) (after_all xs p)), kept (λ y. is_lt (path_cmp p (place y))) xs s)
      (before_all xs p)
      (All-cons (λ y. is_le (path_cmp p (place y)) ≡ true) x (after place p xs) (le_itself p (place x) is) (not_after xs p))

  -- ---- what is found

  differs_in_before : (xs : List T) (p : Path) → All (λ x. bytes_eq p (place x) ≡ false) (before place p xs)
  differs_in_before xs p = All-weaker (λ x. path_cmp (place x) p ≡ Less) (λ x. bytes_eq p (place x) ≡ false) (λ x e. differs_before p (place x) e) (before place p xs) (before_all xs p)

  differs_in_after : (xs : List T) (p : Path) → All (λ x. bytes_eq p (place x) ≡ false) (after place p xs)
  differs_in_after xs p = All-weaker (λ x. path_cmp p (place x) ≡ Less) (λ x. bytes_eq p (place x) ≡ false) (λ x e. differs_after p (place x) e) (after place p xs) (after_all xs p)

  pub round_gap : (xs : List T) (p : Path) (i : ℕ) → IsGap place p xs i → before place p xs ++ after place p xs ≡ xs
  round_gap xs p i h = (λ j. sym h.front j ++ sym h.back j) ∙ take-append-drop i xs

  pub round_own : (xs : List T) (p : Path) (i : ℕ) (x : T) → StandsAt place p xs i → slice_get xs i ≡ Some x → before place p xs ++ x ∷ after place p xs ≡ xs
  round_own xs p i x h e = (λ j. sym h.front j ++ x ∷ sym h.back j) ∙ round xs i x e

  pub none_at_gap : (xs : List T) (p : Path) (i : ℕ) → IsGap place p xs i → All (λ x. bytes_eq p (place x) ≡ false) xs
  none_at_gap xs p i h = subst (All (λ x. bytes_eq p (place x) ≡ false)) (round_gap xs p i h) (All-append (λ x. bytes_eq p (place x) ≡ false) (before place p xs) (after place p xs) (differs_in_before xs p) (differs_in_after xs p))

  -- between what is before and what is after, only what stands there is found
  pub found_between : (xs : List T) (p : Path) (ys : List T) → filter (λ x. bytes_eq p (place x)) (before place p xs ++ (ys ++ after place p xs)) ≡ filter (λ x. bytes_eq p (place x)) ys
  found_between xs p ys =
      filter-append (λ x. bytes_eq p (place x)) (before place p xs) (ys ++ after place p xs)
      ∙ ap (λ zs. zs ++ filter (λ x. bytes_eq p (place x)) (ys ++ after place p xs)) (none_pass (λ x. bytes_eq p (place x)) (before place p xs) (differs_in_before xs p))
      ∙ filter-append (λ x. bytes_eq p (place x)) ys (after place p xs)
      ∙ ap (λ zs. filter (λ x. bytes_eq p (place x)) ys ++ zs) (none_pass (λ x. bytes_eq p (place x)) (after place p xs) (differs_in_after xs p))
      ∙ append-nil (filter (λ x. bytes_eq p (place x)) ys)

  is_own : (p : Path) (x : T) → place x ≡ p → bytes_eq p (place x) ≡ true
  is_own p x is = ap (bytes_eq p) is ∙ same_itself p

  pub only_own : (xs : List T) (p : Path) (i : ℕ) (x : T) → StandsAt place p xs i → slice_get xs i ≡ Some x → place x ≡ p → filter (λ x. bytes_eq p (place x)) xs ≡ x ∷ []
  only_own xs p i x h e is =
      ap (filter (λ x. bytes_eq p (place x))) (sym (round_own xs p i x h e)) ∙ found_between xs p (x ∷ []) ∙ ap (λ b. cond b (x ∷ []) []) (is_own p x is)

-- no rows and no marks
pub empty_table : (rs : List Row) (ms : List Path) (room : ℕ) → rs ≡ [] → ms ≡ [] → IsTable (table_of rs ms room)
unfolding IsStrictlySortedBy
empty_table rs ms room e f = record { rows = subst (InOrder row_path) (sym e) tt; each_row = subst (All IsRow) (sym e) (All-nil IsRow); marks = subst (InOrder mark_path) (sym f) tt }

-- ---- marks

pub is_there : (marks : List Path) (p : Path) (r : Result ℕ ℕ) → MatchResult r (StandsAt mark_path p marks) (IsGap mark_path p marks) → is_ok r ≡ list_any (bytes_eq p) marks
is_there marks p (Ok i) h = sym (any_passes_from_place (bytes_eq p) marks i h.own.0 h.own.1 (is_own mark_path p h.own.0 h.own.2))
is_there marks p (Err i) h = sym (none_any (bytes_eq p) marks (none_at_gap mark_path marks p i h))

pub in_range : {T : Type 0} (place : T → Path) (xs : List T) (p : Path) (r : Result ℕ ℕ) → MatchResult r (StandsAt place p xs) (IsGap place p xs) → IsSearchInRange r (length xs)
in_range place xs p (Ok i) h = h.within
in_range place xs p (Err i) h = h.within

-- a mark where a search found none
pub marked : (marks : List Path) (p : Path) (r : Result ℕ ℕ) (ms : List Path) → MatchResult r (StandsAt mark_path p marks) (IsGap mark_path p marks) → MatchResult r (λ _. ms ≡ marks) (λ i. ms ≡ take i marks ++ p ∷ drop i marks) → ms ≡ with_mark p marks
marked marks p (Ok i) ms h e = e ∙ sym (ap (λ q. before mark_path p marks ++ q ∷ after mark_path p marks) (sym h.own.2) ∙ round_own mark_path marks p i h.own.0 h h.own.1)
marked marks p (Err i) ms h e = e ∙ (λ j. h.front j ++ p ∷ h.back j)

pub marked_table : (t : Table) (p : Path) (room : ℕ) (ms : List Path) → IsTable t → ms ≡ with_mark p t.marks → IsTable (table_of t.rows ms room)
marked_table t p room ms h e = record { rows = h.rows; each_row = h.each_row; marks = subst (InOrder mark_path) (sym e) (with_in_order mark_path t.marks p p refl h.marks) }

-- one mark more at most
length_marked : (p : Path) (marks : List Path) → length (with_mark p marks) ≤ length marks + 1
length_marked p marks =
    let all = length-append (before mark_path p marks) (p ∷ after mark_path p marks) in
    let few = fits marks in
    omega arith
  where
    fits : (ms : List Path) → length (before mark_path p ms) + length (after mark_path p ms) ≤ length ms
    fits [] = omega arith
    fits (m ∷ ms) = by (path_cmp m p) refl (fits ms)
      where
        in_front : (b : Bool) → is_lt (path_cmp m p) ≡ b → before mark_path p (m ∷ ms) ≡ cond b (m ∷ before mark_path p ms) (before mark_path p ms)
        in_front b e = ap (λ b. cond b (m ∷ before mark_path p ms) (before mark_path p ms)) e

        behind : (b : Bool) → is_lt (path_cmp p m) ≡ b → after mark_path p (m ∷ ms) ≡ cond b (m ∷ after mark_path p ms) (after mark_path p ms)
        behind b e = ap (λ b. cond b (m ∷ after mark_path p ms) (after mark_path p ms)) e

        by : (o : Ordering) → path_cmp m p ≡ o → length (before mark_path p ms) + length (after mark_path p ms) ≤ length ms → length (before mark_path p (m ∷ ms)) + length (after mark_path p (m ∷ ms)) ≤ length (m ∷ ms)
        by Less e few = let a = ap length (in_front true (ap is_lt e)) in let b = ap length (behind false (ap is_lt (turned m p Less e))) in omega arith
        by Equal e few = let a = ap length (in_front false (ap is_lt e)) in let b = ap length (behind false (ap is_lt (turned m p Equal e))) in omega arith
        by Greater e few = let a = ap length (in_front false (ap is_lt e)) in let b = ap length (behind true (ap is_lt (turned m p Greater e))) in omega arith

pub spare_marked : (p : Path) (rows : List Row) (marks ms : List Path) (room more : ℕ) → ms ≡ with_mark p marks → more ≡ room → spare (table_of rows marks room) ≤ spare (table_of rows ms more) + 1
spare_marked p rows marks ms room more e same = let l = length_marked p marks in let m = ap length e in omega arith

-- ---- rows

row_table : (t : Table) (p : Path) (ns : List ℕ) (rs : List Row) → IsTable t → Rise ns → rs ≡ with_row p ns t.rows → IsTable (table_of rs t.marks t.room)
row_table t p [] rs h up e =
    record {
      rows = subst (InOrder row_path) (sym e) (without_in_order row_path t.rows p h.rows);
      each_row = subst (All IsRow) (sym e) (All-append IsRow (before row_path p t.rows) (after row_path p t.rows) (All-filter _ IsRow t.rows h.each_row) (All-filter _ IsRow t.rows h.each_row));
      marks = h.marks;
    }
row_table t p (n ∷ ns) rs h up e =
    let row : Row = record { path = p; numbers = n ∷ ns } in
    record {
      rows = subst (InOrder row_path) (sym e) (with_in_order row_path t.rows p row refl h.rows);
      each_row = subst (All IsRow) (sym e) (All-append IsRow (before row_path p t.rows) (row ∷ after row_path p t.rows) (All-filter _ IsRow t.rows h.each_row) (All-cons IsRow row (after row_path p t.rows) (record { some = omega arith; rise = up }) (All-filter _ IsRow t.rows h.each_row)));
      marks = h.marks;
    }

-- a row with other numbers, if there are any
pub changed_row : (rows : List Row) (i : ℕ) (ns : List ℕ) (q : Row) (b : Bool) → i < length rows → q ≡ get_or rows i q → (IsTrue b ↔ (ns ≡ [])) → b ≡ false → (r : Row) → slice_get rows i ≡ Some r
    → slice_set rows i (record { path = q.path; numbers = ns }) ≡ take i rows ++ (row_of r.path ns ++ drop (i + 1) rows)
changed_row rows i [] q b l is none e r at = let yes = none.1 refl in absurd (cc)
changed_row rows i (n ∷ ns) q b l is none e r at =
    set_round rows i (record { path = q.path; numbers = n ∷ ns }) l
    ∙ ap (λ (s : Row). take i rows ++ (row_of s.path (n ∷ ns) ++ drop (i + 1) rows)) (is ∙ sym (same_some r (get_or rows i q) (sym at ∙ slice_get-get_or rows i q l)))

-- a row where a search found one, or none
pub installed : (rows : List Row) (p : Path) (ns : List ℕ) (r : Result ℕ ℕ) (rs : List Row) → MatchResult r (StandsAt row_path p rows) (IsGap row_path p rows) → HasRowAt r p ns rows rs → rs ≡ with_row p ns rows
installed rows p ns (Ok i) rs h e = e h.own.0 h.own.1 ∙ (λ j. h.front j ++ (row_of (h.own.2 j) ns ++ h.back j))
installed rows p ns (Err i) rs h e = e ∙ (λ j. h.front j ++ (row_of p ns ++ h.back j))

-- a call that puts it there may fail
pub may_install : (rows : List Row) (p : Path) (ns : List ℕ) (r : Result ℕ ℕ) (rs : List Row) (o : Result (Unit {0}) AllocError) → MatchResult r (StandsAt row_path p rows) (IsGap row_path p rows) → OnOk o (HasRowAt r p ns rows rs) → OnOk o (rs ≡ with_row p ns rows)
may_install rows p ns r rs (Ok u) h e = installed rows p ns r rs h e
may_install rows p ns r rs (Err x) h e = tt

pub installed_table : (t : Table) (p : Path) (ns : List ℕ) (rs : List Row) (o : Result (Unit {0}) AllocError) → IsTable t → Rise ns → OnOk o (rs ≡ with_row p ns t.rows) → OnErr o (rs ≡ t.rows) → IsTable (table_of rs t.marks t.room)
installed_table t p ns rs (Ok u) h up ok err = row_table t p ns rs h up ok
installed_table t p ns rs (Err e) h up ok err = subst (λ xs. IsTable (table_of xs t.marks t.room)) (sym err) h

-- ---- what is removed

pub unmarked : (t : Table) (P : Path → Bool) (room : ℕ) (ms : List Path) → IsTable t → ms ≡ filter P t.marks → IsTable (table_of t.rows ms room)
unmarked t P room ms h e = record { rows = h.rows; each_row = h.each_row; marks = subst (InOrder mark_path) (sym e) (kept mark_path P t.marks h.marks) }

pub forgotten : (t : Table) (P : Row → Bool) (Q : Path → Bool) (room : ℕ) (rs : List Row) (ms : List Path) → IsTable t → rs ≡ filter P t.rows → ms ≡ filter Q t.marks → IsTable (table_of rs ms room)
forgotten t P Q room rs ms h e f =
    record {
      rows = subst (InOrder row_path) (sym e) (kept row_path P t.rows h.rows);
      each_row = subst (All IsRow) (sym e) (All-filter P IsRow t.rows h.each_row);
      marks = subst (InOrder mark_path) (sym f) (kept mark_path Q t.marks h.marks);
    }

-- ---- numbers

absent : (n : ℕ) (ns : List ℕ) → ((k : ℕ) → k < length ns → nat_eq n (get_or ns k 0) ≡ false) → list_any (nat_eq n) ns ≡ false
absent n [] none = refl
absent n (m ∷ ns) none = let here : nat_eq n m ≡ false = none 0 (omega arith) in rw here (absent n ns (λ k lt. none (suc k) (omega arith)))

found_number : (ns : List ℕ) (n : ℕ) (r : Result ℕ ℕ) → Rise ns → IsBinarySearchResult (λ y. nat_cmp y n) ns r → is_ok r ≡ list_any (nat_eq n) ns
found_number ns n (Ok i) up s =
    let at = searched ns n (Ok i) s (λ i j le lt. non_decreasing_from_sorted ns up i j 0 le lt) in
    sym (list_any_at (nat_eq n) ns i 0 at.0 (rw at.1 (grind (arith, nat_tests))))
found_number ns n (Err i) up s =
    let at = searched ns n (Err i) s (λ i j le lt. non_decreasing_from_sorted ns up i j 0 le lt) in
    sym (absent n ns (λ k lt. elim (nat_le i k) as (λ b. nat_le i k ≡ b → nat_eq n (get_or ns k 0) ≡ false) [
      | true ↦ λ e. let le : i ≤ k = grind (arith, nat_tests) in let above = at.2 k le lt in grind (arith, nat_tests)
      | false ↦ λ e. let less : k < i = grind (arith, nat_tests) in let below = at.1 k less in grind (arith, nat_tests)
    ] refl))

-- the numbers in a row are what is enabled
pub found_on : (t : Table) (p : Path) (i n : ℕ) (r : Row) (s : Result ℕ ℕ) → IsTable t → StandsAt row_path p t.rows i → r ≡ get_or t.rows i r → IsBinarySearchResult (λ y. nat_cmp y n) r.numbers s → is_ok s ≡ list_any (nat_eq n) (numbers_at t.rows p)
found_on t p i n r s h at is answers =
    found_number r.numbers n s (subst IsRow (sym is) (All-get_or IsRow t.rows i r at.within h.each_row)).rise answers
    ∙ ap (list_any (nat_eq n)) (sym (ap (flat_map (λ r. r.numbers)) (only_own row_path t.rows p i at.own.0 at at.own.1 at.own.2) ∙ append-nil at.own.0.numbers ∙ ap (λ r. r.numbers) own))
  where
    own : at.own.0 ≡ r
    own = same_some at.own.0 (get_or t.rows i r) (sym at.own.1 ∙ slice_get-get_or t.rows i r at.within) ∙ sym is

pub none_on : (rows : List Row) (p : Path) (i n : ℕ) → IsGap row_path p rows i → false ≡ list_any (nat_eq n) (numbers_at rows p)
none_on rows p i n h = sym (ap (λ rs. list_any (nat_eq n) (flat_map (λ r. r.numbers) rs)) (none_pass (λ r. bytes_eq p r.path) rows (none_at_gap row_path rows p i h)))
