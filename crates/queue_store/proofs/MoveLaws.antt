-- Items go from one row to another, or to the end of their own: what so many steps make of two rows.
use Rattle.std.proofs.Common.{◌≡◌, ◌≢◌, subst, ℕ, zero, suc, ◌+◌, ◌-◌, ◌<◌, ◌≤◌, Bool, true, false, cond, List, [], ◌∷◌, ◌++◌, length, Option, Some, None, is_some, refl, sym, ap, ◌∙◌, arith, slice_get, drop, append_assoc}
use Rattle.std.specs.Prelude.{nat_eq, map as each, if◌then◌else◌, filter, not, option_and_then}
use Rattle.std.specs.Option.{option_map}
use Rattle.std.proofs.lemmas.Option.{same_Some}
use Rattle.std.proofs.lemmas.List.{append-nil}
use Rattle.queue_store.specs.Rows.{Row, on_row, with_items, put_last, first_taken, at_number, off_number, renumbered, sift_step, sift_rows, first_item, count_of}

module _ {T : Type 0} where
  pub on_row-twice : (i : ℕ) (f g : Row T → Row T) (ds : List (Row T)) → on_row i f (on_row i g ds) ≡ on_row i (λ d. f (g d)) ds
  on_row-twice i f g [] = refl
  on_row-twice zero f g (d ∷ ds) = refl
  on_row-twice (suc i) f g (d ∷ ds) = ap (λ l. d ∷ l) (on_row-twice i f g ds)

  pub on_row-swap : (i j : ℕ) (f g : Row T → Row T) (ds : List (Row T)) → (i ≡ j → ⊥) → on_row i f (on_row j g ds) ≡ on_row j g (on_row i f ds)
  on_row-swap i j f g [] ne = refl
  on_row-swap zero zero f g (d ∷ ds) ne = absurd (ne refl)
  on_row-swap zero (suc j) f g (d ∷ ds) ne = refl
  on_row-swap (suc i) zero f g (d ∷ ds) ne = refl
  on_row-swap (suc i) (suc j) f g (d ∷ ds) ne = ap (λ l. d ∷ l) (on_row-swap i j f g ds (λ e. ne (ap suc e)))

  pub length-on_row : (i : ℕ) (f : Row T → Row T) (ds : List (Row T)) → length (on_row i f ds) ≡ length ds
  length-on_row i f [] = refl
  length-on_row zero f (d ∷ ds) = refl
  length-on_row (suc i) f (d ∷ ds) = ap suc (length-on_row i f ds)

  pub get-on_row : (i : ℕ) (f : Row T → Row T) (ds : List (Row T)) → slice_get (on_row i f ds) i ≡ option_map f (slice_get ds i)
  get-on_row i f [] = refl
  get-on_row zero f (d ∷ ds) = refl
  get-on_row (suc i) f (d ∷ ds) = get-on_row i f ds

  pub get-other_row : (i j : ℕ) (f : Row T → Row T) (ds : List (Row T)) → (i ≡ j → ⊥) → slice_get (on_row i f ds) j ≡ slice_get ds j
  get-other_row i j f [] ne = refl
  get-other_row zero zero f (d ∷ ds) ne = absurd (ne refl)
  get-other_row zero (suc j) f (d ∷ ds) ne = refl
  get-other_row (suc i) zero f (d ∷ ds) ne = refl
  get-other_row (suc i) (suc j) f (d ∷ ds) ne = get-other_row i j f ds (λ e. ne (ap suc e))

  pub length-sift : (s t from to : ℕ) (o : Option (ℕ × T)) (ds : List (Row T)) → length (sift_step s t from to o (on_row s first_taken ds)) ≡ length ds
  length-sift s t from to None ds = length-on_row s first_taken ds
  length-sift s t from to (Some x) ds = by (nat_eq x.0 from)
    where
      by : (b : Bool) → length (if b then on_row t (put_last to x.1) (on_row s first_taken ds) else on_row s (put_last x.0 x.1) (on_row s first_taken ds)) ≡ length ds
      by true = length-on_row t (put_last to x.1) (on_row s first_taken ds) ∙ length-on_row s first_taken ds
      by false = length-on_row s (put_last x.0 x.1) (on_row s first_taken ds) ∙ length-on_row s first_taken ds

  pub length-sifted : (n s t from to : ℕ) (ds : List (Row T)) → length (sift_rows n s t from to ds) ≡ length ds
  length-sifted zero s t from to ds = refl
  length-sifted (suc n) s t from to ds =
      length-sifted n s t from to (sift_step s t from to (first_item s ds) (on_row s first_taken ds)) ∙ length-sift s t from to (first_item s ds) ds

  -- a row has its own items
  pub own-items : (i : ℕ) (d : Row T) (ds : List (Row T)) → slice_get ds i ≡ Some d → on_row i (with_items d.items) ds ≡ ds
  own-items i d [] g = refl
  own-items zero d (e ∷ ds) g = ap (λ x. with_items x.items e ∷ ds) (sym (same_Some e d g))
  own-items (suc i) d (e ∷ ds) g = ap (λ l. e ∷ l) (own-items i d ds g)

  module _ (s t from to : ℕ) (ne : s ≡ t → ⊥) (base : List (Row T)) (d : Row T) (there : slice_get base s ≡ Some d) where
    -- the two rows with these items
    abbrev pub set_rows : List (ℕ × T) → List (ℕ × T) → List (Row T)
    set_rows xs ys = on_row t (with_items ys) (on_row s (with_items xs) base)

    source-first : (x : ℕ × T) (xs ys : List (ℕ × T)) → option_and_then (λ e. slice_get e.items 0) (slice_get (set_rows (x ∷ xs) ys) s) ≡ Some x
    source-first x xs ys =
        ap (option_and_then (λ e. slice_get e.items 0))
        (get-other_row t s (with_items ys) (on_row s (with_items (x ∷ xs)) base) (λ e. ne (sym e)) ∙ get-on_row s (with_items (x ∷ xs)) base ∙ ap (option_map (with_items (x ∷ xs))) there)

    source-taken : (x : ℕ × T) (xs ys : List (ℕ × T)) → on_row s first_taken (set_rows (x ∷ xs) ys) ≡ set_rows xs ys
    source-taken x xs ys =
        on_row-swap s t first_taken (with_items ys) (on_row s (with_items (x ∷ xs)) base) ne
        ∙ ap (on_row t (with_items ys)) (on_row-twice s first_taken (with_items (x ∷ xs)) base)

    to-target : (m : ℕ) (x : T) (xs ys : List (ℕ × T)) → on_row t (put_last m x) (set_rows xs ys) ≡ set_rows xs (ys ++ (m, x) ∷ [])
    to-target m x xs ys = on_row-twice t (put_last m x) (with_items ys) (on_row s (with_items xs) base)

    to-source : (m : ℕ) (x : T) (xs ys : List (ℕ × T)) → on_row s (put_last m x) (set_rows xs ys) ≡ set_rows (xs ++ (m, x) ∷ []) ys
    to-source m x xs ys =
        on_row-swap s t (put_last m x) (with_items ys) (on_row s (with_items xs) base) ne
        ∙ ap (on_row t (with_items ys)) (on_row-twice s (put_last m x) (with_items xs) base)

    pub sifted : (xs zs ys : List (ℕ × T)) → sift_rows (length xs) s t from to (set_rows (xs ++ zs) ys) ≡ set_rows (zs ++ off_number from xs) (ys ++ renumbered to (at_number from xs))
    sifted [] zs ys = ap (λ l. set_rows l ys) (sym (append-nil zs)) ∙ ap (set_rows (zs ++ [])) (sym (append-nil ys))
    sifted (x ∷ xs) zs ys =
        ap (sift_rows (length xs) s t from to)
        (ap (λ o. sift_step s t from to o (on_row s first_taken (set_rows (x ∷ (xs ++ zs)) ys))) (source-first x (xs ++ zs) ys)
        ∙ ap (sift_step s t from to (Some x)) (source-taken x (xs ++ zs) ys))
        ∙ by (nat_eq x.0 from) (λ zs2 ys2. sifted xs zs2 ys2)
      where
        by : (b : Bool) → ((zs2 ys2 : List (ℕ × T)) → sift_rows (length xs) s t from to (set_rows (xs ++ zs2) ys2) ≡ set_rows (zs2 ++ off_number from xs) (ys2 ++ renumbered to (at_number from xs)))
            → sift_rows (length xs) s t from to (if b then on_row t (put_last to x.1) (set_rows (xs ++ zs) ys) else on_row s (put_last x.0 x.1) (set_rows (xs ++ zs) ys))
            ≡ set_rows (zs ++ cond (not b) (x ∷ off_number from xs) (off_number from xs)) (ys ++ renumbered to (cond b (x ∷ at_number from xs) (at_number from xs)))
        by true rest =
            ap (sift_rows (length xs) s t from to) (to-target to x.1 (xs ++ zs) ys)
            ∙ rest zs (ys ++ (to, x.1) ∷ [])
            ∙ ap (set_rows (zs ++ off_number from xs)) (append_assoc ys ((to, x.1) ∷ []) (renumbered to (at_number from xs)))
        by false rest =
            ap (sift_rows (length xs) s t from to) (to-source x.0 x.1 (xs ++ zs) ys ∙ ap (λ l. set_rows l ys) (append_assoc xs zs ((x.0, x.1) ∷ [])))
            ∙ rest (zs ++ (x.0, x.1) ∷ []) ys
            ∙ ap (λ l. set_rows l (ys ++ renumbered to (at_number from xs))) (append_assoc zs ((x.0, x.1) ∷ []) (off_number from xs))
