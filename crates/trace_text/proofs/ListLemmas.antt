-- How a list is read item after item, with a byte between each two and one behind the last.
use Rattle.std.proofs.Common.{◌≡◌, ℕ, ◌≤◌, Bool, true, false, List, [], ◌∷◌, ◌++◌, drop, ap, subst, ◌∙◌, sym, refl, arith, append_assoc, append-nil, length-append, Err, flat_map}
use Rattle.std.specs.List.{AllByRecursion}
use Rattle.std.proofs.lemmas.Bool.{false≢true}
use Rattle.std.proofs.lemmas.Grind.{flat_map-append}
use Rattle.pascal_values.proofs.ListingLemmas.{all_push}
use Rattle.trace_text.specs.declared.error.Missing.{Missing}
use Rattle.trace_text.specs.declared.error.Missing.TheVariants.{Absent, Memory}
use Rattle.trace_text.specs.Fields.{Any, Stands, IsReading, marked, listed, IsItem, AreItems}
use Rattle.trace_text.proofs.FieldLemmas.{Unique}

module _ {X : Type 0} (f : X → List ℕ) (F : X → Type 0) (between close : ℕ) where
  -- the items that were read, each with its byte behind it
  abbrev pub lead : List X → List ℕ
  lead xs = flat_map (λ x. f x ++ between ∷ []) xs

  -- the list from an item on
  abbrev pub rest_of : X → List X → List ℕ → List ℕ
  rest_of x [] t = marked f between close (x, true) ++ t
  rest_of x (y ∷ ys) t = marked f between close (x, false) ++ rest_of y ys t

  pub listed_rest : (x : X) (xs : List X) (t : List ℕ) → listed f between close (x ∷ xs) ++ t ≡ rest_of x xs t
  listed_rest x [] t = refl
  listed_rest x (y ∷ ys) t =
      append_assoc (f x) (between ∷ ((f y ++ flat_map (λ z. between ∷ f z) ys) ++ close ∷ [])) t
      ∙ (ap (λ u. f x ++ between ∷ u) (ap (λ u. u ++ t) (append_assoc (f y) (flat_map (λ z. between ∷ f z) ys) (close ∷ [])) ∙ listed_rest y ys t)
      ∙ sym (append_assoc (f x) (between ∷ []) (rest_of y ys t)))

  pub record Item (s : List ℕ) : Type 0 where
    pub item : X × Bool
    pub behind : List ℕ
    pub form : F item.0
    pub stands : s ≡ marked f between close item ++ behind

  first_item : (x : X) (xs : List X) (s t : List ℕ) → F x → s ≡ rest_of x xs t → Item s
  first_item x [] s t form e = record { item = (x, true); behind = t; form = form; stands = e }
  first_item x (y ∷ ys) s t form e = record { item = (x, false); behind = rest_of y ys t; form = form; stands = e }

  module _ (one : Unique (marked f between close) (IsItem F) Any) where
    not_last : (x y : X) (s t : List ℕ) → F x → F y → marked f between close (x, false) ++ s ≡ marked f between close (y, true) ++ t → ⊥
    not_last x y s t here there e = false≢true (ap (λ p. p.1) (one (x, false) (y, true) s t here there tt tt e).0)

    -- behind the items that were read stands an item of any list that begins with them
    pub items_left : (xs : List X) (y : X) (ys : List X) (s t : List ℕ) → AllByRecursion F xs → AllByRecursion F (y ∷ ys) → lead xs ++ s ≡ rest_of y ys t → Item s
    items_left [] y ys s t here there e = first_item y ys s t there.0 e
    items_left (x ∷ xs) y [] s t here there e = absurd (not_last x y (lead xs ++ s) t here.0 there.0 (sym (append_assoc (f x ++ between ∷ []) (lead xs) s) ∙ e))
    items_left (x ∷ xs) y (z ∷ zs) s t here there e =
        let o = one (x, false) (y, false) (lead xs ++ s) (rest_of z zs t) here.0 there.0 tt tt (sym (append_assoc (f x ++ between ∷ []) (lead xs) s) ∙ e) in
        items_left xs z zs s t here.1 there.1 o.1

    rest_apart : (x : X) (xs : List X) (y : X) (ys : List X) (s t : List ℕ) → AllByRecursion F (x ∷ xs) → AllByRecursion F (y ∷ ys) → rest_of x xs s ≡ rest_of y ys t → (◌≡◌ {A = List X} (x ∷ xs) (y ∷ ys)) × (s ≡ t)
    rest_apart x [] y [] s t here there e =
        let o = one (x, true) (y, true) s t here.0 there.0 tt tt e in
        (ap (λ p. p.0 ∷ []) o.0, o.1)
    rest_apart x [] y (z ∷ zs) s t here there e = absurd (not_last y x (rest_of z zs t) s there.0 here.0 (sym e))
    rest_apart x (w ∷ ws) y [] s t here there e = absurd (not_last x y (rest_of w ws s) t here.0 there.0 e)
    rest_apart x (w ∷ ws) y (z ∷ zs) s t here there e =
        let o = one (x, false) (y, false) (rest_of w ws s) (rest_of z zs t) here.0 there.0 tt tt e in
        let r = rest_apart w ws z zs s t here.1 there.1 o.1 in
        let first : ◌≡◌ {A = List X} (x ∷ (w ∷ ws)) (y ∷ (w ∷ ws)) = ap (λ p. p.0 ∷ (w ∷ ws)) o.0 in
        let second : ◌≡◌ {A = List X} (y ∷ (w ∷ ws)) (y ∷ (z ∷ zs)) = ap (λ ps. y ∷ ps) r.0 in
        (first ∙ second, r.1)

    pub lists_unique : Unique (listed f between close) (AreItems F) Any
    lists_unique [] ys s t here there ends stop e = absurd (omega (arith, here.0))
    lists_unique (x ∷ xs) [] s t here there ends stop e = absurd (omega (arith, there.0))
    lists_unique (x ∷ xs) (y ∷ ys) s t here there ends stop e = rest_apart x xs y ys s t here.1 there.1 (sym (listed_rest x xs s) ∙ (e ∙ listed_rest y ys t))

  -- ---- reading

  -- what a loop that reads item after item keeps
  pub record IsRead (bytes : List ℕ) (at_ : ℕ) (xs : List X) (place : ℕ) : Type 0 where
    pub form : AllByRecursion F xs
    pub goes : at_ ≤ place
    pub is : drop at_ bytes ≡ lead xs ++ drop place bytes

  pub read_none : (bytes : List ℕ) (at_ : ℕ) (xs : List X) → xs ≡ [] → IsRead bytes at_ xs at_
  read_none bytes at_ xs e = subst (λ zs. IsRead bytes at_ zs at_) (sym e) (record { form = tt; goes = omega arith; is = refl })

  lead_push : (xs : List X) (x : X) (t : List ℕ) → lead xs ++ (marked f between close (x, false) ++ t) ≡ lead (xs ++ x ∷ []) ++ t
  lead_push xs x t = sym (append_assoc (lead xs) (f x ++ between ∷ []) t) ∙ ap (λ u. u ++ t) (sym (flat_map-append (λ w. f w ++ between ∷ []) xs (x ∷ []) ∙ ap (λ u. lead xs ++ u) (append-nil (f x ++ between ∷ []))))

  lead_close : (xs : List X) (x : X) (t : List ℕ) → lead xs ++ (marked f between close (x, true) ++ t) ≡ listed f between close (xs ++ x ∷ []) ++ t
  lead_close [] x t = refl
  lead_close (y ∷ []) x t =
      append_assoc (f y ++ between ∷ []) [] (marked f between close (x, true) ++ t) ∙ sym (listed_rest y (x ∷ []) t)
  lead_close (y ∷ (z ∷ zs)) x t =
      append_assoc (f y ++ between ∷ []) (lead (z ∷ zs)) (marked f between close (x, true) ++ t)
      ∙ (ap (λ u. (f y ++ between ∷ []) ++ u) (lead_close (z ∷ zs) x t ∙ listed_rest z (zs ++ x ∷ []) t) ∙ sym (listed_rest y (z ∷ (zs ++ x ∷ [])) t))

  module _ (bytes : List ℕ) (at_ : ℕ) (xs : List X) (place : ℕ) (read : IsRead bytes at_ xs place) where
    pub read_more : (x : X) (last : Bool) (next : ℕ) (new : List X) → Stands (marked f between close) (IsItem F) Any bytes place (x, last) next → last ≡ false → new ≡ xs ++ x ∷ [] → IsRead bytes at_ new next
    read_more x last next new here more e = subst (λ zs. IsRead bytes at_ zs next) (sym e) (record {
      form = all_push F xs x read.form here.form;
      goes = omega (arith, read.goes, here.goes);
      is = read.is ∙ (ap (λ t. lead xs ++ t) (here.is ∙ ap (λ b. marked f between close (x, b) ++ drop next bytes) more) ∙ lead_push xs x (drop next bytes));
    })

    pub read_last : (x : X) (last : Bool) (next : ℕ) (new : List X) → Stands (marked f between close) (IsItem F) Any bytes place (x, last) next → last ≡ true → new ≡ xs ++ x ∷ [] → Stands (listed f between close) (AreItems F) Any bytes at_ new next
    read_last x last next new here ends e = subst (λ zs. Stands (listed f between close) (AreItems F) Any bytes at_ zs next) (sym e) (record {
      form = (omega (arith, length-append xs (x ∷ [])), all_push F xs x read.form here.form);
      goes = omega (arith, read.goes, here.goes);
      within = here.within;
      is = read.is ∙ (ap (λ t. lead xs ++ t) (here.is ∙ ap (λ b. marked f between close (x, b) ++ drop next bytes) ends) ∙ lead_close xs x (drop next bytes));
      ends = tt;
    })

    pub read_fails : Unique (marked f between close) (IsItem F) Any → (e : Missing) → IsReading (marked f between close) (IsItem F) Any bytes place (Err e) → IsReading (listed f between close) (AreItems F) Any bytes at_ (Err e)
    read_fails one Memory lacks = tt
    read_fails one Absent lacks = none
      where
        none : (ys : List X) (t : List ℕ) → AreItems F ys → Any t → drop at_ bytes ≡ listed f between close ys ++ t → ⊥
        none [] t form stop e = omega (arith, form.0)
        none (y ∷ ys) t form stop e =
            let i = items_left one xs y ys (drop place bytes) t read.form form.1 (sym read.is ∙ (e ∙ listed_rest y ys t)) in
            lacks i.item i.behind i.form tt i.stands
