-- Lists: what holds of each element, how many pass a test, and paths that strictly rise.
use Rattle.std.proofs.Common.{◌≡◌, ℕ, zero, suc, Bool, true, false, List, [], ◌∷◌, map as each, filter, length, take, Some, refl, sym, ap, subst, cond, ◌∙◌, inl, inr}
use Rattle.std.specs.Prelude.{T, count_by, slice_get}
use Rattle.std.specs.List.{AllByRecursion}
use Rattle.std.specs.FinMap as map
use Rattle.std.specs.FinMap.{is_sorted}
use Rattle.std.specs.Ordering.{is_lt}
use Rattle.std.specs.declared.cmp.Ordering.{Ordering}
use Rattle.std.specs.declared.cmp.Ordering.TheVariants.{Less, Equal, Greater}
use Rattle.std.proofs.lemmas.Cmp.{tied_itself}
use Rattle.std.proofs.lemmas.List.Sums.{length-filter}
use Rattle.estelle_tree.specs.Paths.{Path, path_cmp}
use Rattle.estelle_model.specs.Core.{Instance}
use Rattle.estelle_model.specs.Situation.{Situation}
use Rattle.estelle_model.specs.Selection.{paths}
use Rattle.estelle_model.proofs.Maps.{total, left_of, right_of}
use Rattle.estelle_model_legality.proofs.Members.{Has, has_filter, filter_empty}

-- ---- what holds of each

module _ {A : Type 0} where
  pub all_at : (P : A → Type 0) (xs : List A) (x : A) → AllByRecursion P xs → Has xs x → P x
  all_at P [] x all h = absurd h
  all_at P (y ∷ ys) x all (inl is) = subst P is all.0
  all_at P (y ∷ ys) x all (inr h) = all_at P ys x all.1 h

  pub all_of : (P : A → Type 0) (xs : List A) → ((x : A) → Has xs x → P x) → AllByRecursion P xs
  all_of P [] f = tt
  all_of P (y ∷ ys) f = (f y (inl refl), all_of P ys (λ x h. f x (inr h)))

  pub got_has : (xs : List A) (n : ℕ) (x : A) → slice_get xs n ≡ Some x → Has xs x
  got_has [] n x e = absurd (cc)
  got_has (y ∷ ys) zero x e = inl (let same : y ≡ x = cc in same)
  got_has (y ∷ ys) (suc n) x e = inr (got_has ys n x e)

module _ {A B : Type 0} where
  pub has_each : (f : A → B) (xs : List A) (x : A) → Has xs x → Has (each f xs) (f x)
  has_each f [] x h = absurd h
  has_each f (y ∷ ys) x (inl is) = inl (ap f is)
  has_each f (y ∷ ys) x (inr h) = inr (has_each f ys x h)

  pub each_has : (f : A → B) (xs : List A) (b : B) → Has (each f xs) b → (x : A) × (Has xs x) × (f x ≡ b)
  each_has f [] b h = absurd h
  each_has f (y ∷ ys) b (inl is) = (y, inl refl, is)
  each_has f (y ∷ ys) b (inr h) = let r = each_has f ys b h in (r.0, inr r.1, r.2)

  pub all_each : (P : B → Type 0) (f : A → B) (xs : List A) → ((x : A) → Has xs x → P (f x)) → AllByRecursion P (each f xs)
  all_each P f [] h = tt
  all_each P f (x ∷ xs) h = (h x (inl refl), all_each P f xs (λ y k. h y (inr k)))

-- ---- counts

module _ {A : Type 0} (test : A → Bool) where
  no_length : (xs : List A) → length xs ≡ 0 → xs ≡ []
  no_length [] e = refl
  no_length (x ∷ xs) e = absurd (cc)

  -- where none is counted none passes
  pub none_passes : (xs : List A) → count_by test xs ≡ 0 → (x : A) → Has xs x → test x ≡ false
  none_passes xs none = filter_empty test xs (no_length (filter test xs) (length-filter test xs ∙ none))

  pub filter_none : (xs : List A) → ((x : A) → Has xs x → test x ≡ false) → filter test xs ≡ []
  filter_none [] f = refl
  filter_none (x ∷ xs) f = ap (λ b. cond b (x ∷ filter test xs) (filter test xs)) (f x (inl refl)) ∙ filter_none xs (λ y h. f y (inr h))

  pub none_counted : (xs : List A) → ((x : A) → Has xs x → test x ≡ false) → count_by test xs ≡ 0
  none_counted xs f = sym (length-filter test xs) ∙ ap length (filter_none xs f)

-- ---- paths that rise

abbrev pub Rise : List Path → Type 0
Rise [] = Unit {0}
Rise (p ∷ ps) = ((q : Path) → Has ps q → path_cmp p q ≡ Less) × Rise ps

pub not_less_itself : (p : Path) → path_cmp p p ≡ Less → ⊥
not_less_itself p e = let wrong : Less ≡ Equal = sym e ∙ tied_itself total p in absurd (cc)

pub not_both_less : (p q : Path) → path_cmp p q ≡ Less → path_cmp q p ≡ Less → ⊥
not_both_less p q a b = not_less_itself p (total.trans p q p a b)

is_less : (o : Ordering) → T (is_lt o) → o ≡ Less
is_less Less h = refl
is_less Equal h = absurd h
is_less Greater h = absurd h

below_each : (p : Path) (es : List (Path × Instance)) → T (map.Entries.below_all path_cmp p es) → (q : Path) → Has (each (λ e. e.0) es) q → path_cmp p q ≡ Less
below_each p [] h q has = absurd has
below_each p (e ∷ es) h q (inl is) = ap (path_cmp p) (sym is) ∙ is_less (path_cmp p e.0) (left_of _ _ h)
below_each p (e ∷ es) h q (inr has) = below_each p es (right_of (is_lt (path_cmp p e.0)) _ h) q has

sorted_rise : (es : List (Path × Instance)) → T (is_sorted path_cmp es) → Rise (each (λ e. e.0) es)
sorted_rise [] h = tt
sorted_rise (e ∷ es) h = (below_each e.0 es (left_of _ _ h), sorted_rise es (right_of (map.Entries.below_all path_cmp e.0 es) _ h))

pub paths_rise : (g : Situation) → Rise (paths g)
paths_rise g = sorted_rise (map.entries g.core.instances) (map.entries_sorted g.core.instances)

pub filter_rises : (test : Path → Bool) (ps : List Path) → Rise ps → Rise (filter test ps)
filter_rises test [] r = tt
filter_rises test (p ∷ ps) r = by (test p) (filter_rises test ps r.1)
  where
    by : (b : Bool) → Rise (filter test ps) → Rise (cond b (p ∷ filter test ps) (filter test ps))
    by true rest = (λ q h. r.0 q (has_filter test ps q h).0, rest)
    by false rest = rest

-- an element whose path is less than that of another stands before it
module _ {A : Type 0} (path : A → Path) where
  pub less_before : (xs : List A) → Rise (each path xs) → (at : ℕ) (x : A) → slice_get xs at ≡ Some x → (y : A) → Has xs y → path_cmp (path y) (path x) ≡ Less → Has (take at xs) y
  less_before [] r at x got y h less = absurd h
  less_before (z ∷ zs) r zero x got y (inl is) less =
      let same : z ≡ x = cc in
      absurd (not_less_itself (path x) (ap (λ (a : A). path_cmp (path a) (path x)) (sym same ∙ is) ∙ less))
  less_before (z ∷ zs) r zero x got y (inr h) less =
      let same : z ≡ x = cc in
      absurd (not_both_less (path z) (path y) (r.0 (path y) (has_each path zs y h)) (ap (λ (a : A). path_cmp (path y) (path a)) same ∙ less))
  less_before (z ∷ zs) r (suc at) x got y (inl is) less = inl is
  less_before (z ∷ zs) r (suc at) x got y (inr h) less = inr (less_before zs r.1 at x got y h less)
