-- What an effect or a change leaves at each path.
use Rattle.std.proofs.Common.{◌≡◌, ◌⊎◌, ℕ, Bool, true, false, not, Option, Some, None, cond, refl, sym, ap, ◌∙◌, inl, inr}
use Rattle.std.specs.Option.{option_map}
use Rattle.std.specs.Ordering.{eq_by_cmp, is_eq}
use Rattle.std.specs.FinMap as fin
use Rattle.std.specs.FinMap.{get-insert, get-retain_keys}
use Rattle.std.specs.Cmp.Lexicographic.{nat_list_cmp_total}
use Rattle.std.specs.declared.cmp.Ordering.{Ordering}
use Rattle.std.specs.declared.cmp.Ordering.TheVariants.{Less, Equal, Greater}
use Rattle.std.proofs.lemmas.Map.Lookups.{exact_bytes}
use Rattle.std.proofs.lemmas.Map.Text.{is_eq-slice_cmp}
use Rattle.std.proofs.lemmas.Slice.Eq.{bytes_eq-Decides}
use Rattle.estelle_tree.specs.Paths.{Path, path_cmp, child, is_inside}
use Rattle.estelle_model.specs.Core.{Instance, Instances}
use Rattle.estelle_model.specs.Effects.{born, put_back, changed_in}

abbrev pub same : Path → Path → Bool
same q p = eq_by_cmp path_cmp q p

abbrev pub Lookup : Type 0
Lookup = Path → Option Instance

abbrev pub changed_at : Path → (Instance → Instance) → Lookup → Lookup
changed_at p f look q = cond (same q p) (option_map f (look p)) (look q)

abbrev pub created_at : Path → ℕ → Instance → Lookup → Lookup
created_at p k i look q = cond (same q (child p k)) (Some i) (changed_at p born look q)

abbrev pub removed_at : Path → Lookup → Lookup
removed_at c look q = cond (not (is_inside c q)) (look q) None

equal_is : (o : Ordering) → is_eq o ≡ true → o ≡ Equal
equal_is Less h = absurd (cc)
equal_is Equal h = refl
equal_is Greater h = absurd (cc)

pub same_is : (q p : Path) → same q p ≡ true → q ≡ p
same_is q p h = exact_bytes q p (equal_is (path_cmp q p) h)

pub same_itself : (q : Path) → same q q ≡ true
same_itself q = is_eq-slice_cmp q q ∙ (bytes_eq-Decides q q).1 refl

none_there : (b : Bool) (x y : Option Instance) → (b ≡ true → x ≡ y) → x ≡ cond b y x
none_there true x y h = h refl
none_there false x y h = refl

pub get_changed : (p : Path) (f : Instance → Instance) (is : Instances) (q : Path) → fin.get (changed_in p f is) q ≡ changed_at p f (fin.get is) q
get_changed p f is q = by (fin.get is p) refl
  where
    by : (o : Option Instance) → fin.get is p ≡ o → fin.get (put_back is p f o) q ≡ cond (same q p) (option_map f o) (fin.get is q)
    by None e = none_there (same q p) (fin.get is q) None (λ s. ap (fin.get is) (same_is q p s) ∙ e)
    by (Some r) e = get-insert nat_list_cmp_total is p (f r) q

pub get_created : (p : Path) (k : ℕ) (i : Instance) (is : Instances) (q : Path) → fin.get (fin.insert (changed_in p born is) (child p k) i) q ≡ created_at p k i (fin.get is) q
get_created p k i is q = get-insert nat_list_cmp_total (changed_in p born is) (child p k) i q ∙ ap (cond (same q (child p k)) (Some i)) (get_changed p born is q)

pub get_removed : (c : Path) (is : Instances) (q : Path) → fin.get (fin.retain_keys is (λ x. not (is_inside c x))) q ≡ removed_at c (fin.get is) q
get_removed c is q = get-retain_keys is (λ x. not (is_inside c x)) q (λ x t. ap (λ y. not (is_inside c y)) (sym (exact_bytes q x t)))

-- ---- one instance changes

module _ (at : Path) (f : Instance → Instance) (look : Lookup) where
  -- each is the one that was there, or the changed one
  pub changed_was : (q : Path) (s : Instance) → changed_at at f look q ≡ Some s → (r : Instance) × (look q ≡ Some r) × ((s ≡ r) ⊎ ((q ≡ at) × (s ≡ f r)))
  changed_was q s h = by (same q at) refl (look at) refl h
    where
      by : (b : Bool) → same q at ≡ b → (o : Option Instance) → look at ≡ o → cond b (option_map f o) (look q) ≡ Some s → (r : Instance) × (look q ≡ Some r) × ((s ≡ r) ⊎ ((q ≡ at) × (s ≡ f r)))
      by true e None g h = absurd (cc)
      by true e (Some r) g h = let is : f r ≡ s = cc in (r, ap look (same_is q at e) ∙ g, inr (same_is q at e, sym is))
      by false e o g h = (s, h, inl refl)

  pub changed_is : (q : Path) (r : Instance) → look q ≡ Some r → (s : Instance) × (changed_at at f look q ≡ Some s) × ((s ≡ r) ⊎ ((q ≡ at) × (s ≡ f r)))
  changed_is q r h = by (same q at) refl
    where
      by : (b : Bool) → same q at ≡ b → (s : Instance) × (cond b (option_map f (look at)) (look q) ≡ Some s) × ((s ≡ r) ⊎ ((q ≡ at) × (s ≡ f r)))
      by true e = (f r, ap (option_map f) (sym (ap look (same_is q at e)) ∙ h), inr (same_is q at e, refl))
      by false e = (r, h, inl refl)

  pub changed_here : changed_at at f look at ≡ option_map f (look at)
  changed_here = ap (λ (b : Bool). cond b (option_map f (look at)) (look at)) (same_itself at)

-- ---- an instance goes, with all below it

pub removed_was : (c : Path) (look : Lookup) (q : Path) (s : Instance) → removed_at c look q ≡ Some s → (is_inside c q ≡ false) × (look q ≡ Some s)
removed_was c look q s h = by (is_inside c q) refl h
  where
    by : (b : Bool) → is_inside c q ≡ b → cond (not b) (look q) None ≡ Some s → (is_inside c q ≡ false) × (look q ≡ Some s)
    by true e g = absurd (cc)
    by false e g = (e, g)

pub removed_is : (c : Path) (look : Lookup) (q : Path) → is_inside c q ≡ false → removed_at c look q ≡ look q
removed_is c look q e = ap (λ (b : Bool). cond (not b) (look q) None) e
