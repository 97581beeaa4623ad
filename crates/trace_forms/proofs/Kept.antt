-- Where rules speak of a specification, none of those on types is broken.
use Rattle.std.proofs.Common.{◌≡◌, ◌∙◌, ℕ, Bool, true, false, List, [], ◌∷◌, ◌++◌, map, Option, Some, None, refl, ap, sym, inl}
use Rattle.std.specs.Prelude.{flat_map, ◌||◌, not, int_lt}
use Rattle.std.specs.List.{AllByRecursion}
use Rattle.estelle_tree.specs.declared.span.Span.{Span}
use Rattle.estelle_tree.specs.declared.tree.type_expr.Const.{Const}
use Rattle.estelle_tree.specs.declared.tree.type_expr.Ordinal.TheVariants as ordinal
use Rattle.estelle_tree.specs.Spans.{of_const}
use Rattle.type_rules.specs.declared.types.Value.{Value}
use Rattle.type_rules.specs.declared.sites.Place.{Place}
use Rattle.type_rules.specs.declared.sites.PlacedSite.{PlacedSite}
use Rattle.type_rules.specs.declared.sites.Site.{Site}
use Rattle.type_rules.specs.Types.{same_host, is_no_subrange}
use Rattle.type_rules.specs.Meanings.{Env, const_value}
use Rattle.type_rules.specs.Sites.{Sites}
use Rattle.type_rules.specs.TypeSites.{ordinal_sites}
use Rattle.type_rules.specs.SpecificationSites.{Part, PlacedPart, all_of, placed}
use Rattle.type_rules.specs.PascalRules.{TypesDoNotFit, NoType}
use Rattle.trace_forms.proofs.Lists.{all_front, all_back}
use Rattle.trace_forms.proofs.Declared.{AreOfOneType}
use Rattle.trace_forms.proofs.TypePlaces.{IsSettled}

-- the rules 40 and 44 are kept where they speak of this
abbrev pub SiteKept : Site → Type 0
SiteKept s = (at : Span) → (TypesDoNotFit at s → ⊥) × (NoType at s → ⊥)

-- and where they speak of these
abbrev pub Kept : Sites → Type 0
Kept = AllByRecursion SiteKept

-- and of these, each in its body or routine
abbrev pub PlacedKept : List PlacedSite → Type 0
PlacedKept = AllByRecursion (λ (p : PlacedSite). SiteKept p.site)

-- what is kept of all is kept of the first ones
pub kept_front : (xs ys : Sites) → Kept (xs ++ ys) → Kept xs
kept_front = all_front SiteKept

-- and of the last ones
pub kept_back : (xs ys : Sites) → Kept (xs ++ ys) → Kept ys
kept_back = all_back SiteKept

-- the same of sites with their places
pub placed_front : (xs ys : List PlacedSite) → PlacedKept (xs ++ ys) → PlacedKept xs
placed_front = all_front (λ (p : PlacedSite). SiteKept p.site)

-- and of the last ones
pub placed_back : (xs ys : List PlacedSite) → PlacedKept (xs ++ ys) → PlacedKept ys
placed_back = all_back (λ (p : PlacedSite). SiteKept p.site)

-- where it stands changes nothing
pub not_placed : (place : Place) (ss : Sites) → PlacedKept (placed place ss) → Kept ss
not_placed place [] h = tt
not_placed place (s ∷ ss) h = (h.0, not_placed place ss h.1)

-- what holds of each where its sites are kept holds of all where all sites are
pub each_kept : {A : Type 0} (P : A → Type 0) (f : A → Sites) (xs : List A) → AllByRecursion (λ x. Kept (f x) → P x) xs → Kept (flat_map f xs) → AllByRecursion P xs
each_kept P f [] h k = tt
each_kept P f (x ∷ xs) h k = (h.0 (kept_front (f x) (flat_map f xs) k), each_kept P f xs h.1 (kept_back (f x) (flat_map f xs) k))

-- the same of parts of the tree
pub parts_kept : {A : Type 0} (env : Env) (P : A → Type 0) (f : A → Part) (xs : List A) → AllByRecursion (λ x. Kept ((f x).sites env) → P x) xs → Kept ((all_of (map f xs)).sites env) → AllByRecursion P xs
parts_kept env P f [] h k = tt
parts_kept env P f (x ∷ xs) h k = (h.0 (kept_front ((f x).sites env) ((all_of (map f xs)).sites env) k), parts_kept env P f xs h.1 (kept_back ((f x).sites env) ((all_of (map f xs)).sites env) k))

-- where rules speak of a part none is broken, and each type definition in it is known at its place
abbrev pub PartKept : Env → Part → Type 0
PartKept env p = Kept (p.sites env) × AllByRecursion (IsSettled env) p.declares

-- the same of what stands in a body that begins there
abbrev pub PlacedPartKept : Env → ℕ → PlacedPart → Type 0
PlacedPartKept env at p = PlacedKept (p.sites env at) × AllByRecursion (IsSettled env) (p.declares at)

-- of parts one after another each is kept
pub each_part_kept : {A : Type 0} (env : Env) (P : A → Type 0) (f : A → Part) (xs : List A) → AllByRecursion (λ x. PartKept env (f x) → P x) xs → PartKept env (all_of (map f xs)) → AllByRecursion P xs
each_part_kept env P f [] h k = tt
each_part_kept env P f (x ∷ xs) h k =
    let more = all_of (map f xs) in (
      h.0 (kept_front ((f x).sites env) (more.sites env) k.0, all_front (IsSettled env) (f x).declares more.declares k.1),
      each_part_kept env P f xs h.1 (kept_back ((f x).sites env) (more.sites env) k.0, all_back (IsSettled env) (f x).declares more.declares k.1),
    )

-- ---- subranges

-- a test that is not true is false
pub not_true : (b : Bool) → (b ≡ true → ⊥) → b ≡ false
not_true true h = absurd (h refl)
not_true false h = refl

-- of a test that is false both parts are
or_not : (s t : Bool) → (not s || t) ≡ false → s ≡ true
or_not true t e = refl
or_not false t e = absurd (cc)

-- of a test that is false neither part is true
neither : (s t : Bool) → (s || t) ≡ false → t ≡ false
neither true t e = absurd (cc)
neither false t e = e

-- bounds that are not refused are of one type
of_one_host : (a b : Value) → is_no_subrange (Some a) (Some b) ≡ false → same_host a.host b.host ≡ true
unfolding is_no_subrange
of_one_host a b e = or_not (same_host a.host b.host) (int_lt b.ordinal a.ordinal) e

-- and the second is not the lesser one
not_less : (a b : Value) → is_no_subrange (Some a) (Some b) ≡ false → int_lt b.ordinal a.ordinal ≡ false
unfolding is_no_subrange
not_less a b e = neither (not (same_host a.host b.host)) (int_lt b.ordinal a.ordinal) e

-- the bounds of a subrange that the rules do not refuse have values, of one type, which do not fall
pub subrange_kept : (env : Env) (low high : Const) (span : Span) → Kept (ordinal_sites env (ordinal.Subrange low high span)) → AreOfOneType env low high
subrange_kept env low high span h = by (const_value env low) refl (const_value env high) refl
  where
    by : (o : Option Value) → const_value env low ≡ o → (p : Option Value) → const_value env high ≡ p → AreOfOneType env low high
    by None e p f = absurd ((h.0 (of_const low)).0 (e, refl))
    by (Some a) e None f = absurd ((h.1.0 (of_const high)).0 (f, refl))
    by (Some a) e (Some b) f =
        let kept = not_true (is_no_subrange (const_value env low) (const_value env high)) (λ t. (h.1.1.0 span).1 (inl t, refl)) in
        let none = ap (λ o. is_no_subrange (Some a) o) (sym f) ∙ ap (λ o. is_no_subrange o (const_value env high)) (sym e) ∙ kept in
        record { first = a; second = b; low_is = e; high_is = f; same = of_one_host a b none; rises = not_less a b none }
