-- Paths in their order: lists that rise strictly, and that two of them with the same elements are one.
use Rattle.std.proofs.Common.{◌≡◌, Bool, true, false, List, [], ◌∷◌, ◌++◌, refl, sym, ap, subst, ◌∙◌, inl, inr}
use Rattle.std.specs.Prelude.{◌&&◌, T, map as each}
use Rattle.std.specs.Ordering.{is_lt, ordering_reverse}
use Rattle.std.specs.Cmp.Lexicographic.{nat_list_cmp_total}
use Rattle.std.specs.List.{AllByRecursion}
use Rattle.std.specs.List.Sorted.{IsStrictlySortedBy}
use Rattle.std.specs.FinMap as map
use Rattle.std.specs.FinMap.Entries.{below_all, is_sorted}
use Rattle.std.specs.declared.cmp.Ordering.{Ordering}
use Rattle.std.specs.declared.cmp.Ordering.TheVariants.{Less, Equal, Greater}
use Rattle.estelle_tree.specs.Paths.{Path, path_cmp}
use Rattle.estelle_model_legality.proofs.Members.{Has}

abbrev pub Rises : List Path → Type 0
Rises = IsStrictlySortedBy path_cmp

-- the first path comes before each of these
abbrev pub IsBefore : Path → List Path → Type 0
IsBefore p = AllByRecursion (λ q. path_cmp p q ≡ Less)

-- ---- the keys of a map

first : (a b : Bool) → T (a && b) → T a
first true b p = tt
first false b p = p

second : (a b : Bool) → T (a && b) → T b
second true b p = p
second false b p = absurd p

less : (o : Ordering) → T (is_lt o) → o ≡ Less
less Less p = refl
less Equal p = absurd p
less Greater p = absurd p

module _ {X : Type 0} where
  before_keys : (p : Path) (es : List (Path × X)) → T (below_all path_cmp p es) → IsBefore p (each (λ e. e.0) es)
  before_keys p [] h = tt
  before_keys p (e ∷ es) h = (less (path_cmp p e.0) (first (is_lt (path_cmp p e.0)) (below_all path_cmp p es) h), before_keys p es (second (is_lt (path_cmp p e.0)) (below_all path_cmp p es) h))

  keys_of_rise : (es : List (Path × X)) → T (is_sorted path_cmp es) → Rises (each (λ e. e.0) es)
  unfolding IsStrictlySortedBy
  keys_of_rise [] h = tt
  keys_of_rise (e ∷ es) h = (before_keys e.0 es (first (below_all path_cmp e.0 es) (is_sorted path_cmp es) h), keys_of_rise es (second (below_all path_cmp e.0 es) (is_sorted path_cmp es) h))

  pub keys_rise : (m : map.FinMap path_cmp X) → Rises (map.keys m)
  keys_rise m = keys_of_rise (map.entries m) (map.entries_sorted m)

-- ---- elements

pub before_has : (p : Path) (qs : List Path) (q : Path) → IsBefore p qs → Has qs q → path_cmp p q ≡ Less
before_has p [] q b h = absurd h
before_has p (r ∷ qs) q b (inl is) = ap (path_cmp p) (sym is) ∙ b.0
before_has p (r ∷ qs) q b (inr h) = before_has p qs q b.1 h

pub has_before : (p : Path) (qs : List Path) → ((q : Path) → Has qs q → path_cmp p q ≡ Less) → IsBefore p qs
has_before p [] f = tt
has_before p (q ∷ qs) f = (f q (inl refl), has_before p qs (λ r h. f r (inr h)))

pub itself : (p : Path) → path_cmp p p ≡ Less → ⊥
itself p e = by (path_cmp p p) e (nat_list_cmp_total.antisymm p p)
  where
    by : (o : Ordering) → o ≡ Less → o ≡ ordering_reverse o → ⊥
    by Less e r = absurd (cc)
    by Equal e r = absurd (cc)
    by Greater e r = absurd (cc)

not_both : (p q : Path) → path_cmp p q ≡ Less → path_cmp q p ≡ Less → ⊥
not_both p q e f = itself p (nat_list_cmp_total.trans p q p e f)

-- what is in one list is in the other
abbrev pub Within : List Path → List Path → Type 0
Within ps qs = (q : Path) → Has ps q → Has qs q

heads : (p q : Path) (ps qs : List Path) → IsBefore p ps → IsBefore q qs → Has (q ∷ qs) p → Has (p ∷ ps) q → p ≡ q
heads p q ps qs a b (inl is) h = sym is
heads p q ps qs a b (inr there) (inl is) = is
heads p q ps qs a b (inr there) (inr h) = absurd (not_both p q (before_has p ps q a h) (before_has q qs p b there))

tails : (p : Path) (ps qs : List Path) → IsBefore p ps → Within (p ∷ ps) (p ∷ qs) → Within ps qs
tails p ps qs b w q h = by (w q (inr h))
  where
    by : Has (p ∷ qs) q → Has qs q
    by (inl is) = absurd (itself p (ap (path_cmp p) is ∙ before_has p ps q b h))
    by (inr there) = there

pub same_rising : (ps qs : List Path) → Rises ps → Rises qs → Within ps qs → Within qs ps → ps ≡ qs
unfolding IsStrictlySortedBy
same_rising [] [] a b f g = refl
same_rising [] (q ∷ qs) a b f g = absurd (g q (inl refl))
same_rising (p ∷ ps) [] a b f g = absurd (f p (inl refl))
same_rising (p ∷ ps) (q ∷ qs) a b f g =
    let is = heads p q ps qs a.0 b.0 (f p (inl refl)) (g q (inl refl)) in
    let b' : IsBefore p qs = subst (λ r. IsBefore r qs) (sym is) b.0 in
    let f' : Within (p ∷ ps) (p ∷ qs) = subst (λ r. Within (p ∷ ps) (r ∷ qs)) (sym is) f in
    let g' : Within (p ∷ qs) (p ∷ ps) = subst (λ r. Within (r ∷ qs) (p ∷ ps)) (sym is) g in
    ap (λ r. r ∷ ps) is ∙ ap (λ rs. q ∷ rs) (same_rising ps qs a.1 b.1 (tails p ps qs a.0 f') (tails p qs ps b' g'))

-- ---- lists one behind another

append_before : (p : Path) (ps qs : List Path) → IsBefore p ps → IsBefore p qs → IsBefore p (ps ++ qs)
append_before p [] qs a b = b
append_before p (r ∷ ps) qs a b = (a.0, append_before p ps qs a.1 b)

pub append_rises : (ps qs : List Path) → Rises ps → Rises qs → ((p q : Path) → Has ps p → Has qs q → path_cmp p q ≡ Less) → Rises (ps ++ qs)
unfolding IsStrictlySortedBy
append_rises [] qs a b f = b
append_rises (p ∷ ps) qs a b f = (append_before p ps qs a.0 (has_before p qs (λ q h. f p q (inl refl) h)), append_rises ps qs a.1 b (λ r q h k. f r q (inr h) k))
