-- The entries of instances in path order.
use Rattle.std.proofs.Common.{◌≡◌, Bool, true, false, T, List, [], ◌∷◌, map as each, Some, refl, sym, ap, cond, ◌∙◌, inl, inr, arith, eqb-true}
use Rattle.std.specs.Prelude.{nat_eq, slice_get}
use Rattle.std.specs.FinMap as map
use Rattle.std.specs.FinMap.{find, is_sorted}
use Rattle.std.specs.Ordering.{eq_by_cmp, is_lt, nat_cmp, ordering_then}
use Rattle.std.specs.declared.cmp.Ordering.{Ordering}
use Rattle.std.specs.declared.cmp.Ordering.TheVariants.{Less, Equal, Greater}
use Rattle.std.proofs.lemmas.Bool.Decides.{nat_tests}
use Rattle.estelle_tree.specs.Paths.{Path, path_cmp, is_inside}
use Rattle.estelle_model.specs.Core.{Instance}
use Rattle.estelle_model.proofs.Maps.{left_of, right_of, not_equal}
use Rattle.estelle_model.proofs.PrivateParts.{left_true, right_true}
use Rattle.estelle_model_legality.proofs.Lists.{not_both, not_true}
use Rattle.estelle_model_legality.proofs.Lookups.{same_is, same_itself}
use Rattle.estelle_model_legality.proofs.Members.{Has}

not_below : (p q : Path) → T (is_lt (path_cmp p q)) → p ≡ q → ⊥
not_below p q less e = not_both (eq_by_cmp path_cmp p q) (ap (λ (r : Path). eq_by_cmp path_cmp p r) (sym e) ∙ same_itself p) (not_equal (path_cmp p q) less)

pub below_has : (p : Path) (es : List (Path × Instance)) → T (map.Entries.below_all path_cmp p es) → (e : Path × Instance) → Has es e → p ≡ e.0 → ⊥
below_has p [] h e has is = has
below_has p (x ∷ es) h e (inl same) is = not_below p x.0 (left_of (is_lt (path_cmp p x.0)) _ h) (is ∙ ap (λ (y : Path × Instance). y.0) (sym same))
below_has p (x ∷ es) h e (inr has) is = below_has p es (right_of (is_lt (path_cmp p x.0)) _ h) e has is

pub entry_found : (es : List (Path × Instance)) → T (is_sorted path_cmp es) → (e : Path × Instance) → Has es e → find path_cmp e.0 es ≡ Some e.1
entry_found [] h e has = absurd has
entry_found (x ∷ es) h e (inl same) = ap (λ (b : Bool). cond b (Some x.1) (find path_cmp e.0 es)) (ap (λ (y : Path × Instance). eq_by_cmp path_cmp e.0 y.0) same ∙ same_itself e.0) ∙ ap (λ (y : Path × Instance). Some y.1) same
entry_found (x ∷ es) h e (inr has) =
    let apart : eq_by_cmp path_cmp e.0 x.0 ≡ false = not_true (eq_by_cmp path_cmp e.0 x.0) (λ t. below_has x.0 es (left_of (map.Entries.below_all path_cmp x.0 es) _ h) e has (sym (same_is e.0 x.0 t))) in
    ap (λ (b : Bool). cond b (Some x.1) (find path_cmp e.0 es)) apart ∙ entry_found es (right_of (map.Entries.below_all path_cmp x.0 es) _ h) e has

pub found_entry : (es : List (Path × Instance)) (q : Path) (i : Instance) → find path_cmp q es ≡ Some i → Has es (q, i)
found_entry [] q i h = absurd (cc)
found_entry (x ∷ es) q i h = by (found_entry es q i) (eq_by_cmp path_cmp q x.0) refl h
  where
    by : (find path_cmp q es ≡ Some i → Has es (q, i)) → (b : Bool) → eq_by_cmp path_cmp q x.0 ≡ b → cond b (Some x.1) (find path_cmp q es) ≡ Some i → Has (x ∷ es) (q, i)
    by more true e is = let same : x.1 ≡ i = cc in inl (λ j. (sym (same_is q x.0 e) j, same j))
    by more false e is = inr (more is)

-- ---- the first entry

less_of : (o : Ordering) → T (is_lt o) → o ≡ Less
less_of Less h = refl
less_of Equal h = absurd h
less_of Greater h = absurd h

not_before : (m p : Path) → is_inside m p ≡ true → path_cmp p m ≡ Less → ⊥
not_before [] [] h less = absurd (cc)
not_before [] (y ∷ p) h less = absurd (cc)
not_before (x ∷ m) [] h less = absurd (cc)
not_before (x ∷ m) (y ∷ p) h less =
    let same : x ≡ y = eqb-true x y (left_true (nat_eq x y) (is_inside m p) h) in
    let tied : nat_cmp y x ≡ Equal = grind (arith, nat_tests) in
    not_before m p (right_true (nat_eq x y) (is_inside m p) h) (sym (ap (λ (o : Ordering). ordering_then o (path_cmp p m)) tied) ∙ less)

before : (p : Path) (es : List (Path × Instance)) → T (map.Entries.below_all path_cmp p es) → (e : Path × Instance) → Has es e → path_cmp p e.0 ≡ Less
before p [] h e has = absurd has
before p (x ∷ es) h e (inl same) = ap (λ (y : Path × Instance). path_cmp p y.0) (sym same) ∙ less_of (path_cmp p x.0) (left_of (is_lt (path_cmp p x.0)) _ h)
before p (x ∷ es) h e (inr has) = before p es (right_of (is_lt (path_cmp p x.0)) _ h) e has

-- of the instances at and below one it stands first
pub first_entry : (m : Path) (es : List (Path × Instance)) → T (is_sorted path_cmp es) → ((e : Path × Instance) → Has es e → is_inside m e.0 ≡ true) → (i : Instance) → Has es (m, i) → slice_get es 0 ≡ Some (m, i)
first_entry m [] h inside i has = absurd has
first_entry m (x ∷ es) h inside i (inl same) = ap (λ (e : Path × Instance). Some e) same
first_entry m (x ∷ es) h inside i (inr has) = absurd (not_before m x.0 (inside x (inl refl)) (before x.0 es (left_of (map.Entries.below_all path_cmp x.0 es) _ h) (m, i) has))

pub first_each : {A B : Type 0} (f : A → B) (xs : List A) (x : A) → slice_get xs 0 ≡ Some x → slice_get (each f xs) 0 ≡ Some (f x)
first_each f [] x h = absurd (cc)
first_each {A} {B} f (y ∷ xs) x h = let same : y ≡ x = cc in ap (λ (z : A). Some (f z)) same
