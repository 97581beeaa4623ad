-- Maps of instances by what is found in them: changes, entries put one after another, and what all records of a list tell.
use Rattle.std.proofs.Common.{◌≡◌, Bool, true, false, List, [], ◌∷◌, map as each, Some, None, refl, sym, ap, subst, cond, ◌∙◌}
use Rattle.std.specs.Prelude.{◌&&◌, fold, option_map, T}
use Rattle.std.specs.Option.{option_or}
use Rattle.std.specs.FinMap as map
use Rattle.std.specs.FinMap.{find, is_sorted, nat_cmp-IsAntisymmetric, slice_cmp-IsAntisymmetric, IsAntisymmetric}
use Rattle.std.specs.Cmp.{IsTotalOrder}
use Rattle.std.specs.Cmp.Lexicographic.{nat_list_cmp_total}
use Rattle.std.specs.Ordering.{eq_by_cmp, is_lt, is_eq}
use Rattle.std.specs.declared.cmp.Ordering.{Ordering}
use Rattle.std.specs.declared.cmp.Ordering.TheVariants.{Less, Equal, Greater}
use Rattle.estelle_tree.specs.Paths.{Path, path_cmp}
use Rattle.estelle_model.specs.Core.{Instance, Instances}
use Rattle.estelle_model.specs.Jobs.{part_of_entry, insert_part}

pub total : IsTotalOrder path_cmp
total = nat_list_cmp_total

pub apart : IsAntisymmetric path_cmp
apart = slice_cmp-IsAntisymmetric nat_cmp-IsAntisymmetric

pub left_of : (a b : Bool) → T (a && b) → T a
left_of true b h = tt
left_of false b h = h

pub right_of : (a b : Bool) → T (a && b) → T b
right_of true b h = h
right_of false b h = absurd h

pub not_equal : (o : Ordering) → T (is_lt o) → is_eq o ≡ false
not_equal Less h = refl
not_equal Equal h = absurd h
not_equal Greater h = absurd h

pub equal_of : (o : Ordering) → is_eq o ≡ true → o ≡ Equal
equal_of Less h = absurd (cc)
equal_of Equal h = refl
equal_of Greater h = absurd (cc)

-- a key below all of a list is not in it
below_none : {X : Type 0} (q : Path) (es : List (Path × X)) → T (map.Entries.below_all path_cmp q es) → find path_cmp q es ≡ None
below_none q [] h = refl
below_none q (e ∷ es) h = ap (λ b. cond b (Some e.1) (find path_cmp q es)) (not_equal (path_cmp q e.0) (left_of _ _ h)) ∙ below_none q es (right_of (is_lt (path_cmp q e.0)) _ h)

abbrev inserted : Instances → List (Path × Instance) → Instances
inserted m es = fold insert_part m (each part_of_entry es)

-- what is found, where entries are put one after another
pub get_inserted : (m : Instances) (es : List (Path × Instance)) → T (is_sorted path_cmp es) → (q : Path) → map.get (inserted m es) q ≡ option_or (find path_cmp q es) (map.get m q)
get_inserted m [] h q = refl
get_inserted m (e ∷ es) h q =
    get_inserted (map.insert m e.0 e.1) es (right_of (map.Entries.below_all path_cmp e.0 es) _ h) q ∙ ap (option_or (find path_cmp q es)) (map.get-insert total m e.0 e.1 q)
    ∙ by (eq_by_cmp path_cmp q e.0) refl
  where
    by : (b : Bool) → eq_by_cmp path_cmp q e.0 ≡ b → option_or (find path_cmp q es) (cond b (Some e.1) (map.get m q)) ≡ option_or (cond b (Some e.1) (find path_cmp q es)) (map.get m q)
    by true k = ap (λ o. option_or o (Some e.1)) (ap (λ p. find path_cmp p es) (apart q e.0 (equal_of _ k)) ∙ below_none e.0 es (left_of _ _ h))
    by false k = refl

-- ---- what all records tell

module _ {A : Type 0} (f : Instance → A) where
  abbrev pub told : List (Path × Instance) → List (Path × A)
  told = each (λ e. (e.0, f e.1))

  told_below : (q : Path) (es : List (Path × Instance)) → map.Entries.below_all path_cmp q (told es) ≡ map.Entries.below_all path_cmp q es
  told_below q [] = refl
  told_below q (e ∷ es) = ap (λ b. is_lt (path_cmp q e.0) && b) (told_below q es)

  told_sorted : (es : List (Path × Instance)) → is_sorted path_cmp (told es) ≡ is_sorted path_cmp es
  told_sorted [] = refl
  told_sorted (e ∷ es) = λ i. told_below e.0 es i && told_sorted es i

  told_found : (es : List (Path × Instance)) (q : Path) → find path_cmp q (told es) ≡ option_map f (find path_cmp q es)
  told_found [] q = refl
  told_found (e ∷ es) q = by (eq_by_cmp path_cmp q e.0) (told_found es q)
    where
      by : (b : Bool) → find path_cmp q (told es) ≡ option_map f (find path_cmp q es) → cond b (Some (f e.1)) (find path_cmp q (told es)) ≡ option_map f (cond b (Some e.1) (find path_cmp q es))
      by true h = refl
      by false h = h

  -- two maps of which the records tell the same at each path
  pub same_told : (m n : Instances) → ((q : Path) → option_map f (map.get m q) ≡ option_map f (map.get n q)) → told (map.entries m) ≡ told (map.entries n)
  same_told m n h =
      let sorted : (x : Instances) → T (is_sorted path_cmp (told (map.entries x))) = λ x. subst T (sym (told_sorted (map.entries x))) (map.entries_sorted x) in
      let found : (x : Instances) (q : Path) → map.get (map.from_sorted {R = path_cmp} (told (map.entries x))) q ≡ option_map f (map.get x q) =
      λ x q. map.get-from_sorted path_cmp (told (map.entries x)) q (sorted x) ∙ told_found (map.entries x) q ∙ ap (option_map f) (sym (map.get-entries x q)) in
      sym (map.entries-from_sorted path_cmp (told (map.entries m)) (sorted m))
      ∙ ap map.entries (map.same_map total apart (map.from_sorted {R = path_cmp} (told (map.entries m))) (map.from_sorted {R = path_cmp} (told (map.entries n))) (λ q. found m q ∙ h q ∙ sym (found n q)))
      ∙ map.entries-from_sorted path_cmp (told (map.entries n)) (sorted n)
