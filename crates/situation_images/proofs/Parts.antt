-- The parts that a tree has at and below an instance are those of the instances there.
use Rattle.std.proofs.Common.{◌≡◌, Bool, true, false, T, List, [], ◌∷◌, map as each, filter, Option, Some, None, refl, sym, ap, subst, cond, ◌∙◌, inl, inr}
use Rattle.std.specs.Prelude.{◌&&◌, option_map}
use Rattle.std.specs.FinMap as map
use Rattle.std.specs.FinMap.{find, is_sorted}
use Rattle.std.specs.FinMap.Entries.{below_all, same_entries}
use Rattle.std.specs.Cmp.{eq_by_cmp_equiv}
use Rattle.std.specs.Ordering.{eq_by_cmp, is_lt}
use Rattle.std.proofs.lemmas.Simd.{map-map}
use Rattle.std.proofs.lemmas.List.Kept.{IsStrictlySortedBy-filter}
use Rattle.estelle_tree.specs.declared.link.IpAddr.{IpAddr}
use Rattle.estelle_tree.specs.Paths.{Path, path_cmp, is_inside}
use Rattle.module_tree.specs.Trees as trees
use Rattle.estelle_model.specs.declared.image.Part.{Part}
use Rattle.estelle_model.specs.Core.{Instance, Instances}
use Rattle.estelle_model.specs.Subject.{Subject}
use Rattle.estelle_model.specs.InteractionPoints.{point_of, internal_at}
use Rattle.estelle_model.specs.Situation.{Situation}
use Rattle.estelle_model.specs.Jobs.{part_of_entry, instance_of, is_internal}
use Rattle.estelle_model.proofs.Maps.{total, apart, left_of, right_of, not_equal}
use Rattle.estelle_model.proofs.PrivateParts.{same_path, get_inside}
use Rattle.estelle_model_legality.specs.Choices.{AreTree}
use Rattle.estelle_model_legality.proofs.Lookups.{same_itself}
use Rattle.estelle_model_legality.proofs.Members.{Has, has_contained, has_filter, filter_has}
use Rattle.estelle_model_legality.proofs.Children.{inside_way, there_has, has_there, there_above}
use Rattle.transition_select.specs.Blocks.{at_and_below}
use Rattle.transition_select.proofs.Rising.{keys_rise, same_rising}
use Rattle.effect_log.specs.Standing.{kept_of}
use Rattle.situation_images.specs.Instances.{IsTreeOf, instances_in, IsPartOf, parts_of, PartsLieBelow, PartsAreOfInstances}

-- ---- a map that has what another has, changed at each path

module _ {X Y : Type 0} (f : Path → X → Y) where
  abbrev changed : Path × X → Path × Y
  changed e = (e.0, f e.0 e.1)

  below_changed : (p : Path) (es : List (Path × X)) → below_all path_cmp p (each changed es) ≡ below_all path_cmp p es
  below_changed p [] = refl
  below_changed p (e ∷ es) = ap (λ b. is_lt (path_cmp p e.0) && b) (below_changed p es)

  sorted_changed : (es : List (Path × X)) → is_sorted path_cmp (each changed es) ≡ is_sorted path_cmp es
  sorted_changed [] = refl
  sorted_changed (e ∷ es) = λ i. below_changed e.0 es i && sorted_changed es i

  find_changed : (q : Path) (es : List (Path × X)) → find path_cmp q (each changed es) ≡ option_map (f q) (find path_cmp q es)
  find_changed q [] = refl
  find_changed q (e ∷ es) = by (eq_by_cmp path_cmp q e.0) refl (find_changed q es)
    where
      by : (b : Bool) → eq_by_cmp path_cmp q e.0 ≡ b → find path_cmp q (each changed es) ≡ option_map (f q) (find path_cmp q es)
          → cond b (Some (f e.0 e.1)) (find path_cmp q (each changed es)) ≡ option_map (f q) (cond b (Some e.1) (find path_cmp q es))
      by true is rest = ap (λ p. Some (f p e.1)) (sym (same_path q e.0 is))
      by false is rest = rest

  entries_changed : (x : map.FinMap path_cmp X) (y : map.FinMap path_cmp Y) → ((q : Path) → map.get y q ≡ option_map (f q) (map.get x q)) → map.entries y ≡ each changed (map.entries x)
  entries_changed x y is =
      same_entries path_cmp total apart (map.entries y) (each changed (map.entries x)) (map.entries_sorted y) (subst T (sym (sorted_changed (map.entries x))) (map.entries_sorted x))
      (λ q. sym (map.get-entries y q) ∙ is q ∙ ap (option_map (f q)) (map.get-entries x q) ∙ sym (find_changed q (map.entries x)))

-- ---- the instances that a tree shows

-- each is as its part shows it
pub shown_in : (t : trees.Tree Part) (p : Path) → map.get (instances_in t) p ≡ option_map instance_of (trees.part_at t p)
shown_in t p =
    map.get-from_entries total (each (changed shown) (map.entries t.instances)) p
    ∙ find_changed shown p (map.entries t.instances)
    ∙ ap (option_map (shown p)) (sym (map.get-entries t.instances p))
    ∙ by (map.get t.instances p)
  where
    shown : Path → trees.Instance Part → Instance
    shown q i = instance_of i.part

    by : (o : Option (trees.Instance Part)) → option_map (shown p) o ≡ option_map instance_of (option_map (λ (i : trees.Instance Part). i.part) o)
    by None = refl
    by (Some i) = refl

-- and so are the interaction points that its body declares for itself
pub internal_in : (s : Subject) (t : trees.Tree Part) (a : IpAddr) (o : Option Part) → o ≡ trees.part_at t a.path → internal_at (point_of s (option_map instance_of o) a.ip) ≡ is_internal s (instances_in t) a
internal_in s t a o is = ap (λ (i : Option Instance). internal_at (point_of s i a.ip)) (ap (option_map instance_of) is ∙ sym (shown_in t a.path))

-- they are those of a situation whose instances the tree has
pub instances_are : (t : trees.Tree Part) (g : Situation) → IsTreeOf t g → instances_in t ≡ g.core.instances
instances_are t g of = map.same_map total apart (instances_in t) g.core.instances (λ p. shown_in t p ∙ ap (λ (o : Option (trees.Instance Part)). option_map instance_of (option_map (λ (i : trees.Instance Part). i.part) o)) (of p) ∙ by p (map.get g.core.instances p))
  where
    by : (p : Path) (o : Option Instance) → option_map instance_of (option_map (λ (i : trees.Instance Part). i.part) (option_map (kept_of p) o)) ≡ o
    by p None = refl
    by p (Some i) = refl

-- ---- the instances inside one

module _ (x : Instances) (m : Path) where
  there_inside : (q : Path) (i : Instance) (b : Bool) → is_inside m q ≡ b → cond b (map.get x q) None ≡ Some i → (is_inside m q ≡ true) × (map.get x q ≡ Some i)
  there_inside q i true is e = (is, e)
  there_inside q i false is e = absurd (cc)

  get_of_inner : (q : Path) (i : Instance) → map.get (map.retain_keys x (is_inside m)) q ≡ Some i → (is_inside m q ≡ true) × (map.get x q ≡ Some i)
  get_of_inner q i e = there_inside q i (is_inside m q) refl (sym (get_inside x m q) ∙ e)

  keys_inside : map.keys (map.retain_keys x (is_inside m)) ≡ filter (is_inside m) (map.keys x)
  keys_inside = same_rising (map.keys (map.retain_keys x (is_inside m))) (filter (is_inside m) (map.keys x)) (keys_rise (map.retain_keys x (is_inside m))) (IsStrictlySortedBy-filter path_cmp (is_inside m) (map.keys x) (keys_rise x))
      (λ q h. let is = has_there (map.retain_keys x (is_inside m)) q h in let r = get_of_inner q is.0 is.1 in filter_has (is_inside m) (map.keys x) q (there_has x q (is.0, r.1)) r.0)
      (λ q h. let r = has_filter (is_inside m) (map.keys x) q h in let is = has_there x q r.0 in there_has (map.retain_keys x (is_inside m)) q (is.0, get_inside x m q ∙ ap (λ b. cond b (map.get x q) None) r.1 ∙ is.1))

-- ---- entries

below_of : (p : Path) (es : List (Path × Instance)) → T (below_all path_cmp p es) → (e : Path × Instance) → Has es e → T (is_lt (path_cmp p e.0))
below_of p [] h e has = absurd has
below_of p (d ∷ es) h e (inl is) = subst (λ (c : Path × Instance). T (is_lt (path_cmp p c.0))) is (left_of (is_lt (path_cmp p d.0)) _ h)
below_of p (d ∷ es) h e (inr has) = below_of p es (right_of (is_lt (path_cmp p d.0)) _ h) e has

entry_found : (es : List (Path × Instance)) → T (is_sorted path_cmp es) → (e : Path × Instance) → Has es e → find path_cmp e.0 es ≡ Some e.1
entry_found [] h e has = absurd has
entry_found (d ∷ es) h e (inl is) = ap (λ (c : Path × Instance). cond (eq_by_cmp path_cmp e.0 c.0) (Some c.1) (find path_cmp e.0 es)) is ∙ ap (λ b. cond b (Some e.1) (find path_cmp e.0 es)) (same_itself e.0)
entry_found (d ∷ es) h e (inr has) =
    ap (λ b. cond b (Some d.1) (find path_cmp e.0 es)) (sym ((eq_by_cmp_equiv total).symm d.0 e.0) ∙ not_equal (path_cmp d.0 e.0) (below_of d.0 es (left_of (below_all path_cmp d.0 es) _ h) e has))
    ∙ entry_found es (right_of (below_all path_cmp d.0 es) _ h) e has

-- what is an element of a list that is mapped comes from one of the list
part_from : (es : List (Path × Instance)) (p : Part) → Has (each part_of_entry es) p → (e : Path × Instance) × (Has es e) × (part_of_entry e ≡ p)
part_from [] p h = absurd h
part_from (e ∷ es) p (inl is) = (e, inl refl, is)
part_from (e ∷ es) p (inr h) = let r = part_from es p h in (r.0, inr r.1, r.2)

-- ---- parts

module _ (g : Situation) (m : Path) where
  abbrev inner : Instances
  inner = map.retain_keys g.core.instances (is_inside m)

  pub paths_are : each (λ p. p.path) (parts_of g m) ≡ at_and_below g m
  paths_are = map-map (λ (p : Part). p.path) part_of_entry (map.entries (map.retain_keys g.core.instances (is_inside m))) ∙ keys_inside g.core.instances m

  pub part_is : (p : Part) → Has (parts_of g m) p → IsPartOf g p
  part_is p h =
      let from = part_from (map.entries (map.retain_keys g.core.instances (is_inside m))) p h in
      let e = from.0 in
      let inside : Instances = map.retain_keys g.core.instances (is_inside m) in
      let found = get_of_inner g.core.instances m e.0 e.1 (map.get-entries inside e.0 ∙ entry_found (map.entries inside) (map.entries_sorted inside) e from.1) in
      let path : e.0 ≡ p.path = ap (λ (q : Part). q.path) from.2 in
      (e.1, ap (map.get g.core.instances) (sym path) ∙ found.1, sym from.2 ∙ ap (λ q. part_of_entry (q, e.1)) path)

  -- where the instance is not there, none is below it
  pub none_below : (s : Subject) → AreTree s g.core.instances → map.get g.core.instances m ≡ None → parts_of g m ≡ []
  none_below s tree none = by (map.entries inner) (λ e h. get_of_inner g.core.instances m e.0 e.1 (map.get-entries inner e.0 ∙ entry_found (map.entries inner) (map.entries_sorted inner) e h))
    where
      by : (es : List (Path × Instance)) → ((e : Path × Instance) → Has es e → (is_inside m e.0 ≡ true) × (map.get g.core.instances e.0 ≡ Some e.1)) → each part_of_entry es ≡ []
      by [] f = refl
      by (e ∷ es) f =
          let at = f e (inl refl) in
          let way = inside_way m e.0 at.0 in
          let above = there_above s g tree way.0 m (e.1, ap (map.get g.core.instances) (sym way.1) ∙ at.1) in
          let wrong : None ≡ Some above.0 = sym none ∙ above.1 in
          absurd (cc)

module _ (t : trees.Tree Part) (g : Situation) (of : IsTreeOf t g) (m : Path) where
  kept_inside : (q : Path) (b : Bool) → cond b (map.get t.instances q) None ≡ option_map (kept_of q) (cond b (map.get g.core.instances q) None)
  kept_inside q true = of q
  kept_inside q false = refl

  both_inside : (q : Path) → map.get (map.retain_keys t.instances (is_inside m)) q ≡ option_map (kept_of q) (map.get (map.retain_keys g.core.instances (is_inside m)) q)
  both_inside q =
      map.get-retain_keys t.instances (is_inside m) q (λ p e. ap (is_inside m) (sym (apart q p e)))
      ∙ kept_inside q (is_inside m q)
      ∙ ap (option_map (kept_of q)) (sym (get_inside g.core.instances m q))

  -- the parts of the tree are those of the situation
  pub parts_are : trees.parts_below t.instances m ≡ parts_of g m
  parts_are =
      ap (each (λ e. e.1.part)) (entries_changed kept_of (map.retain_keys g.core.instances (is_inside m)) (map.retain_keys t.instances (is_inside m)) both_inside)
      ∙ map-map (λ (e : Path × trees.Instance Part). e.1.part) (changed kept_of) (map.entries (map.retain_keys g.core.instances (is_inside m)))

-- ---- the laws

pub parts_lie_below : PartsLieBelow
parts_lie_below t g of m = ap (each (λ p. p.path)) (parts_are t g of m) ∙ paths_are g m

pub parts_are_of_instances : PartsAreOfInstances
parts_are_of_instances t g of m p has = part_is g m p (subst (λ ps. Has ps p) (parts_are t g of m) (has_contained (trees.parts_below t.instances m) p has))
