-- What is selected together stands in path order.
use Rattle.std.proofs.Common.{◌≡◌, ℕ, Bool, true, false, T, ◌&&◌, List, [], ◌∷◌, ◌++◌, map as each, filter, cond, refl, sym, ap, ◌∙◌, inl, inr}
use Rattle.std.specs.Prelude.{nat_eq}
use Rattle.std.specs.FinMap as map
use Rattle.std.specs.FinMap.{is_sorted}
use Rattle.std.specs.Ordering.{is_lt, nat_cmp, ordering_then}
use Rattle.std.specs.declared.cmp.Ordering.{Ordering}
use Rattle.std.specs.declared.cmp.Ordering.TheVariants.{Less, Equal, Greater}
use Rattle.estelle_tree.specs.declared.transition.Pair.{Pair}
use Rattle.estelle_tree.specs.Paths.{Path, path_cmp, child, last_of, is_inside}
use Rattle.estelle_model.specs.Core.{Instance}
use Rattle.estelle_model.specs.Subject.{Subject}
use Rattle.estelle_model.specs.Situation.{Situation}
use Rattle.estelle_model.specs.Selection.{children, is_child, Selects, SelectsEach, own, process, activity, quiet, none, more}
use Rattle.estelle_model.proofs.Maps.{left_of, right_of, equal_of}
use Rattle.estelle_model_legality.proofs.Lists.{and_both, not_true, number_is, same_number}
use Rattle.estelle_model_legality.proofs.Ways.{inside_last, not_below_itself}
use Rattle.estelle_model_legality.proofs.Lookups.{same_itself}
use Rattle.estelle_model_legality.proofs.Members.{Has, has_filter, has_append}
use Rattle.estelle_model_legality.proofs.Children.{has_child}
use Rattle.estelle_model_legality.proofs.Selected.{selected as legal_selected}
use Rattle.trace_text.specs.Forms.{Follow, InPathOrder}

-- ---- the order of paths

less_of : (o : Ordering) → T (is_lt o) → o ≡ Less
less_of Less h = refl
less_of Equal h = absurd h
less_of Greater h = absurd h

not_less : (p : Path) → path_cmp p p ≡ Less → ⊥
not_less p e = let wrong : Less ≡ Equal = sym e ∙ equal_of (path_cmp p p) (same_itself p) in absurd (cc)

-- what lies at and below two paths stands as they do, where neither is above the other
less_inside : (c d p q : Path) → path_cmp c d ≡ Less → is_inside c d ≡ false → is_inside c p ≡ true → is_inside d q ≡ true → path_cmp p q ≡ Less
less_inside [] d p q less out i j = absurd (cc)
less_inside (x ∷ c) [] p q less out i j = absurd (cc)
less_inside (x ∷ c) (y ∷ d) [] q less out i j = absurd (cc)
less_inside (x ∷ c) (y ∷ d) (v ∷ p) [] less out i j = absurd (cc)
less_inside (x ∷ c) (y ∷ d) (v ∷ p) (w ∷ q) less out i j =
    let a = and_both (nat_eq x v) (is_inside c p) i in
    let b = and_both (nat_eq y w) (is_inside d q) j in
    let same : nat_cmp v w ≡ nat_cmp x y = ap (λ (n : ℕ). nat_cmp n w) (sym (same_number x v a.0)) ∙ ap (nat_cmp x) (sym (same_number y w b.0)) in
    ap (λ (o : Ordering). ordering_then o (path_cmp p q)) same ∙ by (nat_cmp x y) refl less (λ out'. less_inside c d p q out'.0 out'.1 a.1 b.1)
  where
    by : (o : Ordering) → nat_cmp x y ≡ o → ordering_then o (path_cmp c d) ≡ Less → ((path_cmp c d ≡ Less) × (is_inside c d ≡ false) → path_cmp p q ≡ Less) → ordering_then o (path_cmp p q) ≡ Less
    by Less is h rest = refl
    by Equal is h rest = rest (h, ap (λ b. b && is_inside c d) (sym (ap (nat_eq x) (sym (map.nat_cmp-IsAntisymmetric x y is)) ∙ number_is x)) ∙ out)
    by Greater is h rest = absurd (cc)

-- ---- children stand in order

abbrev Sorted : List Path → Type 0
Sorted [] = Unit {0}
Sorted (c ∷ cs) = ((d : Path) → Has cs d → path_cmp c d ≡ Less) × Sorted cs

below_sorted : (p : Path) (es : List (Path × Instance)) → T (map.Entries.below_all path_cmp p es) → (q : Path) → Has (each (λ e. e.0) es) q → path_cmp p q ≡ Less
below_sorted p [] h q has = absurd has
below_sorted p (e ∷ es) h q (inl same) = ap (path_cmp p) (sym same) ∙ less_of (path_cmp p e.0) (left_of (is_lt (path_cmp p e.0)) _ h)
below_sorted p (e ∷ es) h q (inr has) = below_sorted p es (right_of (is_lt (path_cmp p e.0)) _ h) q has

keys_sorted : (es : List (Path × Instance)) → T (is_sorted path_cmp es) → Sorted (each (λ e. e.0) es)
keys_sorted [] h = tt
keys_sorted (e ∷ es) h = (below_sorted e.0 es (left_of (map.Entries.below_all path_cmp e.0 es) _ h), keys_sorted es (right_of (map.Entries.below_all path_cmp e.0 es) _ h))

filter_sorted : (test : Path → Bool) (cs : List Path) → Sorted cs → Sorted (filter test cs)
filter_sorted test [] d = tt
filter_sorted test (c ∷ cs) d = by (test c) (filter_sorted test cs d.1)
  where
    by : (b : Bool) → Sorted (filter test cs) → Sorted (cond b (c ∷ filter test cs) (filter test cs))
    by true rest = (λ k h. d.0 k (has_filter test cs k h).0, rest)
    by false rest = rest

children_sorted : (g : Situation) (m : Path) → Sorted (children g m)
children_sorted g m = filter_sorted (is_child m) (map.keys g.core.instances) (keys_sorted (map.entries g.core.instances) (map.entries_sorted g.core.instances))

-- ---- what is selected

-- each stands before all behind it
abbrev AllInOrder : List Pair → Type 0
AllInOrder [] = Unit {0}
AllInOrder (p ∷ ps) = ((q : Pair) → Has ps q → path_cmp p.path q.path ≡ Less) × AllInOrder ps

order_append : (ps qs : List Pair) → AllInOrder ps → AllInOrder qs → ((p q : Pair) → Has ps p → Has qs q → path_cmp p.path q.path ≡ Less) → AllInOrder (ps ++ qs)
order_append [] qs h k across = k
order_append (p ∷ ps) qs h k across = (
  λ q has. elim (has_append ps qs q has) [ inl i ↦ h.0 q i | inr i ↦ across p q (inl refl) i ],
  order_append ps qs h.1 k (λ a b i j. across a b (inr i) j),
)

follow : (p : Pair) (ps : List Pair) → AllInOrder (p ∷ ps) → Follow p ps
follow p [] h = tt
follow p (q ∷ qs) h = (h.0 q (inl refl), follow q qs h.1)

in_path_order : (ps : List Pair) → AllInOrder ps → InPathOrder ps
in_path_order [] h = tt
in_path_order (p ∷ ps) h = follow p ps h

module _ (s : Subject) (budget : ℕ) (g : Situation) where
  children_apart : (m c d : Path) → Has (children g m) c → Has (children g m) d → path_cmp c d ≡ Less → is_inside c d ≡ false
  children_apart m c d of_m also less = not_true (is_inside c d) (λ i. elim (inside_last c m (last_of d) (ap (is_inside c) (sym is_d) ∙ i)) [
    | inl up ↦ not_below_itself m (last_of c) (ap (λ (p : Path). is_inside p m) (sym is_c) ∙ up)
    | inr e ↦ not_less c (ap (path_cmp c) (e ∙ sym is_d) ∙ less)
  ])
    where
      is_c : c ≡ child m (last_of c)
      is_c = (has_child s g m c of_m).1

      is_d : d ≡ child m (last_of d)
      is_d = (has_child s g m d also).1

  record AreOf (cs : List Path) (takes : List Pair) : Type 0 where
    inside : (p : Pair) → Has takes p → (c : Path) × (Has cs c) × (is_inside c p.path ≡ true)
    order : AllInOrder takes

  mutual
    order_of : {m : Path} {takes : List Pair} → Selects s budget g m takes → AllInOrder takes
    order_of (own m n eligible) = (λ q h. absurd h, tt)
    order_of (process m all silent is of_each) = (each_of m of_each (λ c h. h) (children_sorted g m)).order
    order_of (activity m c some silent is of_m there chosen) = order_of chosen
    order_of (quiet m silent is of_each) = tt

    each_of : (m : Path) {cs : List Path} {takes : List Pair} → SelectsEach s budget g cs takes → ((c : Path) → Has cs c → Has (children g m) c) → Sorted cs → AreOf cs takes
    each_of m none of_m sorted = record { inside = λ p h. absurd h; order = tt }
    each_of m (more c cs some others chosen rest) of_m sorted =
        let a = legal_selected s budget g chosen in
        let b = each_of m rest (λ d h. of_m d (inr h)) sorted.1 in
        record {
          inside = λ p h. elim (has_append some others p h) [ inl k ↦ (c, inl refl, a.inside p k) | inr k ↦ let d = b.inside p k in (d.0, inr d.1, d.2) ];
          order = order_append some others (order_of chosen) b.order (λ p q h k.
              let d = b.inside q k in
              let less = sorted.0 d.0 d.1 in
              less_inside c d.0 p.path q.path less (children_apart m c d.0 (of_m c (inl refl)) (of_m d.0 (inr d.1)) less) (a.inside p h) d.2);
        }

  pub takes_in_order : (m : Path) (takes : List Pair) → Selects s budget g m takes → InPathOrder takes
  takes_in_order m takes h = in_path_order takes (order_of h)

pub selections_have_form : (s : Subject) (budget : ℕ) (g : Situation) (system : Path) (takes : List Pair) → Selects s budget g system takes → InPathOrder takes
selections_have_form s budget g system takes h = takes_in_order s budget g system takes h
