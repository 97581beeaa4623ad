-- What is selected together lies at and below the instance, may be selected, and is apart.
use Rattle.std.proofs.Common.{◌≡◌, ℕ, Bool, true, false, T, List, [], ◌∷◌, map as each, filter, cond, refl, sym, ap, subst, ◌∙◌, inl, inr}
use Rattle.std.specs.FinMap as map
use Rattle.std.specs.FinMap.{is_sorted}
use Rattle.std.specs.Ordering.{eq_by_cmp, is_lt}
use Rattle.estelle_tree.specs.declared.transition.Pair.{Pair}
use Rattle.estelle_tree.specs.Paths.{Path, path_cmp, child, last_of, is_inside}
use Rattle.estelle_model.specs.Core.{Instance}
use Rattle.estelle_model.specs.Subject.{Subject}
use Rattle.estelle_model.specs.Situation.{Situation}
use Rattle.estelle_model.specs.Selection.{May, children, is_child, Selects, SelectsEach, own, process, activity, quiet, none, more}
use Rattle.estelle_model.proofs.Maps.{left_of, right_of, not_equal}
use Rattle.estelle_model_legality.proofs.Lists.{not_true, not_both}
use Rattle.estelle_model_legality.proofs.Ways.{inside_itself, inside_trans, inside_last, not_below_itself, comparable}
use Rattle.estelle_model_legality.proofs.Lookups.{same_itself}
use Rattle.estelle_model_legality.proofs.Members.{Has, has_filter, has_append, has_contained}
use Rattle.estelle_model_legality.proofs.Children.{has_child, inside_child}
use Rattle.estelle_model_legality.proofs.Apart.{AllApart, all_append}

-- ---- no child stands twice in the list of children

abbrev Differ : List Path → Type 0
Differ [] = Unit {0}
Differ (c ∷ cs) = ((d : Path) → Has cs d → c ≡ d → ⊥) × Differ cs

not_itself : (p q : Path) → T (is_lt (path_cmp p q)) → p ≡ q → ⊥
not_itself p q less e = not_both (eq_by_cmp path_cmp p q) (ap (λ (r : Path). eq_by_cmp path_cmp p r) (sym e) ∙ same_itself p) (not_equal (path_cmp p q) less)

below_differ : (p : Path) (es : List (Path × Instance)) → T (map.Entries.below_all path_cmp p es) → (q : Path) → Has (each (λ e. e.0) es) q → p ≡ q → ⊥
below_differ p [] h q has is = has
below_differ p (e ∷ es) h q (inl same) is = not_itself p e.0 (left_of (is_lt (path_cmp p e.0)) _ h) (is ∙ sym same)
below_differ p (e ∷ es) h q (inr has) is = below_differ p es (right_of (is_lt (path_cmp p e.0)) _ h) q has is

keys_differ : (es : List (Path × Instance)) → T (is_sorted path_cmp es) → Differ (each (λ e. e.0) es)
keys_differ [] h = tt
keys_differ (e ∷ es) h = (below_differ e.0 es (left_of (map.Entries.below_all path_cmp e.0 es) _ h), keys_differ es (right_of (map.Entries.below_all path_cmp e.0 es) _ h))

filter_differ : (test : Path → Bool) (cs : List Path) → Differ cs → Differ (filter test cs)
filter_differ test [] d = tt
filter_differ test (c ∷ cs) d = by (test c) (filter_differ test cs d.1)
  where
    by : (b : Bool) → Differ (filter test cs) → Differ (cond b (c ∷ filter test cs) (filter test cs))
    by true rest = (λ k h. d.0 k (has_filter test cs k h).0, rest)
    by false rest = rest

children_differ : (g : Situation) (m : Path) → Differ (children g m)
children_differ g m = filter_differ (is_child m) (map.keys g.core.instances) (keys_differ (map.entries g.core.instances) (map.entries_sorted g.core.instances))

-- ---- what is selected

module _ (s : Subject) (budget : ℕ) (g : Situation) where
  -- what lies at and below two different children is apart
  below_children : (m c d : Path) → Has (children g m) c → Has (children g m) d → (c ≡ d → ⊥) → (p q : Path) → is_inside c p ≡ true → is_inside d q ≡ true → is_inside p q ≡ false
  below_children m c d of_m also differ p q h k = not_true (is_inside p q) (λ t. elim (comparable c d q (inside_trans c p q h t) k) [
    | inl i ↦ one_inside c d (has_child s g m c of_m).1 (has_child s g m d also).1 differ i
    | inr i ↦ one_inside d c (has_child s g m d also).1 (has_child s g m c of_m).1 (λ e. differ (sym e)) i
  ])
    where
      one_inside : (c d : Path) → c ≡ child m (last_of c) → d ≡ child m (last_of d) → (c ≡ d → ⊥) → is_inside c d ≡ true → ⊥
      one_inside c d of_m also differ i = elim (inside_last c m (last_of d) (ap (is_inside c) (sym also) ∙ i)) [
        | inl up ↦ not_below_itself m (last_of c) (ap (λ (p : Path). is_inside p m) (sym of_m) ∙ up)
        | inr e ↦ differ (e ∙ sym also)
      ]

  pub record IsSelected (m : Path) (takes : List Pair) : Type 0 where
    pub inside : (p : Pair) → Has takes p → is_inside m p.path ≡ true
    pub may : (p : Pair) → Has takes p → May s budget g p.path p.trans
    pub apart : AllApart takes

  record IsSelectedOf (cs : List Path) (takes : List Pair) : Type 0 where
    inside : (p : Pair) → Has takes p → (c : Path) × (Has cs c) × (is_inside c p.path ≡ true)
    may : (p : Pair) → Has takes p → May s budget g p.path p.trans
    apart : AllApart takes

  inside_of_child : (m c p : Path) → Has (children g m) c → is_inside c p ≡ true → is_inside m p ≡ true
  inside_of_child m c p h i = inside_child m (last_of c) p (ap (λ (d : Path). is_inside d p) (sym (has_child s g m c h).1) ∙ i)

  mutual
    pub selected : {m : Path} {takes : List Pair} → Selects s budget g m takes → IsSelected m takes
    selected (own m n eligible) = record {
      inside = λ p h. elim h [ inl e ↦ subst (λ (q : Pair). is_inside m q.path ≡ true) e (inside_itself m) | inr nothing ↦ absurd nothing ];
      may = λ p h. elim h [ inl e ↦ subst (λ (q : Pair). May s budget g q.path q.trans) e eligible.may | inr nothing ↦ absurd nothing ];
      apart = (λ p h. absurd h, tt);
    }
    selected (process m all silent is of_each) =
        let r = each_selected m of_each (λ c h. h) (children_differ g m) in
        record { inside = λ p h. let c = r.inside p h in inside_of_child m c.0 p.path c.1 c.2; may = r.may; apart = r.apart }
    selected (activity m c some silent is of_m there chosen) =
        let r = selected chosen in
        record { inside = λ p h. inside_of_child m c p.path (has_contained (children g m) c of_m) (r.inside p h); may = r.may; apart = r.apart }
    selected (quiet m silent is of_each) = record { inside = λ p h. absurd h; may = λ p h. absurd h; apart = tt }

    each_selected : (m : Path) {cs : List Path} {takes : List Pair} → SelectsEach s budget g cs takes → ((c : Path) → Has cs c → Has (children g m) c) → Differ cs → IsSelectedOf cs takes
    each_selected m none of_m differ = record { inside = λ p h. absurd h; may = λ p h. absurd h; apart = tt }
    each_selected m (more c cs some others chosen rest) of_m differ =
        let a = selected chosen in
        let b = each_selected m rest (λ d h. of_m d (inr h)) differ.1 in
        record {
          inside = λ p h. elim (has_append some others p h) [ inl k ↦ (c, inl refl, a.inside p k) | inr k ↦ let d = b.inside p k in (d.0, inr d.1, d.2) ];
          may = λ p h. elim (has_append some others p h) [ inl k ↦ a.may p k | inr k ↦ b.may p k ];
          apart = all_append some others a.apart b.apart (λ p q h k.
              let d = b.inside q k in
              let one = of_m c (inl refl) in
              let other = of_m d.0 (inr d.1) in
              let different : c ≡ d.0 → ⊥ = differ.0 d.0 d.1 in (
                below_children m c d.0 one other different p.path q.path (a.inside p h) d.2,
                below_children m d.0 c other one (λ e. different (sym e)) q.path p.path d.2 (a.inside p h),
              ));
        }
