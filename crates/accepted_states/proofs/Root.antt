-- The specification's own body has transitions only where it has an attribute.
use Rattle.std.proofs.Common.{◌≡◌, inl, inr, List, [], ◌∷◌, ◌++◌, Option, Some, None, refl, sym, subst}
use Rattle.std.specs.Prelude.{IsTrue, is_some, option_map, ◌||◌}
use Rattle.std.specs.List.{flat_map}
use Rattle.estelle_tree.specs.declared.tree.specification.SysAttr.{SysAttr}
use Rattle.estelle_tree.specs.declared.tree.specification.Trans.{Trans}
use Rattle.estelle_tree.specs.declared.tree.specification.Parts.{out-Parts}
use Rattle.estelle_tree.specs.declared.tree.specification.Spec.{Spec}
use Rattle.estelle_model.specs.Bodies.{ways, system_attribute}
use Rattle.estelle_model.specs.Transitions.{flat_way}
use Rattle.estelle_model.specs.Subject.{Subject, meant_with, transitions, transitions_of}
use Rattle.estelle_model.specs.Attributes.{is_empty, may_have_transitions}
use Rattle.body_table.proofs.BodyEquations.{root_is}
use Rattle.scope_rules.specs.declared.refusal.Breach.{Breach}
use Rattle.scope_rules.specs.Least.{breach}
use Rattle.scope_rules.specs.NameRules.{IsOne, names_of}
use Rattle.tree_visits.specs.Visit.{Around, Begins, Transitions}
use Rattle.tree_visits.specs.Visits.{visit_of, standing, in_specification, init_nodes, trans, decl, routines_in, visits}
use Rattle.tree_visits.proofs.BodyEquations as visited
use Rattle.module_table.specs.Known.{Known, known}
use Rattle.attribute_rules.specs.AttributeRules.{breaches, AttributeRuleBroken}
use Rattle.spec_accept.specs.Rules.{names}
use Rattle.accepted_states.specs.Laws.{KeepsRules}

one_front : {A : Type 0} (x : A) (xs ys : List A) → IsOne x xs → IsOne x (xs ++ ys)
one_front x [] ys h = absurd h
one_front x (y ∷ xs) ys (inl e) = inl e
one_front x (y ∷ xs) ys (inr h) = inr (one_front x xs ys h)

one_back : {A : Type 0} (x : A) (xs ys : List A) → IsOne x ys → IsOne x (xs ++ ys)
one_back x [] ys h = h
one_back x (y ∷ xs) ys h = inr (one_back x xs ys h)

one_flat : {A B : Type 0} (f : A → List B) (x : A) (y : B) (xs : List A) → IsOne x xs → IsOne y (f x) → IsOne y (flat_map f xs)
one_flat f x y [] h g = absurd h
one_flat f x y (z ∷ xs) (inl e) g = one_front y (f z) (flat_map f xs) (subst (λ w. IsOne y (f w)) e g)
one_flat f x y (z ∷ xs) (inr h) g = one_back y (f z) (flat_map f xs) (one_flat f x y xs h g)

-- the visit at a word `trans`
word_visited : (a : Around) (t : Trans) (ts : List Trans) → IsOne (visit_of a (Transitions t.span)) (flat_map (trans a) (t ∷ ts))
unfolding standing
word_visited a t ts = inl refl

visited_there : (spec : Spec) (t : Trans) (ts : List Trans) → (out-Parts spec.parts).trans ≡ t ∷ ts → IsOne (visit_of (in_specification spec.attr spec.span) (Transitions t.span)) (visits spec)
unfolding visits
visited_there spec t ts e =
    let a = in_specification spec.attr spec.span in
    let o = out-Parts spec.parts in
    let v = visit_of a (Transitions t.span) in
    let B = standing a (Begins (routines_in o.decls) o.trans ∷ []) in
    let D = flat_map (λ d. (decl d).visits a) o.decls in
    let I = standing a (init_nodes o.init) in
    subst (IsOne v) (sym (visited.parts_is spec.parts a))
    (one_back v B (D ++ (I ++ flat_map (trans a) o.trans)) (one_back v D (I ++ flat_map (trans a) o.trans) (one_back v I (flat_map (trans a) o.trans)
    (subst (λ xs. IsOne v (flat_map (trans a) xs)) (sym e) (word_visited a t ts)))))

unattributed : (k : Known) (spec : Spec) (t : Trans) → spec.attr ≡ None → IsOne (breach 10 t.span) (breaches k (visit_of (in_specification spec.attr spec.span) (Transitions t.span)))
unattributed k spec t e = subst (λ o. IsOne (breach 10 t.span) (breaches k (visit_of (in_specification o spec.span) (Transitions t.span)))) (sym e) (inl refl)

module _ (spec : Spec) (kept : KeepsRules spec) where
  abbrev s : Subject
  s = record { specification = spec; names = names_of spec }

  attribute_broken : (b : Breach) → AttributeRuleBroken spec (names spec) b → ⊥
  attribute_broken b h = kept b (inr (λ c g. kept c (inl g), inl (inl (inl h))))

  none_stand : (ts : List Trans) → (out-Parts spec.parts).trans ≡ ts → spec.attr ≡ None → IsTrue (is_empty (flat_map (flat_way (meant_with s)) (flat_map (λ t. ways t.body) ts)))
  none_stand [] e n = refl
  none_stand (t ∷ ts) e n =
      let k = known spec (names spec) in
      absurd (attribute_broken (breach 10 t.span)
      (one_flat (breaches k) (visit_of (in_specification spec.attr spec.span) (Transitions t.span)) (breach 10 t.span) (visits spec) (visited_there spec t ts e) (unattributed k spec t n)))

  by_attribute : (o : Option SysAttr) → spec.attr ≡ o → IsTrue (is_some (option_map system_attribute o) || is_empty (transitions s 0))
  by_attribute (Some a) e = refl
  by_attribute None e = subst (λ b. IsTrue (is_empty (transitions_of s b))) (sym (root_is s)) (none_stand (out-Parts spec.parts).trans refl e)

  pub root_may : IsTrue (may_have_transitions s 0)
  root_may = by_attribute spec.attr refl
