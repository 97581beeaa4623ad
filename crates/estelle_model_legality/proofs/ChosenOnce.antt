-- A chooser chooses one thing, and is left one way.
use Rattle.std.proofs.Common.{◌≡◌, ℕ, true, false, List, [], ◌∷◌, ◌++◌, length, Option, Some, None, refl, sym, ap, subst, ◌∙◌}
use Rattle.std.specs.Prelude.{not}
use Rattle.std.specs.List.{list_any}
use Rattle.estelle_tree.specs.declared.transition.Pair.{Pair}
use Rattle.estelle_tree.specs.Paths.{Path}
use Rattle.estelle_tree.specs.Timers.{pair}
use Rattle.estelle_model.specs.declared.meaning.Attribute.{Attribute}
use Rattle.estelle_model.specs.declared.meaning.Attribute.TheVariants.{Systemprocess, Systemactivity, Process, Activity}
use Rattle.estelle_model.specs.Subject.{Subject}
use Rattle.estelle_model.specs.Situation.{Situation}
use Rattle.estelle_model.specs.Attributes.{is_process, is_activity, attribute_at}
use Rattle.estelle_model.specs.Choosers.{Draw, pick, Picks}
use Rattle.estelle_model.specs.Selection.{has_priority}
use Rattle.estelle_model.specs.Schedule.{counted, offered, able_children, Chosen, ChosenOfEach, own, process, activity, quiet, none, more}
use Rattle.estelle_model_legality.proofs.Members.{has_got, has_filter, nothing_has}

-- an instance is no process and activity at once
not_both : (a : Option Attribute) → is_process a ≡ true → is_activity a ≡ true → ⊥
not_both None p q = let wrong : false ≡ true = p in absurd (cc)
not_both (Some Systemprocess) p q = let wrong : false ≡ true = q in absurd (cc)
not_both (Some Process) p q = let wrong : false ≡ true = q in absurd (cc)
not_both (Some Systemactivity) p q = let wrong : false ≡ true = p in absurd (cc)
not_both (Some Activity) p q = let wrong : false ≡ true = p in absurd (cc)

module _ {C : Type 0} (draw : Draw C) where
  picked_once : {A : Type 0} (c : C) (xs : List A) (a b : A) (after after' : C) → Picks draw c xs a after → Picks draw c xs b after' → (a ≡ b) × (after ≡ after')
  picked_once c xs a b after after' p q = (same a b (sym p.takes ∙ q.takes), p.leaves ∙ sym q.leaves)
    where
      same : {A : Type 0} (a b : A) → Some a ≡ Some b → a ≡ b
      same a b e = cc

  none_picked : {A : Type 0} (c : C) (xs : List A) (a : A) (after : C) → xs ≡ [] → Picks draw c xs a after → ⊥
  none_picked c xs a after e p = nothing_has xs a e (has_got xs (pick draw c (length xs)).0 a p.takes)

  module _ (s : Subject) (budget : ℕ) (g : Situation) where
    none_offered : (m : Path) (c : C) (n : ℕ) (after : C) → counted s budget g m ≡ [] → Picks draw c (offered s budget g m) n after → ⊥
    none_offered m c n after e p =
        let r = has_filter (λ j. not (list_any (λ k. has_priority s g m k j) (counted s budget g m))) (counted s budget g m) n (has_got (offered s budget g m) (pick draw c (length (offered s budget g m))).0 n p.takes) in
        nothing_has (counted s budget g m) n e r.0

    mutual
      pub one : {m : Path} {c : C} {takes : List Pair} {rest : C} → Chosen draw s budget g m c takes rest → (takes' : List Pair) (rest' : C) → Chosen draw s budget g m c takes' rest' → (takes ≡ takes') × (rest ≡ rest')
      one (own m c n rest p) _ _ (own m' c' n' rest' p') = let e = picked_once c (offered s budget g m) n n' rest rest' p p' in (ap (λ k. pair m k ∷ []) e.0, e.1)
      one (own m c n rest p) _ _ (process m' c' all rest' none_here is each) = absurd (none_offered m c n rest none_here p)
      one (own m c n rest p) _ _ (activity m' c' k after some rest' none_here is q chosen) = absurd (none_offered m c n rest none_here p)
      one (own m c n rest p) _ _ (quiet m' c' none_here is none_able) = absurd (none_offered m c n rest none_here p)
      one (process m c all rest none_here is each) _ _ (own m' c' n rest' p) = absurd (none_offered m c n rest' none_here p)
      one (process m c all rest none_here is each) _ _ (process m' c' all' rest' none_here' is' each') = one_of_each each all' rest' each'
      one (process m c all rest none_here is each) _ _ (activity m' c' k after some rest' none_here' is' q chosen) = absurd (not_both (attribute_at s g m) is is')
      one (process m c all rest none_here is each) _ _ (quiet m' c' none_here' is' none_able) = absurd (not_both (attribute_at s g m) is is')
      one (activity m c k after some rest none_here is p chosen) _ _ (own m' c' n rest' q) = absurd (none_offered m c n rest' none_here q)
      one (activity m c k after some rest none_here is p chosen) _ _ (process m' c' all rest' none_here' is' each) = absurd (not_both (attribute_at s g m) is' is)
      one (activity m c k after some rest none_here is p chosen) _ _ (activity m' c' k' after' some' rest' none_here' is' p' chosen') =
          let e = picked_once c (able_children s budget g m) k k' after after' p p' in
          one chosen some' rest' (subst (λ (q : Path). Chosen draw s budget g q after some' rest') (sym e.0) (subst (λ (d : C). Chosen draw s budget g k' d some' rest') (sym e.1) chosen'))
      one (activity m c k after some rest none_here is p chosen) _ _ (quiet m' c' none_here' is' none_able) = absurd (none_picked c (able_children s budget g m) k after none_able p)
      one (quiet m c none_here is none_able) _ _ (own m' c' n rest' p) = absurd (none_offered m c n rest' none_here p)
      one (quiet m c none_here is none_able) _ _ (process m' c' all rest' none_here' is' each) = absurd (not_both (attribute_at s g m) is' is)
      one (quiet m c none_here is none_able) _ _ (activity m' c' k after some rest' none_here' is' p chosen) = absurd (none_picked c (able_children s budget g m) k after none_able p)
      one (quiet m c none_here is none_able) _ _ (quiet m' c' none_here' is' none_able') = (refl, refl)

      one_of_each : {ms : List Path} {c : C} {takes : List Pair} {rest : C} → ChosenOfEach draw s budget g ms c takes rest → (takes' : List Pair) (rest' : C) → ChosenOfEach draw s budget g ms c takes' rest' → (takes ≡ takes') × (rest ≡ rest')
      one_of_each (none c) _ _ (none c') = (refl, refl)
      one_of_each (more m ms c some after others rest chosen each) _ _ (more m' ms' c' some' after' others' rest' chosen' each') =
          let e = one chosen some' after' chosen' in
          let f = one_of_each each others' rest' (subst (λ (d : C). ChosenOfEach draw s budget g ms d others' rest') (sym e.1) each') in
          (ap (λ ps. ps ++ others) e.0 ∙ ap (λ ps. some' ++ ps) f.0, f.1)
