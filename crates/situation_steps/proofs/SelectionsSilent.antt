-- Where nothing is chosen, nothing may be selected.
use Rattle.std.proofs.Common.{◌≡◌, ◌⊎◌, ℕ, zero, suc, true, false, List, [], ◌∷◌, ◌++◌, length, Option, Some, None, refl, ap, subst, ◌∙◌, inl, inr, arith}
use Rattle.std.specs.Prelude.{◌&&◌, not}
use Rattle.std.specs.FinMap as map
use Rattle.std.proofs.lemmas.Option.{slice_get_within}
use Rattle.estelle_tree.specs.declared.transition.Pair.{Pair}
use Rattle.estelle_tree.specs.Paths.{Path, is_inside}
use Rattle.estelle_model.specs.Core.{Instance}
use Rattle.estelle_model.specs.Transitions.{Transition}
use Rattle.estelle_model.specs.Subject.{Subject, transitions, transition}
use Rattle.estelle_model.specs.Situation.{Situation}
use Rattle.estelle_model.specs.Firing.{guard, guard_at, guard_of}
use Rattle.estelle_model.specs.Attributes.{is_empty}
use Rattle.estelle_model.specs.Delays.{is_on, may}
use Rattle.estelle_model.specs.Choosers.{Draw}
use Rattle.estelle_model.specs.Jobs.{IsThere}
use Rattle.estelle_model.specs.Selection.{paths, children}
use Rattle.estelle_model.specs.Schedule.{numbers_of, counted, is_able, able_children, Chosen, ChosenOfEach, own, process, activity, quiet, none, more}
use Rattle.estelle_model.proofs.PrivateParts.{left_true, right_true}
use Rattle.estelle_model_legality.specs.Choices.{AreTree}
use Rattle.estelle_model_legality.proofs.Lists.{both_and, not_true}
use Rattle.estelle_model_legality.proofs.Members.{Has, has_got, nothing_has, filter_has, any_has, has_any}
use Rattle.estelle_model_legality.proofs.Children.{there_has, has_there, at_or_below}
use Rattle.estelle_model_legality.proofs.Choosing.{picked_child}
use Rattle.situation_steps.proofs.RenewingTimers.{range_has}

pub first_empty : {A : Type 0} (xs ys : List A) → xs ++ ys ≡ [] → xs ≡ []
first_empty [] ys e = refl
first_empty (x ∷ xs) ys e = absurd (cc)

pub second_empty : {A : Type 0} (xs ys : List A) → xs ++ ys ≡ [] → ys ≡ []
second_empty [] ys e = e
second_empty (x ∷ xs) ys e = absurd (cc)

empty_is : {A : Type 0} (xs : List A) → (not (is_empty xs) ≡ true → ⊥) → xs ≡ []
empty_is [] h = refl
empty_is (x ∷ xs) h = absurd (h refl)

not_empty : {A : Type 0} (xs : List A) → not (is_empty xs) ≡ true → xs ≡ [] → ⊥
not_empty [] e is = absurd (cc)
not_empty (x ∷ xs) e is = absurd (cc)

module _ (s : Subject) (budget : ℕ) (g : Situation) where
  -- what may be selected is counted
  numbered : (m : Path) (n : ℕ) (o : Option Instance) → is_on (guard_at s budget g m n o) ≡ true → (Has (numbers_of s o) n) × ((i : Instance) × (o ≡ Some i))
  numbered m n None e = absurd (cc)
  numbered m n (Some i) e = (by n (transition s i.body n) refl e, (i, refl))
    where
      by : (n : ℕ) (o : Option Transition) → transition s i.body n ≡ o → is_on (guard_of s budget g m (map.contains_key g.timers (record { path = m; trans = n })) i o) ≡ true → Has (numbers_of s (Some i)) n
      by n None is e = absurd (cc)
      by zero (Some t) is e = absurd (cc)
      by (suc k) (Some t) is e = let less = slice_get_within (transitions s i.body) k t is in range_has (length (transitions s i.body)) 1 (suc k) (omega arith) (omega (arith, less))

  abbrev Quiet : Path → Type 0
  Quiet m = (q : Path) → IsThere g.core.instances q → is_inside m q ≡ true → counted s budget g q ≡ []

  -- at and below what is not able nothing is counted
  not_able : (m : Path) → (is_able s budget g m ≡ true → ⊥) → Quiet m
  not_able m off q there inside =
      empty_is (counted s budget g q) (λ some. off (has_any (λ p. is_inside m p && not (is_empty (counted s budget g p))) (paths g) q (there_has g.core.instances q there) (both_and (is_inside m q) _ inside some)))

  not_quiet : (m : Path) → is_able s budget g m ≡ true → Quiet m → ⊥
  not_quiet m able silent =
      let r = any_has (λ p. is_inside m p && not (is_empty (counted s budget g p))) (paths g) able in
      not_empty (counted s budget g r.0) (right_true (is_inside m r.0) _ r.2) (silent r.0 (has_there g.core.instances r.0 r.1) (left_true (is_inside m r.0) _ r.2))

  module _ (tree : AreTree s g.core.instances) where
    with_children : (m : Path) → counted s budget g m ≡ [] → ((c : Path) → Has (children g m) c → Quiet c) → Quiet m
    with_children m silent below q there inside = by (at_or_below s g tree m q there inside)
      where
        by : (q ≡ m) ⊎ ((c : Path) × (Has (children g m) c) × (is_inside c q ≡ true)) → counted s budget g q ≡ []
        by (inl is) = ap (counted s budget g) is ∙ silent
        by (inr c) = below c.0 c.1 q there c.2

    module _ {C : Type 0} (draw : Draw C) where
      mutual
        all_quiet : {m : Path} {c : C} {takes : List Pair} {rest : C} → Chosen draw s budget g m c takes rest → takes ≡ [] → Quiet m
        all_quiet (own m c n rest p) e = absurd (cc)
        all_quiet (process m c all rest silent is each) e = with_children m silent (λ d h. each_quiet each e d h)
        all_quiet (activity m c k after some rest silent is p chosen) e =
            absurd (not_quiet k (picked_child s budget g m k (has_got (able_children s budget g m) _ k p.takes)).1 (all_quiet chosen e))
        all_quiet (quiet m c silent is none_able) e =
            with_children m silent (λ d h. not_able d (λ able. nothing_has (able_children s budget g m) d none_able (filter_has (is_able s budget g) (children g m) d h able)))

        each_quiet : {ms : List Path} {c : C} {takes : List Pair} {rest : C} → ChosenOfEach draw s budget g ms c takes rest → takes ≡ [] → (d : Path) → Has ms d → Quiet d
        each_quiet (none c) e d h = absurd h
        each_quiet (more m ms c some after others rest chosen each) e d (inl is) = subst Quiet is (all_quiet chosen (first_empty some others e))
        each_quiet (more m ms c some after others rest chosen each) e d (inr h) = each_quiet each (second_empty some others e) d h

      -- where nothing is chosen, nothing may be selected
      pub nothing_may : {m : Path} {c : C} {takes : List Pair} {rest : C} → Chosen draw s budget g m c takes rest → takes ≡ [] → (q : Path) (n : ℕ) → is_inside m q ≡ true → may s budget g q n ≡ false
      nothing_may {m} chosen e q n inside = not_true (may s budget g q n) (λ on.
          let its = numbered q n (map.get g.core.instances q) (left_true (is_on (guard s budget g q n)) _ on) in
          nothing_has (counted s budget g q) n (all_quiet chosen e q its.1 inside) (filter_has (may s budget g q) (numbers_of s (map.get g.core.instances q)) n its.0 on))
