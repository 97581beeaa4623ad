-- From an instance downwards: its own choice, or what is chosen of its children.
use Rattle.std.proofs.Common.{◌≡◌, ℕ, Bool, true, false, List, [], ◌∷◌, ◌++◌, length, refl, sym, ap, subst, ◌∙◌, arith, eqb-true, Some}
use Rattle.std.specs.Prelude.{◌==◌, slice_get}
use Rattle.std.proofs.lemmas.List.{append-nil}
use Rattle.estelle_tree.specs.declared.transition.Pair.{Pair}
use Rattle.estelle_tree.specs.Paths.{Path}
use Rattle.estelle_tree.specs.Timers.{pair}
use Rattle.estelle_model.specs.Subject.{Subject}
use Rattle.estelle_model.specs.Situation.{Situation}
use Rattle.estelle_model.specs.Attributes.{is_empty}
use Rattle.estelle_model.specs.Choosers.{Draw, Picks, pick}
use Rattle.estelle_model.specs.Selection.{children}
use Rattle.estelle_model.specs.Schedule as schedule
use Rattle.estelle_model.specs.Schedule.{counted, offered, is_able, Chosen}
use Rattle.estelle_model_legality.specs.Choices.{AreTree}
use Rattle.transition_select.specs.declared.offers.Offer.{Offer}
use Rattle.transition_select.specs.Offers.{IsOfKind, AreOffers}
use Rattle.transition_select.specs.Choosing.{HasTaken, HasChosen, HasChosenOfEach, HasChosenOfOne, none, one}
use Rattle.transition_select.proofs.Apart.{below, offered_empty}

empty_is : {A : Type 0} (xs : List A) → is_empty xs ≡ true → xs ≡ []
empty_is [] e = refl
empty_is (x ∷ xs) e = absurd (cc)

pub empty_tested : {A : Type 0} (xs : List A) (b : Bool) → b ≡ (length xs == 0) → b ≡ true → is_empty xs ≡ true
empty_tested [] b is e = refl
empty_tested (x ∷ xs) b is e = absurd (let wrong : (length (x ∷ xs) == 0) ≡ true = sym is ∙ e in let zero_is = eqb-true (length (x ∷ xs)) 0 wrong in omega (arith, zero_is))

-- what is got at the number that was drawn is picked
pub picked : {A C : Type 0} (draw : Draw C) (c : C) (xs : List A) (count number : ℕ) (after : C) (a : A) → count ≡ length xs → (number, after) ≡ pick draw c count → slice_get xs number ≡ Some a → Picks draw c xs a after
picked draw c xs count number after a is drawn got = record {
  takes = sym (ap (slice_get xs) (ap (λ p. p.0) drawn ∙ ap (λ n. (pick draw c n).0) is)) ∙ got;
  leaves = ap (λ p. p.1) drawn ∙ ap (λ n. (pick draw c n).1) is;
}

module _ {C : Type 0} (draw : Draw C) (s : Subject) (budget : ℕ) (g : Situation) (tree : AreTree s g.core.instances) (m : Path) (o : Offer) (os : List Offer) (are : AreOffers s budget g m (o ∷ os)) where
  here : o.path ≡ m
  here = (below s budget g tree m o os are).0

  offers_here : o.offered.items ≡ offered s budget g m
  offers_here = are.offers.0.offered ∙ ap (offered s budget g) here

  kind_here : (b : Bool) → o.of_process ≡ b → IsOfKind s g m b
  kind_here b e = subst (λ q. IsOfKind s g q b) here (subst (IsOfKind s g o.path) e are.offers.0.kind)

  none_counted : is_empty o.offered.items ≡ true → counted s budget g m ≡ []
  none_counted e = empty_is (counted s budget g m) (sym (offered_empty s budget g tree m) ∙ ap is_empty (sym offers_here) ∙ e)

  pub own_chosen : (c : C) (before after : List Pair) (rest : C) → HasTaken draw o c before after rest → HasChosen draw s budget g m c before after rest
  own_chosen c before after rest taken = record {
    takes = pair m taken.number ∷ [];
    chosen = schedule.own m c taken.number rest (subst (λ ns. Picks draw c ns taken.number rest) offers_here taken.picked);
    behind = taken.behind ∙ ap (λ q. before ++ pair q taken.number ∷ []) here;
  }

  pub each_chosen : is_empty o.offered.items ≡ true → o.of_process ≡ true → (c : C) (before after : List Pair) (rest : C) → HasChosenOfEach draw s budget g (children g m) c before after rest → HasChosen draw s budget g m c before after rest
  each_chosen e is c before after rest all = record {
    takes = all.takes;
    chosen = schedule.process m c all.takes rest (none_counted e) (kind_here true is) all.chosen;
    behind = all.behind;
  }

  pub one_chosen : is_empty o.offered.items ≡ true → o.of_process ≡ false → (c : C) (before after : List Pair) (rest : C) → HasChosenOfOne draw s budget g (children g m) c before after rest → HasChosen draw s budget g m c before after rest
  one_chosen e is c before after rest (none none_able same unasked) = record {
    takes = [];
    chosen = subst (λ r. Chosen draw s budget g m c [] r) (sym unasked) (schedule.quiet m c (none_counted e) (kind_here false is) none_able);
    behind = same ∙ sym (append-nil before);
  }
  one_chosen e is c before after rest (one k asked picks chosen) = record {
    takes = chosen.takes;
    chosen = schedule.activity m c k asked chosen.takes rest (none_counted e) (kind_here false is) picks chosen.chosen;
    behind = chosen.behind;
  }
