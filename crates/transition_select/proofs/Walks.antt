-- Steps through the offers of instances side by side.
use Rattle.std.proofs.Common.{◌≡◌, ◌≢◌, ◌⊎◌, ◌+◌, ◌-◌, ◌<◌, ℕ, zero, suc, Bool, true, false, cond, List, [], ◌∷◌, ◌++◌, length, take, drop, None, refl, sym, ap, subst, ◌∙◌, inl, inr, arith, eqb-true}
use Rattle.std.proofs.lemmas.List.{append-nil, append_assoc}
use Rattle.std.specs.Prelude.{filter, slice_get, ◌==◌}
use Rattle.estelle_tree.specs.declared.transition.Pair.{Pair}
use Rattle.estelle_tree.specs.Paths.{Path}
use Rattle.estelle_model.specs.Subject.{Subject}
use Rattle.estelle_model.specs.Situation.{Situation}
use Rattle.estelle_model.specs.Choosers.{Draw}
use Rattle.estelle_model.specs.Schedule as schedule
use Rattle.estelle_model.specs.Schedule.{is_able, ChosenOfEach}
use Rattle.estelle_model_legality.specs.Choices.{AreTree}
use Rattle.transition_select.specs.declared.offers.Offer.{Offer}
use Rattle.transition_select.specs.Offers.{AreOffers, AreOffersOfEach, none, offers_some, first_len}
use Rattle.transition_select.specs.Choosing.{HasChosen, HasChosenOfEach, AreCounted, IsLeft, IsAbleOne, HasChosenSoFar}
use Rattle.transition_select.proofs.Apart.{AreCut, cases_of_each, able_is, not_none}

-- what a test for emptiness says
pub some_tested : (os : List Offer) (b : Bool) → b ≡ (length os == 0) → b ≡ false → 0 < length os
some_tested [] b is e = absurd (let wrong : true ≡ false = sym is ∙ e in cc)
some_tested (o ∷ os) b is e = omega arith

pub none_tested : (os : List Offer) (b : Bool) → b ≡ (length os == 0) → b ≡ true → length os ≡ 0
none_tested [] b is e = refl
none_tested (o ∷ os) b is e = absurd (let wrong : (length (o ∷ os) == 0) ≡ true = sym is ∙ e in let zero_is = eqb-true (length (o ∷ os)) 0 wrong in omega (arith, zero_is))

pub some_first : (os : List Offer) → 0 < length os → 0 < first_len os
some_first [] some = absurd (omega (arith, some))
some_first (o ∷ os) some = omega arith

module _ (s : Subject) (budget : ℕ) (g : Situation) (tree : AreTree s g.core.instances) where
  abbrev able : List Path → List Path
  able = filter (is_able s budget g)

  no_offers : (os : List Offer) → AreOffersOfEach s budget g [] os → os ≡ []
  no_offers [] none = refl
  no_offers (o ∷ os) each = elim each [ ]

  -- no offers are those of no instances
  pub nothing_left : (ms : List Path) (os : List Offer) → os ≡ [] → AreOffersOfEach s budget g ms os → ms ≡ []
  nothing_left ms os e each = by (cases_of_each s budget g tree ms os each)
    where
      by : (ms ≡ []) ⊎ AreCut s budget g tree ms os → ms ≡ []
      by (inl is) = is
      by (inr c) = absurd (not_none s budget g tree c.first (subst (λ xs. AreOffers s budget g c.first xs) (ap (λ xs. take (first_len xs) xs) e) c.of_first))

  none_by : (os : List Offer) → length os ≡ 0 → os ≡ []
  none_by [] e = refl
  none_by (o ∷ os) e = absurd (omega (arith, e))

  some_by : (os : List Offer) → 0 < length os → os ≢ []
  some_by os some e = absurd (omega (arith, some, ap length e))

  some_offers : (ms : List Path) (os : List Offer) → os ≢ [] → AreOffersOfEach s budget g ms os → AreCut s budget g tree ms os
  some_offers ms os some each = by (cases_of_each s budget g tree ms os each)
    where
      by : (ms ≡ []) ⊎ AreCut s budget g tree ms os → AreCut s budget g tree ms os
      by (inl is) = absurd (some (no_offers os (subst (λ ps. AreOffersOfEach s budget g ps os) is each)))
      by (inr c) = c

  -- of offers that are cut behind those of the first instance, what the two parts are of
  pub record AreParts (ms : List Path) (front back : List Offer) : Type 0 where
    pub first : Path
    pub others : List Path
    pub are : ms ≡ first ∷ others
    pub of_first : AreOffers s budget g first front
    pub of_others : AreOffersOfEach s budget g others back

  -- what is known of the parts where it is known of the whole
  abbrev pub Cuts : List Offer → List Offer → List Offer → Type 0
  Cuts os front back = (ms : List Path) → AreOffersOfEach s budget g ms os → AreParts ms front back

  pub parts_of : (os front back : List Offer) (n : ℕ) → 0 < length os → n ≡ first_len os → front ≡ take n os → back ≡ drop n os → Cuts os front back
  parts_of os front back n some is_n is_front is_back ms each =
      let c = some_offers ms os (some_by os some) each in
      record {
        first = c.first;
        others = c.others;
        are = c.are;
        of_first = subst (AreOffers s budget g c.first) (sym (is_front ∙ ap (λ k. take k os) is_n)) c.of_first;
        of_others = subst (AreOffersOfEach s budget g c.others) (sym (is_back ∙ ap (λ k. drop k os) is_n)) c.of_others;
      }

  -- whether the first instance is able, its offers say
  able_left : (left : List Path) (front back : List Offer) (c : AreParts left front back) (b : Bool) → offers_some front ≡ b → able left ≡ cond b (c.first ∷ able c.others) (able c.others)
  able_left left front back c b e =
      ap able c.are ∙ ap (λ t. cond t (c.first ∷ able c.others) (able c.others)) (sym (able_is s budget g tree c.first front c.of_first) ∙ e)

  -- ---- counting

  pub count_more : (ms : List Path) (count : ℕ) (rest front back : List Offer) → Cuts rest front back → AreCounted s budget g ms count rest → offers_some front ≡ true
      → AreCounted s budget g ms (count + 1) back
  count_more ms count rest front back cuts so_far e =
      let c = cuts so_far.left so_far.offers in
      let more = ap length (able_left so_far.left front back c true e) in
      record { left = c.others; offers = c.of_others; all = omega (arith, more, so_far.all) }

  pub count_same : (ms : List Path) (count : ℕ) (rest front back : List Offer) → Cuts rest front back → AreCounted s budget g ms count rest → offers_some front ≡ false
      → AreCounted s budget g ms count back
  count_same ms count rest front back cuts so_far e =
      let c = cuts so_far.left so_far.offers in
      let same = ap length (able_left so_far.left front back c false e) in
      record { left = c.others; offers = c.of_others; all = omega (arith, same, so_far.all) }

  pub count_all : (ms : List Path) (count : ℕ) (rest : List Offer) → length rest ≡ 0 → AreCounted s budget g ms count rest → count ≡ length (able ms)
  count_all ms count rest none_left so_far =
      let none_able = ap (λ ps. length (able ps)) (nothing_left so_far.left rest (none_by rest none_left) so_far.offers) in
      omega (arith, none_able, so_far.all)

  -- ---- the able one with a number

  pub left_behind : (ms : List Path) (number now : ℕ) (rest front back : List Offer) → Cuts rest front back → IsLeft s budget g ms number now rest → offers_some front ≡ false
      → IsLeft s budget g ms number now back
  left_behind ms number now rest front back cuts is e =
      let c = cuts is.left is.offers in
      record { left = c.others; offers = c.of_others; able = sym (ap (λ ps. slice_get ps now) (able_left is.left front back c false e)) ∙ is.able }

  pub left_before : (ms : List Path) (number now : ℕ) (rest front back : List Offer) → Cuts rest front back → IsLeft s budget g ms number now rest → offers_some front ≡ true → 0 < now
      → IsLeft s budget g ms number (now - 1) back
  left_before ms number zero rest front back cuts is e some = absurd (omega (arith, some))
  left_before ms number (suc k) rest front back cuts is e some =
      let c = cuts is.left is.offers in
      let lower : suc k - 1 ≡ k = omega arith in
      record { left = c.others; offers = c.of_others; able = ap (slice_get (able c.others)) lower ∙ sym (ap (λ ps. slice_get ps (suc k)) (able_left is.left front back c true e)) ∙ is.able }

  pub left_here : (ms : List Path) (number now : ℕ) (rest front back : List Offer) → Cuts rest front back → IsLeft s budget g ms number now rest → offers_some front ≡ true → now ≡ 0
      → IsAbleOne s budget g ms number front
  left_here ms number now rest front back cuts is e zero_is =
      let c = cuts is.left is.offers in
      record { path = c.first; able = sym is.able ∙ ap (slice_get (able is.left)) zero_is ∙ ap (λ ps. slice_get ps 0) (able_left is.left front back c true e); offers = c.of_first }

  within : {A : Type 0} (xs : List A) (n : ℕ) → n < length xs → slice_get xs n ≢ None
  within [] n h e = absurd (omega arith)
  within (x ∷ xs) zero h e = absurd (cc)
  within (x ∷ xs) (suc n) h e = within xs n (omega arith) e

  pub left_nowhere : (ms : List Path) (number now : ℕ) (rest : List Offer) → length rest ≡ 0 → number < length (able ms) → IsLeft s budget g ms number now rest → ⊥
  left_nowhere ms number now rest none_left less is =
      within (able ms) number less (sym is.able ∙ ap (λ ps. slice_get (able ps) now) (nothing_left is.left rest (none_by rest none_left) is.offers))

  -- ---- choosing of each

  module _ {C : Type 0} (draw : Draw C) where
    pub chosen_more : (ms : List Path) (c : C) (before so_far : List Pair) (now : C) (rest front back : List Offer) → Cuts rest front back
        → HasChosenSoFar draw s budget g ms c before so_far now rest
        → (then : List Pair) (after : C) → ((m : Path) → AreOffers s budget g m front → HasChosen draw s budget g m now so_far then after)
        → HasChosenSoFar draw s budget g ms c before then after back
    chosen_more ms c before so_far now rest front back cuts is then after chooses =
        let k = cuts is.left is.offers in
        let first = chooses k.first k.of_first in
        record {
          left = k.others;
          offers = k.of_others;
          goes_on = λ more last each.
              let all = schedule.more k.first k.others now first.takes after more last first.chosen each in
              let r = is.goes_on (first.takes ++ more) last (subst (λ ps. ChosenOfEach draw s budget g ps now (first.takes ++ more) last) (sym k.are) all) in
              subst (λ ts. HasChosenOfEach draw s budget g ms c before ts last) (sym (append_assoc so_far first.takes more) ∙ ap (λ ts. ts ++ more) (sym first.behind)) r;
        }

    pub chosen_all : (ms : List Path) (c : C) (before so_far : List Pair) (now : C) (rest : List Offer) → length rest ≡ 0 → HasChosenSoFar draw s budget g ms c before so_far now rest
        → HasChosenOfEach draw s budget g ms c before so_far now
    chosen_all ms c before so_far now rest none_left is =
        let none_there = nothing_left is.left rest (none_by rest none_left) is.offers in
        let r = is.goes_on [] now (subst (λ ps. ChosenOfEach draw s budget g ps now [] now) (sym none_there) (schedule.none now)) in
        subst (λ ts. HasChosenOfEach draw s budget g ms c before ts now) (append-nil so_far) r

    pub chosen_none : (ms : List Path) (c : C) (before : List Pair) (os : List Offer) → AreOffersOfEach s budget g ms os → HasChosenSoFar draw s budget g ms c before before c os
    chosen_none ms c before os each = record { left = ms; offers = each; goes_on = λ more last chosen. record { takes = more; chosen = chosen; behind = refl } }
