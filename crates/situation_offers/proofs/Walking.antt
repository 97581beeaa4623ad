-- Instances that are asked one after another, as the items of a list.
use Rattle.std.proofs.Common.{◌≡◌, ℕ, zero, suc, ◌+◌, ◌<◌, ◌≤◌, List, [], ◌∷◌, ◌++◌, map as each, length, take, drop, get_or, sym, ap, subst, ◌∙◌, arith}
use Rattle.std.specs.Prelude.{IsTrue}
use Rattle.std.specs.List.{AllByRecursion}
use Rattle.std.proofs.lemmas.List.{take_all}
use Rattle.pascal_values.specs.declared.fault.Fault.{Fault}
use Rattle.estelle_tree.specs.declared.transition.Wanted.{Wanted}
use Rattle.estelle_tree.specs.Paths.{Path, is_inside}
use Rattle.estelle_model.specs.Subject.{Subject}
use Rattle.estelle_model.specs.Situation.{Situation}
use Rattle.estelle_model.specs.Delays.{wanted, renew}
use Rattle.estelle_model.specs.Jobs.{IsThere}
use Rattle.estelle_model.specs.Runs.{NoGuardFaults, IsFirstFault}
use Rattle.transition_select.specs.declared.countings.Counting.{Counting}
use Rattle.transition_select.specs.Blocks.{at_and_below}
use Rattle.transition_select.specs.Countings.{IsCounting, AreCountings}
use Rattle.transition_select.proofs.Offering.{each_more}
use Rattle.delay_timers.specs.Moments.{AreDifferent}
use Rattle.situation_offers.specs.Guards.{NoneFaults, IsFirst, wanted_of, HaveCounted}
use Rattle.situation_offers.proofs.Counts as counts

-- what holds of what each item stands for holds at one
pub mapped_at : {A B : Type 0} (P : B → Type 0) (h : A → B) (xs : List A) (k : ℕ) (a : A) → k < length xs → a ≡ get_or xs k a → AllByRecursion P (each h xs) → P (h a)
mapped_at P h [] k a less is all = absurd (omega arith)
mapped_at P h (x ∷ xs) zero a less is all = subst (λ y. P (h y)) (sym is) all.0
mapped_at P h (x ∷ xs) (suc k) a less is all = mapped_at P h xs k a (omega arith) is all.1

module _ {A : Type 0} (path : A → Path) where
  parted : (xs : List A) (k : ℕ) (a : A) → k < length xs → a ≡ get_or xs k a → each path xs ≡ each path (take k xs) ++ path a ∷ each path (drop (suc k) xs)
  parted [] k a less is = absurd (omega arith)
  parted (x ∷ xs) zero a less is = ap (λ z. path z ∷ each path xs) (sym is)
  parted (x ∷ xs) (suc k) a less is = ap (λ ps. path x ∷ ps) (parted xs k a (omega arith) is)

  module _ (s : Subject) (budget : ℕ) (g : Situation) (system : Path) (now : ℕ) (xs : List A) (k : ℕ) (cs : List Counting) (ws : List Wanted) (have : HaveCounted s budget g system now (each path (take k xs)) cs ws) where
    pub one_more : (a : A) → k < length xs → a ≡ get_or xs k a → (c : Counting) → c.path ≡ path a → IsCounting s budget (renew s budget g system now) c → NoneFaults s budget g (path a)
        → (wants : List Wanted) → wants ≡ ws ++ wanted_of s budget g (path a) → (after : List Counting) → after ≡ cs ++ c ∷ [] → HaveCounted s budget g system now (each path (take (k + 1) xs)) after wants
    one_more a less is c same counting none wants more_wants after pushed =
        subst (λ ms. HaveCounted s budget g system now ms after wants) (sym (each_more path xs k a less is))
        (subst (λ ds. HaveCounted s budget g system now (each path (take k xs) ++ path a ∷ []) ds wants) (sym pushed) (counts.one_more s budget g system now (each path (take k xs)) cs ws wants (path a) c have same counting none more_wants))

    module _ (all : each path xs ≡ at_and_below g system) where
      pub first_fault : (a : A) → k < length xs → a ≡ get_or xs k a → IsTrue (is_inside system (path a)) → (n : ℕ) (kind : Fault) → IsFirst s budget g (path a) n kind → IsFirstFault s budget g system (path a) n kind
      first_fault a less is inside n kind fault = counts.first_of_all s budget g system now (each path (take k xs)) (path a) (each path (drop (suc k) xs)) n kind (sym all ∙ parted xs k a less is) inside have.sound fault

      pub all_asked : IsThere g.core.instances system → length xs ≤ k → AreCountings s budget (renew s budget g system now) system cs × NoGuardFaults s budget g system × (ws ≡ wanted s budget g system) × AreDifferent ws
      all_asked there ends = counts.all_counted s budget g system now cs ws there (subst (λ ms. HaveCounted s budget g system now ms cs ws) (ap (each path) (take_all k xs ends) ∙ all) have)
