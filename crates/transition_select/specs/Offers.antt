-- What instances offer a system that selects, in path order.
use Rattle.std.specs.Prelude.{◌≡◌, ℕ, suc, Bool, true, false, if◌then◌else◌, List, [], ◌∷◌, ◌++◌, map as each}
use Rattle.std.specs.List.{prefix_len, AllByRecursion}
use Rattle.estelle_tree.specs.Paths.{Path, is_inside}
use Rattle.estelle_model.specs.Jobs.{IsThere}
use Rattle.estelle_model.specs.Subject.{Subject}
use Rattle.estelle_model.specs.Situation.{Situation}
use Rattle.estelle_model.specs.Attributes.{IsProcess, IsActivity, is_empty}
use Rattle.estelle_model.specs.Schedule.{offered}
use Rattle.transition_select.specs.declared.offers.Offer.{Offer}
use Rattle.transition_select.specs.Blocks.{at_and_below}

-- what is taken of an instance's children: of a process what each selects, of an activity what one does
abbrev pub IsOfKind : Subject → Situation → Path → Bool → Type 0
IsOfKind s g m true = IsProcess s g m
IsOfKind s g m false = IsActivity s g m

-- the transitions that an instance offers
pub record IsOffer (s : Subject) (budget : ℕ) (g : Situation) (o : Offer) : Type 0 where
  pub kind : IsOfKind s g o.path o.of_process
  pub offered : o.offered.items ≡ offered s budget g o.path

-- those of an instance that is there and of all below it
pub record AreOffers (s : Subject) (budget : ℕ) (g : Situation) (m : Path) (os : List Offer) : Type 0 where
  pub there : IsThere g.core.instances m
  pub paths : each (λ o. o.path) os ≡ at_and_below g m
  pub offers : AllByRecursion (IsOffer s budget g) os

-- those of instances side by side and of all below them
pub data AreOffersOfEach (s : Subject) (budget : ℕ) (g : Situation) : List Path → List Offer → Type 0 where
  none : AreOffersOfEach s budget g [] []
  more : (m : Path) (ms : List Path) (os others : List Offer) → AreOffers s budget g m os → AllByRecursion (λ o. is_inside m o.path ≡ false) others
      → AreOffersOfEach s budget g ms others → AreOffersOfEach s budget g (m ∷ ms) (os ++ others)

-- how many of the offers, in a row from the first on, are at or below an instance
abbrev pub block_len : Path → List Offer → ℕ
block_len m = prefix_len (λ o. is_inside m o.path)

-- some instance offers something
abbrev pub offers_some : List Offer → Bool
offers_some [] = false
offers_some (o ∷ os) = if is_empty o.offered.items then offers_some os else true

-- how many there are of the first instance and of all below it
abbrev pub first_len : List Offer → ℕ
first_len [] = 0
first_len (o ∷ os) = suc (block_len o.path os)
