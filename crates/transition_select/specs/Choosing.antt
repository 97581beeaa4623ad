-- What is chosen of offers.
use Rattle.std.specs.Prelude.{◌≡◌, ◌+◌, ℕ, List, [], ◌∷◌, ◌++◌, length, filter, slice_get, Some}
use Rattle.estelle_tree.specs.declared.transition.Pair.{Pair}
use Rattle.estelle_tree.specs.Paths.{Path}
use Rattle.estelle_model.specs.Subject.{Subject}
use Rattle.estelle_model.specs.Situation.{Situation}
use Rattle.estelle_tree.specs.Timers.{pair}
use Rattle.estelle_model.specs.Choosers.{Draw, Picks}
use Rattle.estelle_model.specs.Schedule.{is_able, Chosen, ChosenOfEach}
use Rattle.transition_select.specs.declared.offers.Offer.{Offer}
use Rattle.transition_select.specs.Offers.{AreOffers, AreOffersOfEach}

-- from an instance downwards these are chosen, behind those so far
pub record HasChosen {C : Type 0} (draw : Draw C) (s : Subject) (budget : ℕ) (g : Situation) (m : Path) (c : C) (before after : List Pair) (rest : C) : Type 0 where
  pub takes : List Pair
  pub chosen : Chosen draw s budget g m c takes rest
  pub behind : after ≡ before ++ takes

-- from instances side by side downwards
pub record HasChosenOfEach {C : Type 0} (draw : Draw C) (s : Subject) (budget : ℕ) (g : Situation) (ms : List Path) (c : C) (before after : List Pair) (rest : C) : Type 0 where
  pub takes : List Pair
  pub chosen : ChosenOfEach draw s budget g ms c takes rest
  pub behind : after ≡ before ++ takes

-- from one of the able ones of instances side by side downwards, and nothing where none is
pub data HasChosenOfOne {C : Type 0} (draw : Draw C) (s : Subject) (budget : ℕ) (g : Situation) (ms : List Path) (c : C) (before after : List Pair) (rest : C) : Type 0 where
  none : filter (is_able s budget g) ms ≡ [] → after ≡ before → rest ≡ c → HasChosenOfOne draw s budget g ms c before after rest
  one : (m : Path) (asked : C) → Picks draw c (filter (is_able s budget g) ms) m asked → HasChosen draw s budget g m asked before after rest → HasChosenOfOne draw s budget g ms c before after rest

-- of what an instance offers one is taken, behind those so far
pub record HasTaken {C : Type 0} (draw : Draw C) (o : Offer) (c : C) (before after : List Pair) (rest : C) : Type 0 where
  pub number : ℕ
  pub picked : Picks draw c o.offered.items number rest
  pub behind : after ≡ before ++ pair o.path number ∷ []

-- the part of the offers that is of the able instance with a number
pub record IsAbleOne (s : Subject) (budget : ℕ) (g : Situation) (ms : List Path) (number : ℕ) (os : List Offer) : Type 0 where
  pub path : Path
  pub able : slice_get (filter (is_able s budget g) ms) number ≡ Some path
  pub offers : AreOffers s budget g path os

-- ---- on the way through instances side by side

-- so many able ones were counted, and the others are those of the rest of the offers
pub record AreCounted (s : Subject) (budget : ℕ) (g : Situation) (ms : List Path) (count : ℕ) (rest : List Offer) : Type 0 where
  pub left : List Path
  pub offers : AreOffersOfEach s budget g left rest
  pub all : count + length (filter (is_able s budget g) left) ≡ length (filter (is_able s budget g) ms)

-- the able one with a number is one of the rest
pub record IsLeft (s : Subject) (budget : ℕ) (g : Situation) (ms : List Path) (number now : ℕ) (rest : List Offer) : Type 0 where
  pub left : List Path
  pub offers : AreOffersOfEach s budget g left rest
  pub able : slice_get (filter (is_able s budget g) left) now ≡ slice_get (filter (is_able s budget g) ms) number

-- what is chosen of the rest stands behind what was chosen of the others
pub record HasChosenSoFar {C : Type 0} (draw : Draw C) (s : Subject) (budget : ℕ) (g : Situation) (ms : List Path) (c : C) (before so_far : List Pair) (now : C) (rest : List Offer) : Type 0 where
  pub left : List Path
  pub offers : AreOffersOfEach s budget g left rest
  pub goes_on : (more : List Pair) (after : C) → ChosenOfEach draw s budget g left now more after → HasChosenOfEach draw s budget g ms c before (so_far ++ more) after
