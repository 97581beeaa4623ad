use Rattle.std.proofs.Common.{◌≡◌, ℕ, map as each, take}
use Rattle.std.specs.List.{AllByRecursion}
use Rattle.estelle_model.specs.Subject.{Subject}
use Rattle.estelle_model.specs.Situation.{Situation}
use Rattle.transition_select.specs.Offers.{IsOffer}
use Rattle.transition_select.specs.Countings.{IsCounting}
use Rattle.transition_select.proofs.countings.offers_of.Given as goal

abbrev pub invariant-loop-counting : goal.invariant-loop-counting
invariant-loop-counting l = record {
  paths : each (λ o. o.path) l.offers.items ≡ each (λ c. c.path) (take l.counting-index l.counts);
  offers : (s : Subject) (budget : ℕ) (g : Situation) → AllByRecursion (IsCounting s budget g) l.counts → AllByRecursion (IsOffer s budget g) l.offers.items;
}
