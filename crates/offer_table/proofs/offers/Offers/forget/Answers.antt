use Rattle.offer_table.proofs.TableLaws.{forgotten}
use Rattle.offer_table.proofs.offers.Offers.forget.Goals as goal

pub invariant_of-self : goal.invariant_of-self
invariant_of-self c = forgotten _ _ _ _ _ _ c.self.invariant c.remove_below.ensures.removed c.remove_below-2.ensures.removed
