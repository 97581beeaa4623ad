use Rattle.offer_table.proofs.TableLaws.{unmarked}
use Rattle.offer_table.proofs.offers.Offers.unmark.Goals as goal

pub invariant_of-self : goal.invariant_of-self
invariant_of-self c = unmarked _ _ _ _ c.self.invariant c.remove_below.ensures.removed
