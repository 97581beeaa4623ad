use Rattle.offer_table.proofs.TableLaws.{empty_table}
use Rattle.offer_table.proofs.offers.Offers.none.Goals as goal

pub invariant_of-result : goal.invariant_of-result
invariant_of-result c = empty_table _ _ _ c.new.ensures.items c.new-2.ensures.items
