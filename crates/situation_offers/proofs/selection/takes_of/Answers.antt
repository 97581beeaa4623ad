use Rattle.std.proofs.Common.{sym, subst}
use Rattle.transition_select.specs.Offers.{AreOffers}
use Rattle.situation_offers.proofs.selection.takes_of.Goals as goal

pub returns : goal.returns
returns g c = λ s budget situation m tree are.
    c.choose.ensures s budget situation m tree (subst (AreOffers s budget situation m) (sym c.deref.ensures.value) (c.in_ok-offers.ensures s budget situation m are))
