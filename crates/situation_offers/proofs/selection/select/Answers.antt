use Rattle.std.proofs.Common.{sym, subst}
use Rattle.estelle_model.specs.Delays.{renew}
use Rattle.estelle_model_legality.proofs.Choosing as choosing
use Rattle.estelle_model_legality.proofs.Delays.{renewed_bounded}
use Rattle.estelle_model_legality.proofs.Systems.{legal_tree}
use Rattle.transition_select.specs.Countings.{AreCountings}
use Rattle.situation_offers.specs.Asked.{IsOffering}
use Rattle.situation_offers.proofs.selection.select.Goals as goal

pub returns-in_ok-takes-in-Counts-clause-selected : goal.returns-in_ok-takes-in-Counts-clause-selected
returns-in_ok-takes-in-Counts-clause-selected t c = λ g of is.
    let s = c.args.view.now.program.now in
    let b = c.args.view.now.budget in
    let m = c.args.system.now in
    let now = c.args.now in
    let after = renew s b g m now in
    let tree = legal_tree s g.core.instances of.legal.instances in
    let its = subst (λ a. IsOffering s b g m now a) c.in-Counts.is (c.in_ok-offering.ensures g of.stands of.legal of.running is) in
    let chosen = c.in_ok-takes-in-Counts.ensures s b after m tree (subst (AreCountings s b after m) (sym c.deref.ensures.value) its.0) in
    record {
      sound = its.1;
      chosen = chosen;
      selects = choosing.selected s b after tree (renewed_bounded s b g m now of.legal.timers) t.H.Chooser.draw chosen;
      wanted = its.2;
      different = its.3;
    }

pub returns-in-Faults-clause-refused : goal.returns-in-Faults-clause-refused
returns-in-Faults-clause-refused t c = λ g of is.
    subst (λ a. IsOffering c.args.view.now.program.now c.args.view.now.budget g c.args.system.now c.args.now a) c.in-Faults.is (c.in_ok-offering.ensures g of.stands of.legal of.running is)
