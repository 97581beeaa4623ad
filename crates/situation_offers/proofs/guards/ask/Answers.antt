use Rattle.std.proofs.Common.{◌∙◌, map as each, sym, ap, subst}
use Rattle.std.specs.Borrow.{Bor}
use Rattle.estelle_model.specs.declared.image.Part.{Part}
use Rattle.situation_offers.specs.Asked.{AreAll}
use Rattle.situation_offers.proofs.Standing.{all_parts}
use Rattle.situation_offers.proofs.guards.ask.Goals as goal

pub returns-in-Ok : goal.returns-in-Ok
returns-in-Ok t c = λ g stands legal running is_system.
    c.ask_each.ensures g c.args.system.now (record { shown = record { stands = stands; legal = legal; running = running }; is_system = is_system })
    (subst (AreAll g c.args.system.now) (sym (ap (each (λ (r : Bor Part). r.now)) c.deref.ensures.value ∙ c.in-Ok.ensures.parts))
    (all_parts c.args.shared.now.tree g stands.instances c.args.system.now))
