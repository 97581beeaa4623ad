use Rattle.std.proofs.Common.{◌∙◌, sym, ap, subst}
use Rattle.std.specs.Prelude.{option_and_then}
use Rattle.estelle_model.specs.Bodies.{BodyAlone}
use Rattle.estelle_model.specs.Subject.{body}
use Rattle.estelle_model.specs.Attributes.{attribute, is_process}
use Rattle.estelle_model.specs.Delays.{renew}
use Rattle.transition_select.specs.Offers.{IsOfKind}
use Rattle.transition_select.specs.Countings.{AreCountablesOf}
use Rattle.situation_offers.proofs.Asking.{body_of}
use Rattle.situation_offers.proofs.Active.{kind_is}
use Rattle.situation_offers.proofs.guards.counting.Goals as goal

pub returns : goal.returns
returns c = λ g system now budget legal is at are.
    let s = c.args.program.now in
    let of = body_of g c.args.part.now at.of_instance in
    let kind = kind_is s g legal system c.args.part.now.path is at.inside of.0 of.1 c.is_of_process.result
    (c.is_of_process.ensures ∙ ap (λ k. is_process (option_and_then (λ (x : BodyAlone). attribute s k) (body s k))) (sym of.2)) in
    record {
      path = c.in_ok-copy.ensures;
      counting = record {
        kind = subst (λ p. IsOfKind s g p c.is_of_process.result) (sym c.in_ok-copy.ensures) kind;
        transitions = subst (λ p. AreCountablesOf s budget (renew s budget g system now) p c.args.transitions.items) (sym c.in_ok-copy.ensures) are;
      };
    }
