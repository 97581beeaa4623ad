use Rattle.std.proofs.Common.{◌∙◌, ap, List, Option}
use Rattle.estelle_tree.specs.declared.link.Link.{Link}
use Rattle.estelle_model.specs.declared.meaning.InteractionPoint.{InteractionPoint}
use Rattle.estelle_model.specs.InteractionPoints.{external_at}
use Rattle.estelle_model.specs.Actions.{is_upper}
use Rattle.body_actions.proofs.ActionLemmas.{detach_refused, detach_absent, detach_made}
use Rattle.body_actions.proofs.linking.detach_point.Goals as goal

pub returns-then-not-external_at : goal.returns-then-not-external_at
returns-then-not-external_at c = detach_refused c.args.bodies.now c.args.upper c.args.walk.now _ (c.external_at.ensures ∙ ap (λ (o : Option InteractionPoint). external_at o) c.point.ensures) c.if-not-external_at.true

pub returns-then-not-is_upper : goal.returns-then-not-is_upper
returns-then-not-is_upper c = detach_absent c.args.bodies.now c.args.upper c.args.walk.now _ _ (c.external_at.ensures ∙ ap (λ (o : Option InteractionPoint). external_at o) c.point.ensures) c.if-not-external_at.false (c.is_upper.ensures ∙ ap (λ (ls : List Link). is_upper c.args.upper ls) c.links.ensures) c.if-not-is_upper.true

pub returns : goal.returns
returns c = detach_made c.args.bodies.now c.args.upper c.args.walk.now _ _ c.make.new.self (c.external_at.ensures ∙ ap (λ (o : Option InteractionPoint). external_at o) c.point.ensures) c.if-not-external_at.false (c.is_upper.ensures ∙ ap (λ (ls : List Link). is_upper c.args.upper ls) c.links.ensures) c.if-not-is_upper.false c.in_ok-make.ensures
