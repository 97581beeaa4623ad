use Rattle.std.proofs.Common.{◌∙◌, ap, List, Option}
use Rattle.estelle_tree.specs.declared.link.Link.{Link}
use Rattle.estelle_model.specs.declared.meaning.InteractionPoint.{InteractionPoint}
use Rattle.estelle_model.specs.InteractionPoints.{connectable_at}
use Rattle.estelle_model.specs.Actions.{is_connected}
use Rattle.body_actions.proofs.ActionLemmas.{disconnect_refused, disconnect_absent, disconnect_made}
use Rattle.body_actions.proofs.linking.disconnect_point.Goals as goal

pub returns-then-not-connectable_at : goal.returns-then-not-connectable_at
returns-then-not-connectable_at c = disconnect_refused c.args.bodies.now c.args.here.now.path c.args.a c.args.walk.now _ (c.connectable_at.ensures ∙ ap (λ (o : Option InteractionPoint). connectable_at c.args.here.now.path c.args.a o) c.point.ensures) c.if-not-connectable_at.true

pub returns-then-not-is_connected : goal.returns-then-not-is_connected
returns-then-not-is_connected c = disconnect_absent c.args.bodies.now c.args.here.now.path c.args.a c.args.walk.now _ _ (c.connectable_at.ensures ∙ ap (λ (o : Option InteractionPoint). connectable_at c.args.here.now.path c.args.a o) c.point.ensures) c.if-not-connectable_at.false (c.is_connected.ensures ∙ ap (λ (ls : List Link). is_connected c.args.a ls) c.links.ensures) c.if-not-is_connected.true

pub returns : goal.returns
returns c = disconnect_made c.args.bodies.now c.args.here.now.path c.args.a c.args.walk.now _ _ c.make.new.self (c.connectable_at.ensures ∙ ap (λ (o : Option InteractionPoint). connectable_at c.args.here.now.path c.args.a o) c.point.ensures) c.if-not-connectable_at.false (c.is_connected.ensures ∙ ap (λ (ls : List Link). is_connected c.args.a ls) c.links.ensures) c.if-not-is_connected.false c.in_ok-make.ensures
