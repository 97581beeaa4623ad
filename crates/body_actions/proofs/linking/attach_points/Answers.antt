use Rattle.body_actions.proofs.ActionLemmas.{attach_refused, attach_taken, attach_made}
use Rattle.body_actions.proofs.linking.attach_points.Goals as goal

pub returns-then-not-may_attach : goal.returns-then-not-may_attach
returns-then-not-may_attach c = attach_refused c.args.bodies.now c.args.upper c.args.lower c.args.walk.now _ c.may_attach.ensures c.if-not-may_attach.true

pub returns-then-are_taken : goal.returns-then-are_taken
returns-then-are_taken c = attach_taken c.args.bodies.now c.args.upper c.args.lower c.args.walk.now _ _ c.may_attach.ensures c.if-not-may_attach.false c.are_taken.ensures c.if-are_taken.true

pub returns : goal.returns
returns c = attach_made c.args.bodies.now c.args.upper c.args.lower c.args.walk.now _ _ c.make.new.self c.may_attach.ensures c.if-not-may_attach.false c.are_taken.ensures c.if-are_taken.false c.in_ok-make.ensures
