use Rattle.body_actions.proofs.ActionLemmas.{connect_refused, connect_taken, connect_made}
use Rattle.body_actions.proofs.linking.connect_points.Goals as goal

pub returns-then-not-may_connect : goal.returns-then-not-may_connect
returns-then-not-may_connect c = connect_refused c.args.bodies.now c.args.here.now.path c.args.first c.args.second c.args.walk.now _ c.may_connect.ensures c.if-not-may_connect.true

pub returns-then-are_bound : goal.returns-then-are_bound
returns-then-are_bound c = connect_taken c.args.bodies.now c.args.here.now.path c.args.first c.args.second c.args.walk.now _ _ c.may_connect.ensures c.if-not-may_connect.false c.are_bound.ensures c.if-are_bound.true

pub returns : goal.returns
returns c = connect_made c.args.bodies.now c.args.here.now.path c.args.first c.args.second c.args.walk.now _ _ c.make.new.self c.may_connect.ensures c.if-not-may_connect.false c.are_bound.ensures c.if-are_bound.false c.in_ok-make.ensures
