use Rattle.std.proofs.Common.{ap, ◌∙◌}
use Rattle.estelle_model.specs.Belonging.{may_store}
use Rattle.estelle_model.specs.Jobs.{instance_of}
use Rattle.body_state.proofs.WalkLemmas.{put_gone, put_reached, put_unfit, put_some}
use Rattle.body_state.proofs.walk.Walk.put_of.Goals as goal

pub returns-in_default : goal.returns-in_default
returns-in_default c = put_gone c.self.inside c.args.self.now c.self.view_is c.args.path.now c.args.variable c.args.way.now c.args.value c.args.fit c.in_default.ensures

pub returns-then-not-may_store : goal.returns-then-not-may_store
returns-then-not-may_store c = put_reached c.self.inside c.args.self.now c.self.view_is c.args.path.now c.args.variable c.args.way.now c.args.value c.args.fit (instance_of c.in-Some.part.now) c.in-Some.ensures c.in_default-fit.is
    ∙ put_unfit c.self.inside c.args.self.now c.self.view_is c.args.path.now c.args.variable c.args.way.now c.args.value (instance_of c.in-Some.part.now) c.may_store.result c.in-Some.ensures
    (c.may_store.ensures ∙ ap (λ ts. may_store ts c.args.variable c.args.way.now c.args.value) c.types.ensures) c.if-not-may_store.true

pub returns : goal.returns
returns c = put_reached c.self.inside c.args.self.now c.self.view_is c.args.path.now c.args.variable c.args.way.now c.args.value c.args.fit (instance_of c.in-Some.part.now) c.in-Some.ensures c.in_default-fit.is
    ∙ put_some c.self.inside c.args.self.now c.self.view_is c.args.path.now c.args.variable c.args.way.now c.args.value (instance_of c.in-Some.part.now) c.may_store.result c.alter.new.self c.in-Some.ensures
    (c.may_store.ensures ∙ ap (λ ts. may_store ts c.args.variable c.args.way.now c.args.value) c.types.ensures) c.if-not-may_store.false c.in_ok-alter.ensures
