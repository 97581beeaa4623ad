use Rattle.body_actions.proofs.ChildLemmas.{child_begun}
use Rattle.body_actions.proofs.children.begin_child.Goals as goal

pub returns : goal.returns
returns c = λ s b i is there. child_begun s c.args.parent.now c.in_ok-copy-2.field-0 c.in_ok-path.path c.in_ok-copy.field-0 c.args.variable c.args.number c.in_ok-birth-in-Some.birth b c.args.body.now c.args.values c.args.walk.now c.make.new.self i c.in-Some.part.now c.in_ok-part.part
    is there c.in-Some.ensures c.in_ok-birth-in-Some.ensures c.in_ok-part.ensures c.in_ok-copy-2.ensures c.in_ok-path.ensures c.in_ok-make.ensures
