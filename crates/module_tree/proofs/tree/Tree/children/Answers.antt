use Rattle.std.proofs.Common.{ap, ◌∙◌, refl}
use Rattle.module_tree.proofs.Standing.{children_are, not_there, not_none}
use Rattle.module_tree.proofs.tree.Tree.children.Goals as goal

pub returns-then-not-contains_key-clause-no_such :
    goal.returns-then-not-contains_key-clause-no_such
returns-then-not-contains_key-clause-no_such g c = (
  λ _. not_there c.args.self.now c.self.inside.nodes.entries (ap (λ t. t.instances) c.self.view_is) _ _ _ c.contains_key.ensures c.if-not-contains_key.true c.items.ensures,
  λ _. refl,
)

pub returns-in-Ok-clause-children : goal.returns-in-Ok-clause-children
returns-in-Ok-clause-children g c = c.in-Ok.ensures ∙ children_are c.args.self.now c.self.inside.nodes.entries (ap (λ t. t.instances) c.self.view_is) c.args.path.now

pub returns-in-Ok-clause-no_such : goal.returns-in-Ok-clause-no_such
returns-in-Ok-clause-no_such g c = (
  λ e. absurd (cc),
  λ none. absurd (not_none c.args.self.now c.self.inside.nodes.entries (ap (λ t. t.instances) c.self.view_is) _ _ _ c.contains_key.ensures c.if-not-contains_key.false c.items.ensures none),
)

pub returns-in-Err-clause-no_such : goal.returns-in-Err-clause-no_such
returns-in-Err-clause-no_such g c = (
  λ e. absurd (cc),
  λ none. absurd (not_none c.args.self.now c.self.inside.nodes.entries (ap (λ t. t.instances) c.self.view_is) _ _ _ c.contains_key.ensures c.if-not-contains_key.false c.items.ensures none),
)
