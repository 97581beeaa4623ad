use Rattle.std.proofs.Common.{ap, sym, ◌∙◌, refl}
use Rattle.module_tree.specs.Trees.{parts_below}
use Rattle.module_tree.proofs.Standing.{not_there, not_none}
use Rattle.module_tree.proofs.tree.Tree.below.Goals as goal

pub returns-then-not-contains_key-clause-no_such :
    goal.returns-then-not-contains_key-clause-no_such
returns-then-not-contains_key-clause-no_such g c = (
  λ _. not_there c.args.self.now c.self.inside.nodes.entries (ap (λ t. t.instances) c.self.view_is) _ _ _ c.contains_key.ensures c.if-not-contains_key.true c.items-numbers.ensures,
  λ _. refl,
)

pub parts-requires-clause-linked : goal.parts-requires-clause-linked
parts-requires-clause-linked g c = c.self.invariant.linked

pub parts-requires-clause-there : goal.parts-requires-clause-there
parts-requires-clause-there g c = sym c.contains_key.ensures ∙ c.if-not-contains_key.false

pub parts-requires-clause-bounded : goal.parts-requires-clause-bounded
parts-requires-clause-bounded g c = c.self.invariant.bounded

pub returns-in-Ok-clause-parts : goal.returns-in-Ok-clause-parts
returns-in-Ok-clause-parts g c = c.in-Ok.ensures ∙ (λ i. parts_below (ap (λ t. t.instances) c.self.view_is i) (c.items-numbers.ensures i))

pub returns-in-Ok-clause-no_such : goal.returns-in-Ok-clause-no_such
returns-in-Ok-clause-no_such g c = (
  λ e. absurd (cc),
  λ none. absurd (not_none c.args.self.now c.self.inside.nodes.entries (ap (λ t. t.instances) c.self.view_is) _ _ _ c.contains_key.ensures c.if-not-contains_key.false c.items-numbers.ensures none),
)

pub returns-in-Err-clause-no_such : goal.returns-in-Err-clause-no_such
returns-in-Err-clause-no_such g c = (
  λ e. absurd (cc),
  λ none. absurd (not_none c.args.self.now c.self.inside.nodes.entries (ap (λ t. t.instances) c.self.view_is) _ _ _ c.contains_key.ensures c.if-not-contains_key.false c.items-numbers.ensures none),
)
