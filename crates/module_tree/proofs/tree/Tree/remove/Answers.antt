use Rattle.std.proofs.Common.{sym, ap, true≢false, refl}
use Rattle.module_tree.proofs.Standing.{not_there, not_none, removed_sound}
use Rattle.module_tree.proofs.tree.Tree.remove.Goals as goal

pub returns-then-not-contains_key-clause-missing :
    goal.returns-then-not-contains_key-clause-missing
returns-then-not-contains_key-clause-missing g c = (
  λ _. not_there c.args.self.now c.self.inside.nodes.entries (ap (λ t. t.instances) c.self.view_is) _ _ _ c.contains_key.ensures c.if-not-contains_key.true c.items.ensures,
  λ _. refl,
)

pub invariant_of-self : goal.invariant_of-self
invariant_of-self g c = removed_sound c.self.inside.nodes.entries c.remove.new.nodes.entries _ _ c.self.inside.way c.remove.new.way c.self.invariant c.remove.ensures.linked c.remove.ensures.removed c.remove.ensures.way c.remove.ensures.empty

pub returns-clause-missing : goal.returns-clause-missing
returns-clause-missing g c = (
  λ e. absurd (true≢false (sym e)),
  λ none. absurd (not_none c.args.self.now c.self.inside.nodes.entries (ap (λ t. t.instances) c.self.view_is) _ _ _ c.contains_key.ensures c.if-not-contains_key.false c.items.ensures none),
)
