use Rattle.std.proofs.Common.{rules, ap, ◌∙◌}
use Rattle.std.proofs.lemmas.Fn.{always_returns_same}
use Rattle.estelle_model.specs.declared.image.Part.{Part}
use Rattle.estelle_tree.specs.Paths.{path_cmp}
use Rattle.body_state.specs.InOrder.{are_in_order}
use Rattle.body_state.proofs.OrderLemmas.{holds_of, searchable, stands_of}
use Rattle.body_state.proofs.PartLemmas.{entries_replaced, may_insert}
use Rattle.body_state.proofs.parts.insert_part.Goals as goal

pub returns-in-Ok-clause-ok : goal.returns-in-Ok-clause-ok
returns-in-Ok-clause-ok c = entries_replaced c.args.part c.args.parts.now.items c.in-Ok.place (holds_of _ c.requires)
    (rw c.deref.ensures.value at (stands_of c.deref.result.now c.args.part.path c.in-Ok.place c.in-Ok.ensures.bound (c.in-Ok.ensures.position (λ (y : Part). path_cmp y.path c.args.part.path) (always_returns_same _ _ _ (λ a r f q. search rules)))))

pub returns-in-Err-clause-ok : goal.returns-in-Err-clause-ok
returns-in-Err-clause-ok c = may_insert c.args.part c.args.parts.now.items c.insert_at.new.parts.items c.in-Err.place c.insert_at.result
    (rw c.deref.ensures.value at c.in-Err.ensures.bound)
    (rw c.deref.ensures.value at (c.in-Err.ensures.position (λ (y : Part). path_cmp y.path c.args.part.path) (always_returns_same _ _ _ (λ a r f q. search rules)) (searchable c.deref.result.now c.args.part.path (holds_of _ (ap are_in_order c.deref.ensures.value ∙ c.requires))))) c.insert_at.ensures.ok
