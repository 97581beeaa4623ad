use Rattle.std.proofs.Common.{◌∙◌, ap, subst}
use Rattle.std.specs.Prelude.{OnOk, IfErr}
use Rattle.scope_rules.specs.declared.refusal.Breach.{Breach}
use Rattle.scope_rules.specs.Least.{Refuses}
use Rattle.visit_rules.specs.Breaches.{Broken}
use Rattle.flat_transitions.specs.Flat.{with_chosen}
use Rattle.transition_expand.specs.Domains.{known}
use Rattle.transition_expand.specs.TransitionRules.{breaches}
use Rattle.transition_expand.proofs.specification.check.Goals as goal

pub returns-clause-kept : goal.returns-clause-kept
returns-clause-kept c =
    let d = c.in_ok-domains.ensures ∙ ap (λ e. known e c.args.tree.now) c.in_ok-types.ensures in
    subst (λ r. OnOk c.check.result ((b : Breach) → Broken r c.args.tree.now b → ⊥)) (λ i. breaches (d i) (with_chosen (c.in_ok-meanings.ensures i))) c.check.ensures.kept

pub returns-clause-refused : goal.returns-clause-refused
returns-clause-refused c =
    let d = c.in_ok-domains.ensures ∙ ap (λ e. known e c.args.tree.now) c.in_ok-types.ensures in
    subst (λ r. IfErr c.check.result (Refuses (Broken r c.args.tree.now))) (λ i. breaches (d i) (with_chosen (c.in_ok-meanings.ensures i))) c.check.ensures.refused
