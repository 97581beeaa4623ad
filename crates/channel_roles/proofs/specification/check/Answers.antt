use Rattle.std.proofs.Common.{subst}
use Rattle.std.specs.Prelude.{OnOk, IfErr}
use Rattle.scope_rules.specs.declared.refusal.Breach.{Breach}
use Rattle.scope_rules.specs.Least.{Refuses}
use Rattle.visit_rules.specs.Breaches.{Broken}
use Rattle.module_table.specs.Known.{Known}
use Rattle.channel_roles.specs.ChannelRules.{breaches}
use Rattle.channel_roles.proofs.specification.check.Goals as goal

pub returns-clause-kept : goal.returns-clause-kept
returns-clause-kept c = subst (λ (k : Known). OnOk c.check.result ((b : Breach) → Broken (breaches k) c.args.tree.now b → ⊥)) c.in_ok-table.ensures c.check.ensures.kept

pub returns-clause-refused : goal.returns-clause-refused
returns-clause-refused c = subst (λ (k : Known). IfErr c.check.result (Refuses (Broken (breaches k) c.args.tree.now))) c.in_ok-table.ensures c.check.ensures.refused
