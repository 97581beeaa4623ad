use Rattle.std.proofs.Common.{◌≡◌, ◌∙◌, List, Option, ap, sym}
use Rattle.estelle_tree.specs.declared.tree.name.Name.{Name}
use Rattle.scope_rules.specs.declared.declaration.Members.{Members}
use Rattle.scope_rules.specs.declared.event.Event.{Event}
use Rattle.scope_rules.specs.declared.event.Event.TheVariants as event
use Rattle.scope_rules.specs.declared.refusal.Breach.{Breach}
use Rattle.scope_rules.specs.Visible.{Scopes, received}
use Rattle.scope_rules.specs.Scopes.{join_at, after_one}
use Rattle.scope_rules.specs.NameRules.{names_listed}
use Rattle.scope_names.specs.Noted.{parameter_twice, breach_at}
use Rattle.scope_names.proofs.judge.judge.Goals as goal

received_breach : (s : Scopes) (e : Event) (ip interaction : Name) (listed : Option (List Name)) (m : Members) (b : Option Breach) → e ≡ event.Receive ip interaction listed → m ≡ received s ip interaction → b ≡ parameter_twice s m interaction (names_listed listed) → b ≡ breach_at s e
received_breach s e ip interaction listed m b p q r = r ∙ ap (λ x. parameter_twice s x interaction (names_listed listed)) q ∙ ap (breach_at s) (sym p)

received_table : (s t : Scopes) (e : Event) (ip interaction : Name) (listed : Option (List Name)) (m : Members) → e ≡ event.Receive ip interaction listed → m ≡ received s ip interaction → t ≡ join_at s m → t ≡ after_one s e
received_table s t e ip interaction listed m p q r = r ∙ ap (join_at s) q ∙ ap (after_one s) (sym p)

pub returns-in_ok-join-in-Receive-clause-table : goal.returns-in_ok-join-in-Receive-clause-table
returns-in_ok-join-in-Receive-clause-table c = received_table c.args.table.now c.join-in-Receive.new.self c.args.event.now _ _ _ c.received-parameters.result c.in-Receive.is c.received-parameters.ensures c.in_ok-join-in-Receive.ensures

pub returns-in_ok-join-in-Receive-clause-breach : goal.returns-in_ok-join-in-Receive-clause-breach
returns-in_ok-join-in-Receive-clause-breach c = received_breach c.args.table.now c.args.event.now _ _ _ c.received-parameters.result c.in_ok-breach-in-Receive.breach c.in-Receive.is c.received-parameters.ensures c.in_ok-breach-in-Receive.ensures
