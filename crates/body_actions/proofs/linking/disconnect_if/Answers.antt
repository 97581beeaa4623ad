use Rattle.std.proofs.Common.{◌∙◌, ap, List}
use Rattle.estelle_tree.specs.declared.link.Link.{Link}
use Rattle.estelle_tree.specs.declared.link.IpAddr.{IpAddr}
use Rattle.estelle_model.specs.Effects.{Disconnect}
use Rattle.estelle_model.specs.Actions.{is_connected}
use Rattle.body_state.specs.Progress.{after}
use Rattle.body_actions.proofs.ActionLemmas.{cut_if, not_cut}
use Rattle.body_actions.proofs.linking.disconnect_if.Goals as goal

pub returns : goal.returns
returns c = λ s. cut_if s c.args.a.now c.args.walk.now _ c.make.new.self (c.is_connected.ensures ∙ ap (λ (ls : List Link). is_connected c.args.a.now ls) c.links.ensures) c.if-not-is_connected.false (c.in_ok-make.ensures ∙ ap (λ (u : IpAddr). after (Disconnect u) c.args.walk.now) c.in_ok-a.ensures)

pub returns-then-not-is_connected : goal.returns-then-not-is_connected
returns-then-not-is_connected c = λ s. not_cut s c.args.a.now c.args.walk.now _ (c.is_connected.ensures ∙ ap (λ (ls : List Link). is_connected c.args.a.now ls) c.links.ensures) c.if-not-is_connected.true
