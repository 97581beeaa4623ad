use Rattle.std.proofs.Common.{◌∙◌, ap, List}
use Rattle.estelle_tree.specs.declared.link.Link.{Link}
use Rattle.estelle_tree.specs.declared.link.IpAddr.{IpAddr}
use Rattle.estelle_tree.specs.Links.{above}
use Rattle.estelle_model.specs.Effects.{Detach}
use Rattle.body_state.specs.Progress.{after}
use Rattle.body_actions.proofs.ActionLemmas.{detached_if, not_detached}
use Rattle.body_actions.proofs.linking.detach_if.Goals as goal

pub returns-in-None : goal.returns-in-None
returns-in-None c = λ s. not_detached s c.args.a.now c.args.walk.now (c.in-None.ensures ∙ ap (λ (ls : List Link). above ls c.args.a.now) c.links.ensures)

pub returns-in_ok-make-in-Some : goal.returns-in_ok-make-in-Some
returns-in_ok-make-in-Some c = λ s. detached_if s c.args.a.now c.args.walk.now c.in-Some.upper.now c.make.new.self (c.in-Some.ensures ∙ ap (λ (ls : List Link). above ls c.args.a.now) c.links.ensures) (c.in_ok-make-in-Some.ensures ∙ ap (λ (u : IpAddr). after (Detach u) c.args.walk.now) c.in_ok-upper-in-Some.ensures)
