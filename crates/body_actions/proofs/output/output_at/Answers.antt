use Rattle.std.proofs.Common.{◌∙◌}
use Rattle.estelle_model.specs.declared.meaning.Meaning.TheVariants.{Interaction}
use Rattle.estelle_model.specs.Effects.{Output}
use Rattle.body_state.specs.Progress.{after}
use Rattle.body_actions.proofs.ActionLemmas.{output_refused, output_made}
use Rattle.body_actions.proofs.output.output_at.Goals as goal

pub returns-then-not-may_output : goal.returns-then-not-may_output
returns-then-not-may_output c = output_refused c.args.bodies.now c.args.ip.now c.args.word.now (Interaction c.args.kind.now) c.args.values c.args.a c.args.walk.now _ c.may_output.ensures c.if-not-may_output.true

pub returns : goal.returns
returns c = output_made c.args.bodies.now c.args.ip.now c.args.word.now (Interaction c.args.kind.now) c.args.values c.args.a c.args.walk.now _ c.make.new.self c.may_output.ensures c.if-not-may_output.false
    (c.in_ok-make.ensures ∙ (λ i. after (Output c.args.a (c.in_ok-copy.ensures i) (c.in_ok-copy-2.ensures i) c.args.values) c.args.walk.now))
