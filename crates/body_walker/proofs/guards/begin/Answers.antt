use Rattle.std.proofs.Common.{sym, ◌∙◌}
use Rattle.estelle_model.specs.Belonging.{are_values_of}
use Rattle.body_walker.proofs.GuardLemmas.{begin_unfit, begin_fits}
use Rattle.body_state.specs.Progress.{running}
use Rattle.body_walker.proofs.guards.begin.Goals as goal

pub returns-then-not-are_values_of : goal.returns-then-not-are_values_of
returns-then-not-are_values_of c = begin_unfit c.args.transition.now c.args.values.now (running c.args.walk.now) ((λ i. are_values_of (sym c.received.ensures i) (sym c.items.ensures i)) ∙ sym c.are_values_of.ensures ∙ c.if-not-are_values_of.true)

pub returns : goal.returns
returns c = begin_fits c.args.transition.now c.args.values.now c.in_ok-values.values c.enter_values.result (running c.args.walk.now) (running c.enter_values.new.self) ((λ i. are_values_of (sym c.received.ensures i) (sym c.items.ensures i)) ∙ sym c.are_values_of.ensures ∙ c.if-not-are_values_of.false) c.in_ok-values.ensures c.enter_values.ensures
