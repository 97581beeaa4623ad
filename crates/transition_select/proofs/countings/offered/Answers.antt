use Rattle.std.proofs.Common.{◌≡◌, ◌∙◌, ap}
use Rattle.std.proofs.lemmas.Result.{IfOk-weaker}
use Rattle.estelle_model.specs.Schedule.{offered}
use Rattle.transition_select.specs.Countings.{not_below}
use Rattle.transition_select.proofs.Priorities.{offered_is}
use Rattle.transition_select.proofs.countings.offered.Goals as goal

pub returns : goal.returns
returns c s budget g m are =
    IfOk-weaker c.not_below.result (λ numbers. numbers.items ≡ not_below c.highest.result c.args.counted.now) (λ numbers. numbers.items ≡ offered s budget g m)
    (λ numbers is. is ∙ ap (λ most. not_below most c.args.counted.now) c.highest.ensures ∙ offered_is s budget g m c.args.counted.now are) c.not_below.ensures
