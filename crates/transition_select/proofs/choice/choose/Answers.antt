use Rattle.std.proofs.Common.{◌++◌, sym, ap, subst, ◌∙◌}
use Rattle.estelle_model.specs.Schedule.{Chosen}
use Rattle.transition_select.proofs.choice.choose.Goals as goal

-- src/choice.rt:146:1
pub returns : goal.returns
returns g c s budget t m tree are =
    let all = c.in_ok-choose_in.ensures s budget t m tree are in
    subst (λ ts. Chosen g.H.Chooser.draw s budget t m c.args.chooser.now ts c.choose_in.new.chooser) (sym (all.behind ∙ ap (λ ts. ts ++ all.takes) c.new-takes.ensures.items)) all.chosen
