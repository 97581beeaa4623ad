use Rattle.std.proofs.Common.{sym, subst}
use Rattle.estelle_model.specs.declared.event.Event.{Event}
use Rattle.estelle_model.specs.Runs.{Applies}
use Rattle.trace_check.specs.JudgedParts.{now}
use Rattle.trace_check.proofs.JudgingOn.{wrong}
use Rattle.trace_check.proofs.judged_part.JudgedPart.judge_next.Goals as goal

pub returns-in-Start : goal.returns-in-Start
returns-in-Start c =
    let r = c.args.self.now in
    wrong r c.requires.open c.args.event.now c.requires.next (subst (λ (e : Event). Applies r.state.program.now r.state.budget (now r) e → ⊥) (sym c.in-Start.is) (λ x. x))
