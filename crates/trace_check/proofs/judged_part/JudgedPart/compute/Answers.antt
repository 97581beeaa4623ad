use Rattle.std.proofs.Common.{List, subst}
use Rattle.std.specs.Prelude.{Contains}
use Rattle.std.proofs.lemmas.Option.{get_or_from_slice_get}
use Rattle.estelle_tree.specs.declared.transition.Pair.{Pair}
use Rattle.estelle_model.specs.declared.job.Job.{Job}
use Rattle.estelle_model.specs.Jobs.{Answers}
use Rattle.estelle_model_legality.proofs.Conditions.{taken_meets}
use Rattle.trace_check.specs.JudgedParts.{now}
use Rattle.trace_check.proofs.JudgingOn.{has_room}
use Rattle.trace_check.proofs.judged_part.JudgedPart.compute.Goals as goal

pub returns : goal.returns
returns c p there =
    let r = c.args.self.now in
    let o = c.requires.open in
    let here : Contains (now r).pending p = subst (λ (ps : List Pair). Contains ps p) o.at.left (c.args.at, c.requires.there, get_or_from_slice_get r.state.untaken.items c.args.at p p there) in
    let job_is = c.in_ok-job.ensures.job (now r) (now r).pending p o.at o.going.legal there here in (
      subst (λ (j : Job). Answers r.state.program.now j c.in_ok-done.done) job_is c.in_ok-done.ensures.answers,
      taken_meets r.state.program.now (now r) o.going.legal 0 r.state.budget (has_room r o c.requires.below) p here,
    )
