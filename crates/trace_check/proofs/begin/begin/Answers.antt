use Rattle.std.proofs.Common.{ap, subst}
use Rattle.estelle_model.specs.declared.job.Job.{Job}
use Rattle.estelle_model.specs.Jobs.{Answers}
use Rattle.estelle_model.specs.Subject.{Subject}
use Rattle.estelle_model_legality.specs.Jobs.{start_job}
use Rattle.situation_state.specs.declared.state.State.{State}
use Rattle.trace_check.proofs.Beginning.{may_begin, next_first, begun_so, refused_so}
use Rattle.trace_check.proofs.begin.begin.Goals as goal

pub judge_first-requires-clause-may : goal.judge_first-requires-clause-may
judge_first-requires-clause-may c =
    let f = c.in_ok-judged_part.judged_part in
    let of = c.in_ok-judged_part.ensures.of in
    let job = subst (λ (j : Job). Answers c.args.program.now j c.in_ok-done.done) c.in_ok-job.ensures.job c.in_ok-done.ensures.answers in
    let own = subst (λ (x : Subject). Answers c.args.program.now (start_job x f.state.budget) c.in_ok-done.done) of.program job in
    let answers = subst (λ b. Answers c.args.program.now (start_job c.args.program.now b) c.in_ok-done.done) of.budget_is own in
    may_begin c.args.program.now c.args.budget c.args.events.now f c.reserve.new.self c.in_ok-done.done c.in_ok-judged_part.ensures.fresh of c.requires.leads c.requires.few c.requires.room c.args.first.now c.requires.first
    answers (ap (λ (x : State). x.program) c.reserve.ensures.rest) (ap (λ (x : State). x.budget) c.reserve.ensures.rest) c.reserve.ensures.at c.in_ok-reserve.ensures.room
