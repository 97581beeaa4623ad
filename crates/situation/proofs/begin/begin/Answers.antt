use Rattle.std.proofs.Common.{◌≡◌, ℕ, ap, subst}
use Rattle.estelle_model.specs.declared.job.Job.{Job}
use Rattle.estelle_model.specs.Jobs.{Answers}
use Rattle.estelle_model.specs.Subject.{Subject}
use Rattle.situation_state.specs.declared.state.State.{State}
use Rattle.situation.proofs.Begun.{IsStart, fresh_still, may_start, has_begun}
use Rattle.situation.proofs.begin.begin.Goals as goal

pub start-requires : goal.start-requires
start-requires g c =
    let f = c.in_ok-execution.execution in
    let x = c.reserve-2.new.self in
    let n = record f { history = c.reserve.new.self; state = x } in
    let fresh = fresh_still c.args.program.now c.args.limits c.args.chooser f (record f { history = c.reserve.new.self }) x c.in_ok-execution.ensures c.reserve.ensures.kept (ap (λ (y : State). y.program) c.reserve-2.ensures.rest) (ap (λ (y : State). y.budget) c.reserve-2.ensures.rest) c.reserve-2.ensures.at in
    let job = c.in_ok-job.job in
    let units = ap (λ (j : Job). j.budget) c.in_ok-job.ensures.job in
    let first : IsStart c.args.limits.budget job = record { trans = ap (λ (j : Job). j.trans) c.in_ok-job.ensures.job; path = ap (λ (j : Job). j.path) c.in_ok-job.ensures.job; units = subst (λ (b : ℕ). job.budget ≡ b) c.in_ok-execution.ensures.state.budget_is units } in
    may_start c.args.program.now c.args.limits c.args.chooser c.requires.leads c.requires.room job first c.in_ok-done.done (subst (λ (s : Subject). Answers s job c.in_ok-done.done) c.requires.code c.in_ok-done.ensures) n fresh c.in_ok-reserve-2.ensures.room c.in_ok-reserve.ensures.room

pub returns : goal.returns
returns g c =
    let f = c.in_ok-execution.execution in
    let x = c.reserve-2.new.self in
    let n = record f { history = c.reserve.new.self; state = x } in
    let fresh = fresh_still c.args.program.now c.args.limits c.args.chooser f (record f { history = c.reserve.new.self }) x c.in_ok-execution.ensures c.reserve.ensures.kept (ap (λ (y : State). y.program) c.reserve-2.ensures.rest) (ap (λ (y : State). y.budget) c.reserve-2.ensures.rest) c.reserve-2.ensures.at in
    let job = c.in_ok-job.job in
    let units = ap (λ (j : Job). j.budget) c.in_ok-job.ensures.job in
    let first : IsStart c.args.limits.budget job = record { trans = ap (λ (j : Job). j.trans) c.in_ok-job.ensures.job; path = ap (λ (j : Job). j.path) c.in_ok-job.ensures.job; units = subst (λ (b : ℕ). job.budget ≡ b) c.in_ok-execution.ensures.state.budget_is units } in
    has_begun c.args.program.now c.args.limits c.args.chooser c.requires.leads c.requires.room job first c.in_ok-done.done (subst (λ (s : Subject). Answers s job c.in_ok-done.done) c.requires.code c.in_ok-done.ensures) g.H.Chooser.draw n c.start.new.self c.find_systems.new.self fresh c.start.ensures c.in_ok-find_systems.ensures
