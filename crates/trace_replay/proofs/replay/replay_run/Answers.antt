use Rattle.std.proofs.Common.{◌≡◌, Result, Ok, Err, subst}
use Rattle.std.specs.Prelude.{IfOk, OnOk, IfErr}
use Rattle.estelle_model.specs.Subject.{Subject}
use Rattle.trace_check.specs.Judging.{IsRunTo, IsRefused}
use Rattle.trace_replay.proofs.replay.replay_run.Goals as goal

-- what holds of each specification that is this one
on_ok : {A E : Type 0} (r : Result A E) (P : Subject → Type 0) (s t : Subject) → s ≡ t → IfOk r (λ _. P s) → OnOk r (P t)
on_ok (Ok x) P s t same h = subst P same h
on_ok (Err e) P s t same h = tt

if_err : {A E : Type 0} (r : Result A E) (P : Subject → E → Type 0) (s t : Subject) → s ≡ t → IfErr r (P s) → IfErr r (P t)
if_err (Ok x) P s t same h = tt
if_err (Err e) P s t same h = subst (λ (u : Subject). P u e) same h

pub returns-clause-run : goal.returns-clause-run
returns-clause-run c =
    on_ok c.judge.result (λ s. IsRunTo s c.args.budget c.args.run.now.events c.args.end) c.in_ok-program.program _ c.in_ok-program.ensures c.judge.ensures.run

pub returns-clause-refused : goal.returns-clause-refused
returns-clause-refused c =
    if_err c.judge.result (λ s. IsRefused s c.args.budget c.args.run.now.events c.args.end) c.in_ok-program.program _ c.in_ok-program.ensures c.judge.ensures.refused
