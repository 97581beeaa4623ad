use Rattle.std.proofs.Common.{◌<◌, List, take, length, sym, subst, ◌∙◌}
use Rattle.std.specs.Prelude.{MatchOption}
use Rattle.std.proofs.lemmas.Option.{slice_get_within}
use Rattle.estelle_model.specs.declared.event.Event.{Event}
use Rattle.estelle_model.specs.Runs.{IsRun}
use Rattle.estelle_model_fates.specs.Fates.{HaveOneFate}
use Rattle.estelle_model_fates.specs.Order.{AreFirstInFirstOut}
use Rattle.trace_check.specs.JudgedParts.{HasBegun}
use Rattle.trace_check.proofs.Judged.{empty_if, told_of}
use Rattle.trace_check.proofs.Refusing.{no_events, wrong_first}
use Rattle.trace_check.proofs.judging.judge.Goals as goal

pub returns-in_default-clause-refused : goal.returns-in_default-clause-refused
returns-in_default-clause-refused c =
    no_events c.args.program.now c.args.budget c.args.run.now.events c.args.end (sym c.as_slice-events.ensures ∙ empty_if c.as_slice-events.result.now (sym c.in_default.ensures.value))

pub returns-in-None-clause-refused : goal.returns-in-None-clause-refused
returns-in-None-clause-refused c =
    let s = c.program.result.now in
    let b = c.args.budget in
    let es = c.as_slice-events.result.now in
    let wrong = subst (λ x. MatchOption x (IsRun s b (take 1 es) → ⊥) (HasBegun s b es)) c.in-None.is c.in_ok-begun.ensures in
    let within : 0 < length es = slice_get_within es 0 c.in-Some.first.now (sym c.in-Some.ensures.value) in
    rw (← c.program.ensures.same)
    (wrong_first s b c.args.run.now.events c.args.end (subst (λ (xs : List Event). 0 < length xs) c.as_slice-events.ensures within) (subst (λ (xs : List Event). IsRun s b (take 1 xs) → ⊥) c.as_slice-events.ensures wrong))

pub returns-in-Some-begun-clause-fates : goal.returns-in-Some-begun-clause-fates
returns-in-Some-begun-clause-fates c =
    let s = c.program.result.now in
    let b = c.args.budget in
    let es = c.as_slice-events.result.now in
    let l = c.in-Some-begun.judged_part in
    let begun = subst (λ x. MatchOption x (IsRun s b (take 1 es) → ⊥) (HasBegun s b es)) c.in-Some-begun.is c.in_ok-begun.ensures in
    rw (← c.program.ensures.same) (told_of HaveOneFate c.judge_rest.result s b es c.args.run.now.events l begun.of c.as_slice-events.ensures c.judge_rest.ensures.fates)

pub returns-in-Some-begun-clause-order : goal.returns-in-Some-begun-clause-order
returns-in-Some-begun-clause-order c =
    let s = c.program.result.now in
    let b = c.args.budget in
    let es = c.as_slice-events.result.now in
    let l = c.in-Some-begun.judged_part in
    let begun = subst (λ x. MatchOption x (IsRun s b (take 1 es) → ⊥) (HasBegun s b es)) c.in-Some-begun.is c.in_ok-begun.ensures in
    rw (← c.program.ensures.same) (told_of AreFirstInFirstOut c.judge_rest.result s b es c.args.run.now.events l begun.of c.as_slice-events.ensures c.judge_rest.ensures.order)
