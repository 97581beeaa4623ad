use Rattle.std.proofs.Common.{◌≡◌, ◌<◌, ◌≤◌, length, ◌∙◌, subst, arith}
use Rattle.trace_check.specs.Judging.{IsRunTo}
use Rattle.trace_check.proofs.Deciding.{is_so, not_so}
use Rattle.trace_check.proofs.Judged.{event_wrong, end_wrong, all_right, some_event}
use Rattle.trace_check.proofs.judging.judge_rest.Goals as goal

pub returns-then-not-branch-clause-refused : goal.returns-then-not-branch-clause-refused
returns-then-not-branch-clause-refused c =
    let known = c.loop-index.invariant in
    let all = c.requires.all in
    let below = c.loop-index-test.true in
    let within : c.loop-index.index < length c.args.judged_part.events.now = omega (arith, all, below) in
    event_wrong c.args.judged_part c.loop-index.judged_part c.args.end c.loop-index.index known.keeps known.program known.budget known.events known.count c.step.new.self c.in_ok-step.field-0 c.in_ok-step.ensures c.if-not-branch.true known.some within

pub returns-then-branch-clause-run : goal.returns-then-branch-clause-run
returns-then-branch-clause-run c =
    let known = c.loop-index.invariant in
    let some = some_event c.args.judged_part.state.program.now c.args.judged_part.state.budget c.args.judged_part.events.now c.args.judged_part c.requires.begun in
    let all = c.requires.all in
    let last : c.loop-index.index ≡ c.args.count = omega arith in
    all_right c.args.judged_part c.loop-index.judged_part c.args.end c.args.count known.keeps known.program known.budget known.events (known.count ∙ last) c.requires.all (is_so c.in_ok-may_end.field-0 c.in_ok-may_end.ensures c.if-branch.true)

pub returns-then-branch-clause-fates : goal.returns-then-branch-clause-fates
returns-then-branch-clause-fates c =
    let r = c.args.judged_part in
    let to : IsRunTo r.state.program.now r.state.budget r.events.now c.args.end = returns-then-branch-clause-run c in
    c.outputs_have_one_fate.ensures.one r.state.program.now r.state.budget r.events.now to.run

pub returns-then-branch-clause-order : goal.returns-then-branch-clause-order
returns-then-branch-clause-order c =
    let r = c.args.judged_part in
    let to : IsRunTo r.state.program.now r.state.budget r.events.now c.args.end = returns-then-branch-clause-run c in
    c.first_in_is_first_out.ensures.first r.state.program.now c.requires.leads r.state.budget r.events.now to.run

pub returns-clause-refused : goal.returns-clause-refused
returns-clause-refused c =
    let known = c.loop-index.invariant in
    let some = some_event c.args.judged_part.state.program.now c.args.judged_part.state.budget c.args.judged_part.events.now c.args.judged_part c.requires.begun in
    let all = c.requires.all in
    let last : c.loop-index.index ≡ c.args.count = omega arith in
    let one : 1 ≤ c.args.count = omega arith in
    end_wrong c.args.judged_part c.loop-index.judged_part c.args.end c.args.count known.keeps known.program known.budget known.events (known.count ∙ last) one c.requires.all (not_so c.in_ok-may_end.field-0 c.in_ok-may_end.ensures c.if-branch.false)
