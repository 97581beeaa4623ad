use Rattle.std.proofs.Common.{refl, subst}
use Rattle.estelle_words.specs.Words.{texts}
use Rattle.estelle_cli.specs.Tasks.{asked}
use Rattle.estelle_cli.specs.Calls.{used, HasTold}
use Rattle.estelle_cli.proofs.Answering.{asked_task, at_once_told, task_told}
use Rattle.estelle_cli.proofs.Ranges.{in_range}
use Rattle.estelle_cli.proofs.program.estelle.Goals as goal

pub output_by-done-requires-after_bounds : goal.output_by-done-requires-after_bounds
output_by-done-requires-after_bounds g c κs within =
    in_range (texts c.args.words.now) c.in-Ok.task
    (asked_task (used g.E.Sink.held g.E.Sink.faults c.args.err.now c.told_at_once.new.err) (asked (texts c.args.words.now)) c.asked.result c.told_at_once.result c.asked.ensures c.told_at_once.ensures c.in-Ok.task c.in-Ok.is).0

pub returns-in-Err : goal.returns-in-Err
returns-in-Err g c =
    at_once_told _ _ _ _ _ _ c.asked.result c.told_at_once.result c.asked.ensures c.told_at_once.ensures (record { unread = refl; untouched = refl; nothing = record { nothing = refl; untried = refl } }) c.in-Err.status c.in-Err.is

pub returns-in-Ok : goal.returns-in-Ok
returns-in-Ok g c =
    let found = asked_task (used g.E.Sink.held g.E.Sink.faults c.args.err.now c.told_at_once.new.err) (asked (texts c.args.words.now)) c.asked.result c.told_at_once.result c.asked.ensures c.told_at_once.ensures c.in-Ok.task c.in-Ok.is in
    let d = c.output_by-done.ensures in
    task_told _ _ _ _ _ _ c.in-Ok.task found.0 c.output_by-done.result.0 d.output d.by_clock d.end d.cause d.later d.unasked d.stops d.idle c.closed-outcome.result c.told.result c.closed-outcome.ensures
    (subst (λ e. HasTold (used g.E.Sink.held g.E.Sink.faults e c.told.new.err) c.closed-outcome.result c.told.result) found.1 c.told.ensures)
