use Rattle.std.specs.Io.KnownBytes.{IsAtEnd}
use Rattle.outside.specs.Counts.{Rose}
use Rattle.estelle_cli.specs.Answers.{Always}
use Rattle.estelle_cli.proofs.Traces.{stopped_executed, written_trace, written_cause, always}
use Rattle.estelle_cli.proofs.program.traced.Goals as goal

pub returns-in-Ok-clause-trace : goal.returns-in-Ok-clause-trace
returns-in-Ok-clause-trace g c = λ workers.
    written_trace Always c.args.limits c.args.seed _ workers _ c.in-Ok.checked c.executed-ran.result.0 c.written.result c.in-Ok.ensures.found
    (stopped_executed Always c.args.limits c.args.seed _ workers _ c.executed-ran.result.0 c.executed-ran.ensures.stopped) c.written.ensures.trace

pub returns-in-Ok-clause-by_clock : goal.returns-in-Ok-clause-by_clock
returns-in-Ok-clause-by_clock g c =
    written_cause (Rose (g.C.Clock.faults c.args.clock) (g.C.Clock.faults c.executed-ran.result.1)) c.executed-ran.result.0 c.written.result c.executed-ran.ensures.cause c.written.ensures.trace

pub returns-in-Ok-clause-end : goal.returns-in-Ok-clause-end
returns-in-Ok-clause-end g c = always (IsAtEnd (g.S.Source.left c.load.new.source)) c.written.result c.in-Ok.ensures.end
