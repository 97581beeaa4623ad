use Rattle.std.proofs.Common.{arith}
use Rattle.std.specs.Io.KnownBytes.{IsAtEnd}
use Rattle.outside.specs.Counts.{Rose}
use Rattle.estelle_cli.specs.Answers.{WithoutWorkers}
use Rattle.estelle_cli.proofs.Traces.{run_executed, written_trace, written_cause, always}
use Rattle.estelle_cli.proofs.program.traced_by.Goals as goal

pub returns-in-Ok-clause-trace : goal.returns-in-Ok-clause-trace
returns-in-Ok-clause-trace g c =
    let some = c.requires.workers.0 in
    written_trace WithoutWorkers c.args.limits c.args.seed _ c.args.workers _ c.in-Ok.checked c.executed_by-ran.result.0 c.written.result c.in-Ok.ensures.found
    (run_executed WithoutWorkers c.args.limits c.args.seed _ c.args.workers _ c.executed_by-ran.result.0 (λ none. omega (arith, some, none)) c.executed_by-ran.ensures.run c.executed_by-ran.ensures.stops) c.written.ensures.trace

pub returns-in-Ok-clause-by_clock : goal.returns-in-Ok-clause-by_clock
returns-in-Ok-clause-by_clock g c =
    written_cause (Rose (g.C.Clock.faults c.args.clock) (g.C.Clock.faults c.executed_by-ran.result.1)) c.executed_by-ran.result.0 c.written.result c.executed_by-ran.ensures.cause c.written.ensures.trace

pub returns-in-Ok-clause-end : goal.returns-in-Ok-clause-end
returns-in-Ok-clause-end g c = always (IsAtEnd (g.S.Source.left c.load.new.source)) c.written.result c.in-Ok.ensures.end
