use Rattle.std.proofs.Common.{sym, subst}
use Rattle.std.specs.Prelude.{IfOk}
use Rattle.estelle_cli.specs.Answers.{Always, IsOutput}
use Rattle.estelle_cli.proofs.Traces.{closed_output}
use Rattle.estelle_cli.proofs.program.output.Goals as goal

pub returns-in-Run-clause-output : goal.returns-in-Run-clause-output
returns-in-Run-clause-output g c =
    subst (λ t. IfOk c.closing.result (λ x. IsOutput Always t (g.C.Clock.moment c.args.clock) (g.S.Source.left c.args.source.now) x.1 x.0)) (sym c.in-Run.is)
    (closed_output Always c.in-Run.limits c.in-Run.seed _ c.in-Run.workers _ c.traced-traced.result.0 c.closing.result c.closing.ensures (c.traced-traced.ensures.trace c.in-Run.workers))
