use Rattle.std.proofs.Common.{sym, subst}
use Rattle.estelle_model.specs.declared.event.End.TheVariants.{Faulted}
use Rattle.situation.specs.declared.limits.Advanced.TheVariants as did
use Rattle.situation.specs.Steps.{HasAdvanced}
use Rattle.situation.proofs.Ended.{faulted_step}
use Rattle.situation.proofs.execution.Execution.fault.Goals as goal

pub returns-clause-stepped : goal.returns-clause-stepped
returns-clause-stepped g c moment = subst (λ n. HasAdvanced g.H.Chooser.draw moment moment c.args.self.now n (did.Ended (Faulted c.args.kind))) (sym c.fail.ensures.rest)
    (faulted_step g.H.Chooser.draw moment c.args.self.now c.fail.new.self c.args.at c.requires.open c.requires.due c.args.path c.args.trans c.args.kind c.requires.first c.fail.ensures.noted)
