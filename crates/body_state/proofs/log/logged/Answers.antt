use Rattle.std.proofs.Common.{◌≡◌, subst, sym}
use Rattle.std.specs.Prelude.{IfOk}
use Rattle.estelle_model.specs.Jobs.{logged_as}
use Rattle.body_state.specs.declared.log.LogEntry.{LogEntry}
use Rattle.body_state.specs.Entries.{effect_of}
use Rattle.body_state.proofs.log.logged.Goals as goal

pub returns-in-Output : goal.returns-in-Output
returns-in-Output c = subst (λ (e : LogEntry). IfOk c.output.result (λ made. made ≡ logged_as c.args.bodies.now (effect_of e))) (sym c.in-Output.is) (c.output.ensures c.args.bodies.now)
