use Rattle.std.proofs.Common.{refl}
use Rattle.estelle_model.specs.Firing.{bare}
use Rattle.situation_state.proofs.Fired.{fired_so}
use Rattle.situation_state.proofs.state.State.fire_start.Goals as goal

pub returns : goal.returns
returns c = fired_so (bare c.args.self.now.program.now) c.args.self.now (record c.args.self.now { shared = c.put_start.new.shared; timers = c.drop_one.new.self; notes = c.put_start.new.notes }) c.args.done c.requires.empty c.drop_one.ensures c.put_start.ensures refl

pub put_start-requires : goal.put_start-requires
put_start-requires c = c.requires.may
