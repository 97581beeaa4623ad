use Rattle.std.proofs.Common.{refl}
use Rattle.situation_state.proofs.Fired.{fired_so}
use Rattle.situation_state.proofs.state.State.fire.Goals as goal

pub returns : goal.returns
returns g c = fired_so (g.R.RunSoFar.leads_to c.args.so_far.now c.args.self.now.program.now) c.args.self.now (record c.args.self.now { shared = c.put_firing.new.shared; timers = c.drop_one.new.self; notes = c.put_firing.new.notes }) c.args.done c.requires.empty c.drop_one.ensures c.put_firing.ensures refl

pub put_firing-requires : goal.put_firing-requires
put_firing-requires g c = c.requires.may
