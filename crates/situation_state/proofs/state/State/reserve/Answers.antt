use Rattle.std.proofs.Common.{refl}
use Rattle.situation_state.proofs.At.{at_same}
use Rattle.situation_state.proofs.state.State.reserve.Goals as goal

pub returns-clause-at : goal.returns-clause-at
returns-clause-at c g ps = at_same g ps c.args.self.now (record c.args.self.now { shared = c.reserve_for.new.shared; notes = c.reserve_for.new.notes }) c.reserve_for.ensures.same c.reserve_for.ensures.notes refl
