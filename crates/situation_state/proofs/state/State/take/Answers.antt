use Rattle.std.proofs.Common.{length, refl}
use Rattle.std.proofs.lemmas.Option.{slice_get_read}
use Rattle.situation_state.proofs.At.{at_taken}
use Rattle.situation_state.proofs.state.State.take.Goals as goal

pub returns-clause-its : goal.returns-clause-its
returns-clause-its c = slice_get_read c.args.self.now.untaken.items (length c.args.self.now.untaken.items) c.args.at c.in-Some.pair refl c.requires c.in-Some.ensures.value

pub returns-clause-at : goal.returns-clause-at
returns-clause-at c g ps = at_taken g ps c.args.self.now (record c.args.self.now { untaken = c.remove.new.self }) c.args.at c.in-Some.ensures.items refl
