use Rattle.guards_seen.proofs.Guards as guards
use Rattle.guards_seen.proofs.laws.guards_see_their_own.Goals as goal

pub returns : goal.returns
returns c = guards.guards_see_their_own
