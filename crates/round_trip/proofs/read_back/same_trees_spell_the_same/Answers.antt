use Rattle.round_trip.proofs.RoundTrip.{same_spell_the_same}
use Rattle.round_trip.proofs.read_back.same_trees_spell_the_same.Goals as goal

pub returns : goal.returns
returns c = same_spell_the_same
