use Rattle.round_trip.proofs.RespelledLaws.{bare_is_spelled}
use Rattle.round_trip.proofs.respelled.bare_tree_is_spelled.Goals as goal

pub returns : goal.returns
returns c = bare_is_spelled
