use Rattle.round_trip.proofs.RespelledLaws.{respelled}
use Rattle.round_trip.proofs.respelled.respelled_elsewhere.Goals as goal

pub returns : goal.returns
returns c = respelled
