use Rattle.clause_parser.specs.TransBody.{trans_body}
use Rattle.clause_parser.proofs.WayLaws.{new_is}
use Rattle.clause_parser.proofs.groups.trans_body.Goals as goal

pub returns : goal.returns
unfolding trans_body
returns c = rw (← new_is _ c.new.ensures) c.trans_body_over.ensures
