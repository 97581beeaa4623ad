use Rattle.std.proofs.Common.{sym}
use Rattle.situation_tests.proofs.apart.are_put.Goals as goal

pub put-two-requires : goal.put-two-requires
put-two-requires c = c.put-one.ensures.others c.args.second.0 c.args.second.1 (λ same. c.requires.differ (sym same)) c.requires.second
