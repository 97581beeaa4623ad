use Rattle.std.proofs.Common.{◌∙◌, ap, nat_lt, length}
use Rattle.transition_select.proofs.Reaches.{some_is}
use Rattle.transition_select.proofs.spans.offers_some.Goals as goal

pub returns : goal.returns
returns c = ap (λ k. nat_lt k (length c.args.offers.now)) c.quiet_len.ensures.passed ∙ some_is c.args.offers.now
