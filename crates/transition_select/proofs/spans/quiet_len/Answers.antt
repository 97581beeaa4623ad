use Rattle.std.proofs.Common.{◌∙◌}
use Rattle.transition_select.proofs.Reaches.{quiet_none, quiet_some}
use Rattle.transition_select.proofs.spans.quiet_len.Goals as goal

pub returns-in-None-clause-passed : goal.returns-in-None-clause-passed
returns-in-None-clause-passed c = quiet_none c.args.offers.now c.args.spans.now c.in-None.ensures.cases c.requires

pub returns-in-Some-clause-passed : goal.returns-in-Some-clause-passed
returns-in-Some-clause-passed c = c.min.ensures ∙ quiet_some c.args.offers.now c.args.spans.now c.in-Some.span.now _ c.in-Some.ensures.cases.0 c.requires
