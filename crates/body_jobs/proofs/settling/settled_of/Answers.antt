use Rattle.std.specs.Option.{option_copied}
use Rattle.body_jobs.proofs.SettledGuards.{bare_here}
use Rattle.body_jobs.proofs.settling.settled_of.Goals as goal

pub returns-then-is_bare : goal.returns-then-is_bare
returns-then-is_bare c = λ s.
    bare_here s (option_copied c.args.head) c.args.timed c.args.state c.args.transition.now c.is_in_state.result c.is_received.result c.is_bare.result c.at_once.result
    c.is_in_state.ensures c.is_received.ensures c.is_bare.ensures c.if-not-is_in_state.false c.if-not-is_received.false c.if-is_bare.true (c.at_once.ensures s)
