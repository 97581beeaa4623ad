use Rattle.std.proofs.Common.{◌≡◌, ◌+◌, ◌<◌, true, false, length, sym, arith}
use Rattle.estelle_model.specs.Subject.{transitions, transition}
use Rattle.estelle_model.specs.Delays.{is_delayed}
use Rattle.situation.proofs.Delayed.{delay_here, delay_not}
use Rattle.situation.proofs.delays.body_has_delays.Goals as goal

pub returns-then-has_delay : goal.returns-then-has_delay
returns-then-has_delay c =
    let h : is_delayed (transition c.args.program.now c.args.body (c.loop-index.index + 1)) ≡ true = cc in
    sym (delay_here (transitions c.args.program.now c.args.body) c.loop-index.index h)

pub loop-index-preserved : goal.loop-index-preserved
loop-index-preserved c =
    let h : is_delayed (transition c.args.program.now c.args.body (c.loop-index.index + 1)) ≡ false = cc in
    let less : c.loop-index.index < length (transitions c.args.program.now c.args.body) = omega (arith, c.transitions-index-end.ensures, c.loop-index-test.true) in
    delay_not (transitions c.args.program.now c.args.body) c.loop-index.index less h c.loop-index.invariant
