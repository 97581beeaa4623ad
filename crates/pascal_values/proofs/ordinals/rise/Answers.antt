use Rattle.std.proofs.Common.{refl, inl, inr, arith}
use Rattle.pascal_values.proofs.SetLemmas.{rises_more, rises_all, rises_not}
use Rattle.pascal_values.proofs.ordinals.rise.Goals as goal
use Rattle.pascal_values.proofs.ordinals.rise.Goals.{then-n-least-via-then-n-least, then-n-least-via-else-n-least+then-n-gt255}

pub returns-then-n-least : goal.returns-then-n-least
returns-then-n-least c = rises_not c.args.ordinals.now c.loop-n.n-index c.loop-n.least _ c.loop-n.invariant.rises c.loop-n-test.true refl
    (elim c.then-n-least.branch [ then-n-least-via-then-n-least w ↦ inl w.if-n-least.true | then-n-least-via-else-n-least+then-n-gt255 w ↦ inr w.if-n-gt255.true ])

pub loop-n-preserved : goal.loop-n-preserved
loop-n-preserved c = record { rises = rises_more c.args.ordinals.now c.loop-n.n-index c.loop-n.least _ c.loop-n.invariant.rises c.loop-n-test.true refl c.if-n-least.false; small = omega arith }

pub returns : goal.returns
returns c = rises_all c.args.ordinals.now c.loop-n.n-index c.loop-n.least c.loop-n-test.false c.loop-n.invariant.rises c.loop-n.invariant.small
