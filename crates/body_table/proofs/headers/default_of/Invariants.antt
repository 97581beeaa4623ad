use Rattle.std.proofs.Common.{◌≡◌, length}
use Rattle.estelle_model.specs.Bodies.{default_of}
use Rattle.body_table.proofs.headers.default_of.Given as goal

abbrev pub invariant-loop-heads : goal.invariant-loop-heads
invariant-loop-heads l = default_of l.heads ≡ default_of l.initial.heads

abbrev pub decreases-loop-heads : goal.decreases-loop-heads
decreases-loop-heads l = length l.heads
