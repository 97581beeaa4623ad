use Rattle.std.proofs.Common.{◌≡◌, length}
use Rattle.effect_log.specs.Underway.{written}
use Rattle.effect_log.proofs.records.write_all.Given as goal

abbrev pub invariant-loop-part : goal.invariant-loop-part
invariant-loop-part l = written l.parts l.tree.instances ≡ written l.initial.parts l.initial.tree.instances

abbrev pub decreases-loop-part : goal.decreases-loop-part
decreases-loop-part l = length l.parts
