use Rattle.std.proofs.Common.{◌≡◌, drop}
use Rattle.std.specs.FinMap as map
use Rattle.delay_timers.specs.Renewal.{all_started, CanStart}
use Rattle.delay_timers.proofs.timers.Timers.of.Given as goal

abbrev pub invariant-loop-one : goal.invariant-loop-one
invariant-loop-one l = record { started : all_started l.now (drop l.one-index l.wanted) l.timers ≡ all_started l.now l.wanted map.empty; can : CanStart l.now (drop l.one-index l.wanted) l.timers }
