use Rattle.std.proofs.Common.{◌≡◌, drop}
use Rattle.delay_timers.specs.Renewal.{all_dropped}
use Rattle.delay_timers.proofs.timers.Timers.drop_all.Given as goal

abbrev pub invariant-loop-one : goal.invariant-loop-one
invariant-loop-one l = all_dropped (drop l.one-index l.pairs) l.self ≡ all_dropped l.pairs l.initial.self
