use Rattle.std.proofs.Common.{◌≡◌, drop, map as each}
use Rattle.delay_timers.specs.Moments.{pair_of}
use Rattle.delay_timers.specs.Renewal.{all_dropped}
use Rattle.delay_timers.proofs.timers.Timers.drop_started.Given as goal

abbrev pub invariant-loop-one : goal.invariant-loop-one
invariant-loop-one l = all_dropped (each pair_of (each (λ w. w.now) (drop l.one-index l.wanted))) l.self ≡ all_dropped (each pair_of (each (λ w. w.now) l.wanted)) l.initial.self
