use Rattle.std.proofs.Common.{◌≡◌, drop, take, map as each}
use Rattle.delay_timers.specs.Renewal.{all_started, CanStart}
use Rattle.delay_timers.proofs.timers.Timers.start_all.Given as goal

abbrev pub invariant-loop-i : goal.invariant-loop-i
invariant-loop-i l = record { reached : l.self ≡ all_started l.now (each (λ w. w.now) (take l.i l.wanted)) l.initial.self; can : CanStart l.now (each (λ w. w.now) (drop l.i l.wanted)) l.self }
