use Rattle.std.proofs.Common.{◌≡◌, ◌++◌, drop, map as each}
use Rattle.delay_timers.specs.Renewal.{lacking}
use Rattle.delay_timers.proofs.timers.Timers.lacking.Given as goal

abbrev pub invariant-loop-one : goal.invariant-loop-one
invariant-loop-one l = each (λ w. w.now) l.those.items ++ lacking l.self (drop l.one-index l.wanted) ≡ lacking l.self l.wanted
