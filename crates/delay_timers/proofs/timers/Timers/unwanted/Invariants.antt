use Rattle.std.proofs.Common.{◌≡◌, ◌++◌}
use Rattle.delay_timers.specs.Renewal.{unwanted_run}
use Rattle.delay_timers.proofs.timers.Timers.unwanted.Given as goal

abbrev pub invariant-loop-path : goal.invariant-loop-path
invariant-loop-path l = l.pairs.items ++ unwanted_run l.wanted l.system l.rest ≡ unwanted_run l.wanted l.system l.initial.rest
