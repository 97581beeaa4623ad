use Rattle.std.proofs.Common.{◌≡◌}
use Rattle.situation_steps.specs.Systems.{after_wait}
use Rattle.situation.proofs.Listed.{changed_to}
use Rattle.situation.proofs.systems.wake_all.Given as goal

abbrev pub invariant-loop-system : goal.invariant-loop-system
invariant-loop-system l = l.systems ≡ changed_to after_wait l.system-index l.initial.systems
