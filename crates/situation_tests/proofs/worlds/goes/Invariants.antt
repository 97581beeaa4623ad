use Rattle.std.proofs.Common.{◌≡◌, []}
use Rattle.run_history.specs.OpenTickets.{open_in}
use Rattle.situation_tests.proofs.worlds.goes.Given as goal

abbrev pub invariant-loop-wanted : goal.invariant-loop-wanted
invariant-loop-wanted l = open_in l.world.history.entries ≡ []
