use Rattle.std.proofs.Common.{subst}
use Rattle.situation.specs.Known.{IsOfRun}
use Rattle.situation.proofs.Knowing.{of_run}
use Rattle.situation.proofs.world.World.end.Goals as goal

pub returns-clause-keeps : goal.returns-clause-keeps
returns-clause-keeps g c = subst IsOfRun c.self.view_is (of_run c.self.inside.first c.self.inside.execution c.self.inside.clock c.self.invariant.0)
