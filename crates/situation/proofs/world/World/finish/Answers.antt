use Rattle.run_history.specs.Histories.{project}
use Rattle.situation.proofs.Stopped.{execution_stops}
use Rattle.situation.proofs.Finished.{ended_run, ended_stops, ended_leads}
use Rattle.situation.proofs.world.World.finish.Goals as goal

pub returns-clause-order : goal.returns-clause-order
returns-clause-order g c =
    let execution = c.self.inside.execution in
    rw (← c.self.view_is) (c.first_in_is_first_out.ensures.first execution.state.program.now (ended_leads execution c.self.invariant.0 c.in-Some.end c.in-Some.is) execution.state.budget (project execution.history.entries) (ended_run execution c.self.invariant.0 c.in-Some.end c.in-Some.is))

pub returns-clause-stops : goal.returns-clause-stops
returns-clause-stops g c =
    let execution = c.self.inside.execution in
    rw (← c.self.view_is) (ended_stops execution c.self.invariant.0 c.in-Some.end c.in-Some.is)

pub returns-clause-stopped : goal.returns-clause-stopped
returns-clause-stopped g c =
    let execution = c.self.inside.execution in
    rw (← c.self.view_is) (λ clock first reached. execution_stops g.H.Chooser.draw execution c.self.invariant.0 clock (g.C.Clock.moment c.self.inside.clock) first reached c.in-Some.end c.in-Some.is)
