-- A run that has ended.
use Rattle.std.proofs.Common.{◌≡◌, ℕ, List, Option, Some, subst}
use Rattle.estelle_model.specs.declared.event.End.{End}
use Rattle.estelle_model.specs.Subject.{Subject}
use Rattle.estelle_model.specs.Choosers.{Draw}
use Rattle.run_history.specs.declared.entry.Entry.{Entry}
use Rattle.run_history.specs.Histories.{project}
use Rattle.situation_steps.specs.declared.systems.Time.{Time}
use Rattle.situation.specs.declared.execution.Execution.{Execution}
use Rattle.situation.specs.Runs.{IsClosed, AreReached, IsStopped}
use Rattle.situation.specs.Worlds.{IsKept, IsExecution, IsReached}

pub closed_stops : {C : Type 0} (draw : Draw C) (s : Subject) (budget turns : ℕ) (clock moment : Option ℕ) (first c : C) (entries : List Entry) (time : Time) (e : End) → IsClosed s budget turns entries time.waited e
    → AreReached draw s budget turns clock first entries c time moment → IsStopped draw first clock s budget turns (project entries) e
closed_stops draw s budget turns clock moment first c entries time e closed reached = record {
  run = closed.run;
  stops = closed.stops;
  scheduled = record {
    kept = record { chooser = c; known = time.known; waited = time.waited; clock = reached.known };
    reached = reached.reached;
    ends = closed.planned;
  };
}

-- a execution that has ended so
pub execution_stops : {H : Type 0} (draw : Draw H) (c : Execution H) → IsExecution c → (clock moment : Option ℕ) (first : H) → IsReached draw clock first c moment → (e : End) → c.end ≡ Some e
    → IsStopped draw first clock c.state.program.now c.state.budget c.turns (project c.history.entries) e
execution_stops draw c keeps clock moment first reached e is = closed_stops draw c.state.program.now c.state.budget c.turns clock moment first c.chooser c.history.entries c.time e (subst (IsKept c) is keeps).closed reached
