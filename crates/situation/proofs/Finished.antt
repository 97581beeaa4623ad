-- The run of a world that has ended.
use Rattle.std.proofs.Common.{◌≡◌, ℕ, Option, Some, subst, ◌∙◌}
use Rattle.estelle_model.specs.declared.event.End.{End}
use Rattle.estelle_model.specs.Ends.{Stops}
use Rattle.estelle_model.specs.Runs.{IsRun}
use Rattle.estelle_model_legality.specs.Instances.{LeadsToStates}
use Rattle.estelle_model.specs.Choosers.{Draw}
use Rattle.estelle_model.specs.Subject.{Subject}
use Rattle.run_history.specs.Histories.{project}
use Rattle.situation.specs.declared.limits.Limits.{Limits}
use Rattle.situation.specs.declared.limits.Stepped.{Stepped}
use Rattle.situation.specs.Known.{Known, IsReachedBy, IsPlannedStep}
use Rattle.situation.proofs.Planned.{steps_reach}
use Rattle.situation.specs.declared.execution.Execution.{Execution}
use Rattle.situation.specs.Worlds.{IsExecution, IsKept}

-- its events are a run
pub ended_run : {H : Type 0} (c : Execution H) → IsExecution c → (e : End) → c.end ≡ Some e → IsRun c.state.program.now c.state.budget (project c.history.entries)
ended_run c keeps e is = (subst (IsKept c) is keeps).closed.run

-- which stops with this end
pub ended_stops : {H : Type 0} (c : Execution H) → IsExecution c → (e : End) → c.end ≡ Some e → Stops c.state.program.now c.state.budget c.turns (project c.history.entries) e
ended_stops c keeps e is = (subst (IsKept c) is keeps).closed.stops

-- and its bodies lead to states of their own
pub ended_leads : {H : Type 0} (c : Execution H) → IsExecution c → (e : End) → c.end ≡ Some e → LeadsToStates c.state.program.now
ended_leads c keeps e is = (subst (IsKept c) is keeps).leads

-- what holds of what the planned steps lead to then holds of it from where they began
pub carried : {C H : Type 0} (draw : Draw H) (moment : C → Option ℕ) (entry before after : Known C H) (did : Stepped) → IsPlannedStep draw moment before after did → before.subject ≡ entry.subject → before.limits ≡ entry.limits
    → ((clock : Option ℕ) (first : H) → IsReachedBy draw moment clock first entry → IsReachedBy draw moment clock first before)
    → (P : Option ℕ → H → Subject → Limits → Type 0) → ((clock : Option ℕ) (first : H) → IsReachedBy draw moment clock first after → P clock first after.subject after.limits)
    → (clock : Option ℕ) (first : H) → IsReachedBy draw moment clock first entry → P clock first entry.subject entry.limits
carried draw moment entry before after did planned subject limits reached P holds clock first begun =
    subst (λ (q : Subject × Limits). P clock first q.0 q.1) (λ i. ((planned.subject ∙ subject) i, (planned.limits ∙ limits) i))
    (holds clock first (steps_reach draw moment clock first before after did (reached clock first begun) planned))
