-- What was executed and written is the trace of a run of the input, or the counts of a run of the ring.
use Rattle.std.proofs.Common.{◌≡◌, ℕ, List, Option, Some, sym, ap, subst, ◌∙◌}
use Rattle.std.specs.Prelude.{Result, Ok, Err, IfSome, IfOk, IsOkAnd, OnOk}
use Rattle.estelle_model.specs.declared.event.Event.{Event}
use Rattle.estelle_model.specs.declared.event.End.{End}
use Rattle.estelle_model.specs.declared.event.End.TheVariants.{Clock}
use Rattle.estelle_model.specs.declared.event.Run.{Run as Events}
use Rattle.estelle_model.specs.Subject.{Subject}
use Rattle.estelle_model.specs.Ends.{Stops}
use Rattle.estelle_model.specs.Runs.{IsRun}
use Rattle.estelle_model.specs.Trace.{text}
use Rattle.spec_accept.specs.declared.checked.Checked.{Checked}
use Rattle.situation.specs.declared.limits.Limits.{Limits}
use Rattle.outside.specs.Choices.{any_drawn}
use Rattle.situation.specs.Runs.{IsStopped}
use Rattle.estelle_model.specs.Subject.{subject as with_names}
use Rattle.estelle_cli.specs.declared.contents.Contents.TheVariants.{Alone}
use Rattle.estelle_cli.specs.Input.{subject, Reads}
use Rattle.spec_maker.specs.Ring.{IsRing}
use Rattle.run_counts.specs.Counts.{counts_line}
use Rattle.estelle_cli.specs.Answers.{chooser_by, IsExecuted, IsTrace, IsTried, IsListing, IsListed, IsOutput}
use Rattle.estelle_cli.specs.Calls.{HasClose}
use Rattle.estelle_cli.specs.declared.outcome.Close.{Close}
use Rattle.estelle_cli.specs.declared.outcome.Stop.{Stop}
use Rattle.estelle_cli.specs.declared.task.Task.TheVariants.{Run}

-- what holds of an accepted specification with its names holds of the specification
of_it : (P : Subject → Type 0) (checked : Checked) → P (with_names checked.spec checked.names) → P (subject checked.spec)
of_it P checked h =
    let same : with_names checked.spec checked.names ≡ subject checked.spec = ap (λ us. record { specification = checked.spec; names = us }) checked.named in
    subst P same h

-- where the schedule chooses a run, it is executed, however many workers are asked for
pub stopped_executed : {E : Type 0} (is_chosen : ℕ → Type 0) (limits : Limits) (seed clock : Option ℕ) (workers : ℕ) (s : Subject) (ran : Result (Events × End) E)
    → IfOk ran (λ r. IsStopped any_drawn (chooser_by seed) clock s limits.budget limits.turns r.0.events r.1) → IfOk ran (λ r. IsExecuted is_chosen s limits seed clock workers r.0.events r.1)
stopped_executed is_chosen limits seed clock workers s (Ok r) h = record { run = h.run; stops = h.stops; scheduled = λ _. h.scheduled }
stopped_executed is_chosen limits seed clock workers s (Err f) h = tt

-- and where workers are asked for, and the schedule is not, the run alone
pub run_executed : {E : Type 0} (is_chosen : ℕ → Type 0) (limits : Limits) (seed clock : Option ℕ) (workers : ℕ) (s : Subject) (ran : Result (Events × End) E) → (is_chosen workers → ⊥)
    → IfOk ran (λ r. IsRun s limits.budget r.0.events) → IfOk ran (λ r. Stops s limits.budget limits.turns r.0.events r.1) → IfOk ran (λ r. IsExecuted is_chosen s limits seed clock workers r.0.events r.1)
run_executed is_chosen limits seed clock workers s (Ok r) unchosen run stops = record { run = run; stops = stops; scheduled = λ chosen. absurd (unchosen chosen) }
run_executed is_chosen limits seed clock workers s (Err f) unchosen run stops = tt

-- what is written of a run that was executed is its trace
pub written_trace : {E F : Type 0} (is_chosen : ℕ → Type 0) (limits : Limits) (seed clock : Option ℕ) (workers : ℕ) (left : Option (List ℕ)) (checked : Checked) (ran : Result (Events × End) E) (done : Result (List ℕ × End) F)
    → IfSome left (λ bytes. Reads Alone bytes checked.spec)
    → IfOk ran (λ r. IsExecuted is_chosen (with_names checked.spec checked.names) limits seed clock workers r.0.events r.1)
    → IfOk done (λ x. IsOkAnd ran (λ r. (x.0 ≡ text r.0.events r.1) × (x.1 ≡ r.1))) → IfOk done (λ x. IsTrace is_chosen limits seed clock workers left x.1 x.0)
written_trace is_chosen limits seed clock workers left checked (Ok r) (Ok x) reads executed is =
    subst (λ (e : End). IsTrace is_chosen limits seed clock workers left e x.0) (sym is.1)
    (record {
      specification = checked.spec;
      events = r.0.events;
      input = reads;
      executed = of_it (λ s. IsExecuted is_chosen s limits seed clock workers r.0.events r.1) checked executed;
      lines = is.0;
    })
written_trace is_chosen limits seed clock workers left checked (Err f) (Ok x) reads executed is = absurd is
written_trace is_chosen limits seed clock workers left checked (Ok r) (Err e) reads executed is = tt
written_trace is_chosen limits seed clock workers left checked (Err f) (Err e) reads executed is = tt

-- a trace with its close is the output of the run
pub closed_output : (is_chosen : ℕ → Type 0) (limits : Limits) (seed clock : Option ℕ) (workers : ℕ) (left : Option (List ℕ)) (traced : Result (List ℕ × End) Stop) (done : Result (List ℕ × Close) Stop) → HasClose traced done
    → IfOk traced (λ x. IsTrace is_chosen limits seed clock workers left x.1 x.0) → IfOk done (λ y. IsOutput is_chosen (Run limits seed workers) clock left y.1 y.0)
closed_output is_chosen limits seed clock workers left (Ok x) (Ok y) h t = (x.1, h.1, subst (λ (text : List ℕ). IsTrace is_chosen limits seed clock workers left x.1 text) (sym h.0) t)
closed_output is_chosen limits seed clock workers left (Err e) (Err f) h t = tt
closed_output is_chosen limits seed clock workers left (Ok x) (Err f) h t = tt
closed_output is_chosen limits seed clock workers left (Err e) (Ok y) h t = absurd h

-- and a clock has ended it only for the cause for which it ended the run
pub written_cause : {E F : Type 0} (Cause : Type 0) (ran : Result (Events × End) E) (done : Result (List ℕ × End) F) → IfOk ran (λ r. r.1 ≡ Clock → Cause)
    → IfOk done (λ x. IsOkAnd ran (λ r. (x.0 ≡ text r.0.events r.1) × (x.1 ≡ r.1))) → IfOk done (λ x. x.1 ≡ Clock → Cause)
written_cause Cause (Ok r) (Ok x) cause is = λ clocked. cause (sym is.1 ∙ clocked)
written_cause Cause (Err f) (Ok x) cause is = absurd is
written_cause Cause (Ok r) (Err e) cause is = tt
written_cause Cause (Err f) (Err e) cause is = tt

-- what holds whatever was done
pub always : {T E : Type 0} (P : Type 0) (r : Result T E) → P → OnOk r P
always P (Ok x) p = p
always P (Err e) p = tt

pub stopped_tried : (n : ℕ) (limits : Limits) (seed : Option ℕ) (checked : Checked) (events : List Event) (e : End) (written : List ℕ) → IsRing n checked.spec
    → IsStopped any_drawn (chooser_by seed) (Some 0) (with_names checked.spec checked.names) limits.budget limits.turns events e → written ≡ counts_line events e → IsTried n limits seed written
stopped_tried n limits seed checked events e written ring stopped line = record {
  specification = checked.spec;
  made = ring;
  events = events;
  e = e;
  stopped = of_it (λ s. IsStopped any_drawn (chooser_by seed) (Some 0) s limits.budget limits.turns events e) checked stopped;
  line = line;
}

-- an accepted specification's listing is that of the specification
pub listing_shown : (left : Option (List ℕ)) (checked : Checked) (written : List ℕ) → IfSome left (λ bytes. Reads Alone bytes checked.spec) → IsListing (with_names checked.spec checked.names) written → IsListed left written
listing_shown left checked written reads is = record { specification = checked.spec; input = reads; listing = of_it (λ s. IsListing s written) checked is }
