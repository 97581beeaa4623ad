-- What is counted of a run, and the line that tells it.
use Rattle.std.specs.Prelude.{ℕ, ◌+◌, ◌*◌, ◌≤◌, Bool, true, false, List, ◌++◌, length, count_by, codes}
use Rattle.std.specs.Fmt.{decimal}
use Rattle.estelle_model.specs.declared.event.Event.{Event}
use Rattle.estelle_model.specs.declared.event.Event.TheVariants.{Select}
use Rattle.estelle_model.specs.declared.event.End.{End}
use Rattle.estelle_model.specs.Subject.{Subject}
use Rattle.estelle_model.specs.Runs.{IsRun}
use Rattle.estelle_model.specs.Ends.{fires}
use Rattle.estelle_model.specs.Trace.{end_line}
use Rattle.estelle_model_fates.specs.Fates.{outputs}

-- a system selects
abbrev pub is_select : Event → Bool
is_select (Select system now takes) = true
is_select _ = false

-- how many selections there were
abbrev pub selections : List Event → ℕ
selections = count_by is_select

-- how many of the outputs were lost
abbrev pub losses : List Event → ℕ
losses events = count_by (λ o. o.lost) (outputs events)

-- the firings, the selections, all outputs, those that were lost, and the end
abbrev pub counts_line : List Event → End → List ℕ
counts_line events e = codes "fires " ++ (decimal (fires events) ++ (codes " selects " ++ (decimal (selections events)
    ++ (codes " outputs " ++ (decimal (length (outputs events)) ++ (codes " lost " ++ (decimal (losses events) ++ (codes " " ++ end_line e))))))))

-- ---- law

-- a run makes no more outputs than its start and its firings have units
abbrev pub OutputsAreWithin : Type 0
OutputsAreWithin = (s : Subject) (budget : ℕ) (events : List Event) → IsRun s budget events → length (outputs events) ≤ budget * (fires events + 1)
