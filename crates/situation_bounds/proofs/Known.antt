-- What is known of a scheduled run, and of how often it has selected and waited.
use Rattle.std.proofs.Common.{◌≡◌, ◌≤◌, ◌+◌, ◌*◌, ℕ, Bool, List, ◌∷◌, [], ◌++◌, length, cond}
use Rattle.std.specs.Prelude.{count_by}
use Rattle.estelle_model.specs.declared.event.Event.{Event}
use Rattle.estelle_model.specs.Subject.{Subject}
use Rattle.estelle_model.specs.Ends.{fires}
use Rattle.estelle_model_legality.proofs.Lists.{count_append}
use Rattle.situation_steps.specs.declared.systems.System.{System}
use Rattle.situation_steps.specs.UnderWay.{IsUnderWay}
use Rattle.run_counts.specs.Counts.{is_select, selections}

-- how many systems await a selection
abbrev pub awaiting : List System → ℕ
awaiting = count_by (λ x. x.awaits)

-- after these events, with the last moment that is known, the events before the last wait, and so many waits
pub record IsKnown (s : Subject) (budget : ℕ) (events : List Event) (known waited waits : ℕ) : Type 0 where
  pub may_wait : Bool
  pub systems : List System
  pub under_way : IsUnderWay s budget events (record { known = known; waited = waited; may_wait = may_wait }) systems
  -- each system that awaits a selection may select once more
  pub selected : selections events + awaiting systems ≤ (fires events + waits + 1) * length systems
  -- and where the clock may be waited for, it may once more
  pub has_waited : waits + cond may_wait 1 0 ≤ fires events + 1

pub selections-push : (es : List Event) (e : Event) → selections (es ++ e ∷ []) ≡ selections es + cond (is_select e) 1 0
selections-push es e = count_append Event is_select es e
