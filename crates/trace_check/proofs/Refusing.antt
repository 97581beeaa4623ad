-- What is refused, by the first entry that does not apply.
use Rattle.std.proofs.Common.{◌≡◌, ℕ, zero, suc, ◌+◌, ◌<◌, ◌≤◌, List, [], take, length, sym, ap, subst, ◌∙◌, arith, add-one}
use Rattle.std.proofs.lemmas.List.{take_all}
use Rattle.estelle_model.specs.declared.event.Event.{Event}
use Rattle.estelle_model.specs.declared.event.End.{End}
use Rattle.estelle_model.specs.declared.event.End.TheVariants as end
use Rattle.estelle_model.specs.Subject.{Subject}
use Rattle.estelle_model.specs.Runs.{IsRun}
use Rattle.estelle_model.specs.Ends.{Closes}
use Rattle.trace_check.specs.Judging.{IsRunTo, Apply, IsFirstWrong, event, ending}

module _ (s : Subject) (budget : ℕ) (events : List Event) (e : End) where
  apply_of : (n : ℕ) → 1 ≤ n → IsRun s budget (take n events) → Apply s budget events n
  apply_of zero some run = tt
  apply_of (suc n) some run = run

  all_of : (n : ℕ) → n ≡ length events → take n events ≡ events
  all_of n is = take_all n events (omega (arith, is))

  -- an event is refused
  pub wrong_event : (n : ℕ) → 1 ≤ n → n < length events → IsRun s budget (take n events) → (IsRun s budget (take (suc n) events) → ⊥) → IsFirstWrong s budget events e (n + 1)
  wrong_event n some within run wrong = subst (IsFirstWrong s budget events e) (sym (add-one n)) (event n within (apply_of n some run) wrong)

  -- the first one is
  pub wrong_first : 0 < length events → (IsRun s budget (take 1 events) → ⊥) → IsFirstWrong s budget events e 1
  wrong_first within wrong = event 0 within tt wrong

  -- the end is
  pub wrong_end : (n : ℕ) → n ≡ length events → 1 ≤ n → IsRun s budget (take n events) → (Closes s budget events e → ⊥) → IsFirstWrong s budget events e (n + 1)
  wrong_end n is some run wrong =
      subst (λ (k : ℕ). IsFirstWrong s budget events e k) (sym (add-one n ∙ ap suc is))
      (ending (apply_of (length events) (omega (arith, is, some)) (subst (λ (k : ℕ). IsRun s budget (take k events)) is run)) wrong)

  -- all is as told
  pub run_to : (n : ℕ) → n ≡ length events → IsRun s budget (take n events) → Closes s budget events e → IsRunTo s budget events e
  run_to n is run closes = record { run = subst (IsRun s budget) (all_of n is) run; closes = closes }

-- without events there is no run, and so no end
pub no_events : (s : Subject) (budget : ℕ) (events : List Event) (e : End) → events ≡ [] → IsFirstWrong s budget events e 1
no_events s budget events e is = subst (λ (es : List Event). IsFirstWrong s budget es e 1) (sym is) (ending tt (none e))
  where
    none : (e : End) → Closes s budget [] e → ⊥
    none end.Dead h = h.0
    none end.Turns h = h
    none end.Clock h = h
    none (end.Faulted kind) h = h
