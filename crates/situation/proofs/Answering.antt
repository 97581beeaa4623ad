-- Steps that may be refused.
use Rattle.std.proofs.Common.{◌≡◌, ◌≢◌, ℕ, Option, sym, subst}
use Rattle.std.specs.Prelude.{Result, Ok, Err, IfOk}
use Rattle.estelle_model.specs.declared.event.End.{End}
use Rattle.estelle_model.specs.declared.event.End.TheVariants.{Clock}
use Rattle.estelle_model.specs.Choosers.{Draw}
use Rattle.run_history.specs.Histories.{History}
use Rattle.situation.specs.declared.limits.Advanced.{Advanced}
use Rattle.situation.specs.declared.limits.Advanced.TheVariants as advanced
use Rattle.situation.specs.declared.execution.Execution.{Execution}
use Rattle.situation.specs.Steps.{HasAdvanced, MayBeNow, IsCauseOf}
use Rattle.situation.proofs.MoreRoom.{with_history, advanced_so}

-- a step that does not say that the clock failed has no cause to tell
pub no_cause : {E : Type 0} (r : Result Advanced E) (before : Option End) (faults faults' : ℕ) → IfOk r (λ done. done ≢ advanced.Ended Clock) → IfOk r (IsCauseOf before faults faults')
no_cause (Ok d) before faults faults' h = λ is. absurd (h is)
no_cause (Err e) before faults faults' h = tt

module _ {H E : Type 0} (draw : Draw H) where
  -- a step of a selection at this moment
  pub stepped_at : (r : Result Advanced E) (told after : Option ℕ) (c n : Execution H) (moment : ℕ) → after ≡ told → MayBeNow told moment c
      → IfOk r (λ done. (m : Option ℕ) → MayBeNow m moment c → HasAdvanced draw m m c n done) → IfOk r (HasAdvanced draw told after c n)
  stepped_at (Ok d) told after c n moment same may h = subst (λ (m : Option ℕ). HasAdvanced draw told m c n d) (sym same) (h told may)
  stepped_at (Err e) told after c n moment same may h = tt

  -- a step that has nothing to do with the clock
  pub stepped_any : (r : Result Advanced E) (told : Option ℕ) (c n : Execution H) → IfOk r (λ done. (m : Option ℕ) → HasAdvanced draw m m c n done) → IfOk r (HasAdvanced draw told told c n)
  stepped_any (Ok d) told c n h = h told
  stepped_any (Err e) told c n h = tt

  -- a step from a execution whose history has more memory
  pub stepped_more : (r : Result Advanced E) (told after : Option ℕ) (c n : Execution H) (h : History) → h.entries ≡ c.history.entries → IfOk r (HasAdvanced draw told after (with_history c h) n) → IfOk r (HasAdvanced draw told after c n)
  stepped_more (Ok d) told after c n h same s = advanced_so draw told after c n h d same s
  stepped_more (Err e) told after c n h same s = tt
