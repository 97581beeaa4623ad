-- Firings and the start, by their blocks.
use Rattle.std.proofs.Common.{◌≡◌, ℕ, zero, suc, List, [], Option, Some, None, Result, Ok, Err, refl, sym, subst, true}
use Rattle.std.specs.Prelude.{IfOk, option_map}
use Rattle.std.specs.declared.alloc.AllocError.{AllocError}
use Rattle.estelle_tree.specs.Paths.{Path}
use Rattle.body_code.specs.declared.unit.CodeUnit.{CodeUnit}
use Rattle.body_code.specs.declared.unit.Entry.TheVariants as entry
use Rattle.body_code.specs.Units.{unit_of}
use Rattle.estelle_model.specs.declared.image.Image.{Image}
use Rattle.estelle_model.specs.declared.image.Interaction.{Interaction}
use Rattle.estelle_model.specs.declared.job.Job.{Job}
use Rattle.estelle_model.specs.declared.job.Outcome.{Outcome}
use Rattle.estelle_model.specs.Core.{Instance}
use Rattle.estelle_model.specs.Belonging.{are_values_of}
use Rattle.estelle_model.specs.Blocks.{fresh}
use Rattle.estelle_model.specs.Computed.{core_of, log_from, values_of}
use Rattle.estelle_model.specs.Firing.{bare}
use Rattle.estelle_model.specs.Transitions.{Transition}
use Rattle.estelle_model.specs.Subject.{Subject, begins, transition}
use Rattle.body_state.specs.InOrder.{InOrder, instance_in}
use Rattle.body_state.proofs.OrderLemmas.{holds_of}
use Rattle.body_state.proofs.PartLemmas.{shown}
use Rattle.body_numbers.specs.declared.numbers.Numbers.{Numbers}
use Rattle.body_jobs.specs.Jobs.{job_of}
use Rattle.body_machine_meaning.specs.Executed.{Fires, FiresIf, FiresOf, Starts, Executes}
use Rattle.body_machine_jobs.specs.Made.{Makes}

module _ (s : Subject) (n : Numbers) (code : List CodeUnit) (path : Path) (image : Image) (head : Option Interaction) (budget : ℕ) (x : Result (Outcome × ℕ) AllocError) where
  abbrev pub job : ℕ → ℕ → Job
  job trans ticket = record (job_of path trans image head budget) { ticket = ticket }

  -- ---- the start

  starts : (ticket trans : ℕ) → IfOk x (λ made. Makes s n code true 0 (unit_of code 0 entry.Initialize) [] [] (fresh (log_from (bare s).core) budget) (begins s 0).to made.0 made.1) → IfOk x (λ made. Starts s n code (job trans ticket) made.0 made.1)
  starts ticket trans = by x
    where
      by : (y : Result (Outcome × ℕ) AllocError) → IfOk y (λ made. Makes s n code true 0 (unit_of code 0 entry.Initialize) [] [] (fresh (log_from (bare s).core) budget) (begins s 0).to made.0 made.1) → IfOk y (λ made. Starts s n code (job trans ticket) made.0 made.1)
      by (Ok made) h = record { block = h.0; runs = h.1; made = h.2 }
      by (Err e) h = tt

  pub started : (trans ticket : ℕ) → trans ≡ 0 → IfOk x (λ made. Makes s n code true 0 (unit_of code 0 entry.Initialize) [] [] (fresh (log_from (bare s).core) budget) (begins s 0).to made.0 made.1) → IfOk x (λ made. Executes s n code (job trans ticket) trans made.0 made.1)
  started zero ticket e h = starts ticket zero h
  started (suc k) ticket e h = absurd (cc)

  -- ---- firings

  fires : (trans ticket body : ℕ) (t : Transition) → IfOk x (λ made. Makes s n code (are_values_of t.received (values_of head)) body (unit_of code body (entry.Block trans)) path (values_of head) (fresh (log_from (core_of s image)) budget) t.to made.0 made.1) → IfOk x (λ made. Fires s n code (job trans ticket) body t made.0 made.1)
  fires trans ticket body t = by x
    where
      by : (y : Result (Outcome × ℕ) AllocError) → IfOk y (λ made. Makes s n code (are_values_of t.received (values_of head)) body (unit_of code body (entry.Block trans)) path (values_of head) (fresh (log_from (core_of s image)) budget) t.to made.0 made.1) → IfOk y (λ made. Fires s n code (job trans ticket) body t made.0 made.1)
      by (Ok made) h = record { block = h.0; runs = h.1; made = h.2 }
      by (Err e) h = tt

  pub fired : (trans ticket body : ℕ) (o : Option Transition) (t : Transition) → Some t ≡ o → IfOk x (λ made. Makes s n code (are_values_of t.received (values_of head)) body (unit_of code body (entry.Block trans)) path (values_of head) (fresh (log_from (core_of s image)) budget) t.to made.0 made.1) → IfOk x (λ made. FiresIf s n code (job trans ticket) body o made.0 made.1)
  fired trans ticket body o t is h = subst (λ q. IfOk x (λ made. FiresIf s n code (job trans ticket) body q made.0 made.1)) is (fires trans ticket body t h)

  pub not_fired : (trans ticket body : ℕ) (o : Option Transition) (made : Outcome × ℕ) → None ≡ o → FiresIf s n code (job trans ticket) body o made.0 made.1
  not_fired trans ticket body o made is = subst (λ q. FiresIf s n code (job trans ticket) body q made.0 made.1) is tt

  -- ---- of the instance with the path

  by_instance : (trans ticket : ℕ) (o : Option Instance) (k : ℕ) → Some k ≡ option_map (λ (i : Instance). i.body) o → IfOk x (λ made. FiresIf s n code (job trans ticket) k (transition s k trans) made.0 made.1) → IfOk x (λ made. FiresOf s n code (job trans ticket) o made.0 made.1)
  by_instance trans ticket None k e h = absurd (cc)
  by_instance trans ticket (Some i) k e h = let same : k ≡ i.body = cc in subst (λ b. IfOk x (λ made. FiresIf s n code (job trans ticket) b (transition s b trans) made.0 made.1)) same h

  pub executed : InOrder image.parts → (trans ticket k : ℕ) → ¬ (trans ≡ 0) → Some k ≡ option_map (λ (i : Instance). i.body) (instance_in image.parts path) → IfOk x (λ made. FiresIf s n code (job trans ticket) k (transition s k trans) made.0 made.1) → IfOk x (λ made. Executes s n code (job trans ticket) trans made.0 made.1)
  executed order zero ticket k not e h = absurd (not refl)
  executed order (suc m) ticket k not e h = subst (λ o. IfOk x (λ made. FiresOf s n code (job (suc m) ticket) o made.0 made.1)) (sym (shown image.parts (holds_of _ order) path)) (by_instance (suc m) ticket (instance_in image.parts path) k e h)

  none_at : (trans ticket : ℕ) (made : Outcome × ℕ) (o : Option Instance) → None ≡ option_map (λ (i : Instance). i.body) o → FiresOf s n code (job trans ticket) o made.0 made.1
  none_at trans ticket made None e = tt
  none_at trans ticket made (Some i) e = absurd (cc)

  pub none_executed : InOrder image.parts → (trans ticket : ℕ) (made : Outcome × ℕ) → ¬ (trans ≡ 0) → None ≡ option_map (λ (i : Instance). i.body) (instance_in image.parts path) → Executes s n code (job trans ticket) trans made.0 made.1
  none_executed order zero ticket made not e = absurd (not refl)
  none_executed order (suc m) ticket made not e = subst (λ o. FiresOf s n code (job (suc m) ticket) o made.0 made.1) (sym (shown image.parts (holds_of _ order) path)) (none_at (suc m) ticket made (instance_in image.parts path) e)
