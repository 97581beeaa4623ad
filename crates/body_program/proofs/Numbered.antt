-- What is counted from 1, in a list.
use Rattle.std.proofs.Common.{◌≡◌, ℕ, zero, suc, ◌-◌, List, refl, ap, arith}
use Rattle.std.specs.Prelude.{slice_get}
use Rattle.estelle_model.specs.declared.meaning.Routine.{Routine}
use Rattle.estelle_model.specs.Transitions.{Transition}
use Rattle.estelle_model.specs.Subject.{numbered_one}
use Rattle.body_program.specs.Chosen.{block_numbered}

pub numbered_transition : (ts : List Transition) (n : ℕ) → ¬ (n ≡ 0) → numbered_one ts n ≡ slice_get ts (n - 1)
numbered_transition ts zero not = absurd (not refl)
numbered_transition ts (suc n) not = ap (slice_get ts) {x = n} {y = suc n - 1} (omega arith)

pub numbered_block : (rs : List Routine) (n : ℕ) → ¬ (n ≡ 0) → block_numbered rs n ≡ slice_get rs (n - 1)
numbered_block rs zero not = absurd (not refl)
numbered_block rs (suc n) not = ap (slice_get rs) {x = n} {y = suc n - 1} (omega arith)

pub ruleset numbered = (numbered_transition, numbered_block)
