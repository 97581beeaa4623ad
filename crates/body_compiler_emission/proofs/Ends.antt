-- Jumps to an end that is known at last.
use Rattle.std.proofs.Common.{◌≡◌, ◌∙◌, ℕ, ◌<◌, List, [], ◌∷◌, ◌++◌, length, refl, sym, ap}
use Rattle.std.specs.Prelude.{slice_set}
use Rattle.std.proofs.lemmas.List.{set-append_left, length-set}
use Rattle.body_code.specs.declared.instr.Instr.{Instr}
use Rattle.body_code.specs.declared.instr.Instr.TheVariants as op
use Rattle.body_compiler_pieces.specs.Pieces.{Piece}
use Rattle.body_compiler_emission.specs.Drafts.{Drafted, grown, with_instr_at, ends_closed}
use Rattle.body_compiler_emission.proofs.Growth.{same}

-- what is set before a piece stays as it is
pub set_before : (at : ℕ) (i : Instr) (p : Piece) (u : Drafted) → at < length u.instrs → with_instr_at at i (grown p u) ≡ grown p (with_instr_at at i u)
unfolding grown with_instr_at
set_before at i p u less = same (with_instr_at at i (grown p u)) (grown p (with_instr_at at i u)) refl
    (set-append_left u.instrs (p.code (length u.locals) (length u.instrs)) at i less ∙ (λ j. slice_set u.instrs at i ++ p.code (length u.locals) (sym (length-set u.instrs at i) j)))
    refl

-- setting keeps the length
pub set_long : (at : ℕ) (i : Instr) (u : Drafted) → length (with_instr_at at i u).instrs ≡ length u.instrs
unfolding with_instr_at
set_long at i u = length-set u.instrs at i

pub ends_long : (es : List ℕ) (n : ℕ) (u : Drafted) → length (ends_closed es n u).instrs ≡ length u.instrs
ends_long [] n u = refl
ends_long (e ∷ es) n u = set_long e (op.Jump n) (ends_closed es n u) ∙ ends_long es n u

pub end_set : (es : List ℕ) (e n : ℕ) (u : Drafted) → ends_closed (es ++ e ∷ []) n u ≡ ends_closed es n (with_instr_at e (op.Jump n) u)
end_set [] e n u = refl
end_set (d ∷ es) e n u = ap (λ v. with_instr_at d (op.Jump n) v) (end_set es e n u)
