-- A unit grows by one piece after another.
use Rattle.std.proofs.Common.{◌≡◌, ◌∙◌, ℕ, ◌+◌, Bool, true, false, List, [], ◌∷◌, ◌++◌, length, map, refl, sym, ap, append_assoc, length-append}
use Rattle.std.specs.Prelude.{◌&&◌}
use Rattle.std.proofs.lemmas.List.{append-nil, map-append, length-map}
use Rattle.std.proofs.Math.Bool.{and-true}
use Rattle.body_code.specs.declared.unit.Local.{Local}
use Rattle.body_code.specs.declared.instr.Instr.{Instr}
use Rattle.body_compiler_pieces.specs.Pieces.{Piece, none, one, ◌⨾◌}
use Rattle.body_compiler_pieces.specs.UnitCode.{variable}
use Rattle.body_compiler_emission.specs.Drafts.{Drafted, grown, with_instr}

-- by its parts
pub same : (u v : Drafted) → u.locals ≡ v.locals → u.instrs ≡ v.instrs → u.fine ≡ v.fine → u ≡ v
same u v locals instrs fine = λ i. record { locals = locals i; instrs = instrs i; fine = fine i }

pub and_assoc : (a b c : Bool) → ((a && b) && c) ≡ (a && (b && c))
and_assoc true b c = refl
and_assoc false b c = refl

pub grown_none : (u : Drafted) → grown none u ≡ u
unfolding grown
grown_none u = same (grown none u) u (append-nil u.locals) (append-nil u.instrs) (and-true u.fine)

pub grown_one : (i : Instr) (u : Drafted) → grown (one i) u ≡ with_instr i u
unfolding grown with_instr
grown_one i u = same (grown (one i) u) (with_instr i u) (append-nil u.locals) refl (and-true u.fine)

pub grown_locals : (p : Piece) (u : Drafted) → length (grown p u).locals ≡ length u.locals + length p.temporaries
unfolding grown
grown_locals p u = length-append u.locals (map variable p.temporaries) ∙ ap (λ n. length u.locals + n) (length-map p.temporaries variable)

pub grown_then : (p q : Piece) (u : Drafted) → grown (p ⨾ q) u ≡ grown q (grown p u)
unfolding grown
grown_then p q u = same (grown (p ⨾ q) u) (grown q (grown p u))
    (ap (λ ls. u.locals ++ ls) (map-append variable p.temporaries q.temporaries) ∙ sym (append_assoc u.locals (map variable p.temporaries) (map variable q.temporaries)))
    (sym (append_assoc u.instrs (p.code (length u.locals) (length u.instrs)) _)
    ∙ (λ i. (u.instrs ++ p.code (length u.locals) (length u.instrs)) ++ q.code (sym (grown_locals p u) i) (sym (length-append u.instrs (p.code (length u.locals) (length u.instrs))) i)))
    (sym (and_assoc u.fine p.fine q.fine))
