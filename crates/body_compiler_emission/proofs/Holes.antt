-- Jumps are set once their targets are known.
use Rattle.std.proofs.Common.{◌≡◌, ◌∙◌, ℕ, ◌+◌, List, [], ◌∷◌, ◌++◌, length, map, refl, sym, ap, arith, append_assoc, length-append}
use Rattle.std.specs.Prelude.{slice_set, ◌&&◌}
use Rattle.std.proofs.lemmas.List.{map-append, length-map}
use Rattle.std.proofs.Math.Seq.{set-append_seam}
use Rattle.std.proofs.Math.ListN.{length-set}
use Rattle.pascal_values.specs.declared.value.Shape.{Shape}
use Rattle.body_code.specs.declared.unit.Local.{Local}
use Rattle.body_code.specs.declared.instr.Instr.{Instr}
use Rattle.body_code.specs.declared.instr.Instr.TheVariants as op
use Rattle.body_compiler_pieces.specs.Pieces.{Piece, fork_code, fork, loop_code, loop, repeat_code, repeat, keep, count_code, count}
use Rattle.body_compiler_pieces.specs.UnitCode.{variable}
use Rattle.body_compiler_emission.specs.Drafts.{Drafted, grown, with_instr, with_instr_at, with_temporary, fork_closed, loop_closed, repeat_closed, count_closed}
use Rattle.body_compiler_emission.proofs.Growth.{same, and_assoc}

-- ---- lists of instructions

two_writes : (c a b : List Instr) (x y i j : Instr) → slice_set (slice_set (c ++ x ∷ (a ++ y ∷ b)) (length c) i) (length (c ++ i ∷ a)) j ≡ c ++ i ∷ (a ++ j ∷ b)
two_writes c a b x y i j =
    ap (λ l. slice_set l (length (c ++ i ∷ a)) j) (set-append_seam c x (a ++ y ∷ b) i ∙ sym (append_assoc c (i ∷ a) (y ∷ b)))
    ∙ set-append_seam (c ++ i ∷ a) y b j
    ∙ append_assoc c (i ∷ a) (j ∷ b)

fork_list : (is ps qs : List Instr) (x y : Instr) (a b : ℕ) → a ≡ length is → b ≡ length is + 1 + length ps
    → slice_set (slice_set ((((is ++ x ∷ []) ++ ps) ++ y ∷ []) ++ qs) a (op.Jfalse (b + 1))) b (op.Jump (length ((((is ++ x ∷ []) ++ ps) ++ y ∷ []) ++ qs)))
    ≡ is ++ op.Jfalse (length is + 1 + length ps + 1) ∷ (ps ++ op.Jump (length is + 1 + length ps + 1 + length qs) ∷ qs)
fork_list is ps qs x y a b e f =
    let all : List Instr = (((is ++ x ∷ []) ++ ps) ++ y ∷ []) ++ qs in
    let flat : all ≡ is ++ x ∷ (ps ++ y ∷ qs) = simp append_assoc in
    let l1 = length-append is (x ∷ (ps ++ y ∷ qs)) in
    let l2 = length-append ps (y ∷ qs) in
    let whole : length all ≡ length is + 1 + length ps + 1 + length qs = omega (arith, ap length flat, l1, l2) in
    let i = op.Jfalse (b + 1) in
    let at : b ≡ length (is ++ i ∷ ps) = omega (arith, length-append is (i ∷ ps)) in
    ap (λ l. slice_set (slice_set l a i) b (op.Jump (length all))) flat
    ∙ ap (λ n. slice_set (slice_set (is ++ x ∷ (ps ++ y ∷ qs)) n i) b (op.Jump (length all))) e
    ∙ ap (λ n. slice_set (slice_set (is ++ x ∷ (ps ++ y ∷ qs)) (length is) i) n (op.Jump (length all))) at
    ∙ two_writes is ps qs x y i (op.Jump (length all))
    ∙ ap (λ n. is ++ op.Jfalse (n + 1) ∷ (ps ++ op.Jump (length all) ∷ qs)) f
    ∙ ap (λ n. is ++ op.Jfalse (length is + 1 + length ps + 1) ∷ (ps ++ op.Jump n ∷ qs)) whole

loop_list : (is ps qs : List Instr) (x : Instr) (a b : ℕ) → a ≡ length is → b ≡ length is + 1 + length ps
    → slice_set ((((((is ++ x ∷ []) ++ ps) ++ qs) ++ op.Jfalse (length (((is ++ x ∷ []) ++ ps) ++ qs) + 3) ∷ []) ++ op.Turn ∷ []) ++ op.Jump (a + 1) ∷ []) a (op.Jump b)
    ≡ is ++ op.Jump (length is + 1 + length ps) ∷ (ps ++ (qs ++ (op.Jfalse (length is + 1 + length ps + length qs + 3) ∷ op.Turn ∷ op.Jump (length is + 1) ∷ [])))
loop_list is ps qs x a b e f =
    let all : List Instr = ((is ++ x ∷ []) ++ ps) ++ qs in
    let flat : all ≡ is ++ x ∷ (ps ++ qs) = simp append_assoc in
    let l1 = length-append is (x ∷ (ps ++ qs)) in
    let l2 = length-append ps qs in
    let whole : length all + 3 ≡ length is + 1 + length ps + length qs + 3 = omega (arith, ap length flat, l1, l2) in
    let end : List Instr = op.Jfalse (length all + 3) ∷ op.Turn ∷ op.Jump (a + 1) ∷ [] in
    let joined : ((all ++ op.Jfalse (length all + 3) ∷ []) ++ op.Turn ∷ []) ++ op.Jump (a + 1) ∷ [] ≡ is ++ x ∷ (ps ++ (qs ++ end)) = simp append_assoc in
    ap (λ l. slice_set l a (op.Jump b)) joined
    ∙ ap (λ n. slice_set (is ++ x ∷ (ps ++ (qs ++ end))) n (op.Jump b)) e
    ∙ set-append_seam is x (ps ++ (qs ++ end)) (op.Jump b)
    ∙ ap (λ n. is ++ op.Jump n ∷ (ps ++ (qs ++ end))) f
    ∙ ap (λ n. is ++ op.Jump (length is + 1 + length ps) ∷ (ps ++ (qs ++ (op.Jfalse n ∷ op.Turn ∷ op.Jump (a + 1) ∷ [])))) whole
    ∙ ap (λ n. is ++ op.Jump (length is + 1 + length ps) ∷ (ps ++ (qs ++ (op.Jfalse (length is + 1 + length ps + length qs + 3) ∷ op.Turn ∷ op.Jump (n + 1) ∷ [])))) e

repeat_list : (is ps : List Instr) (a : ℕ) → a ≡ length is
    → ((((is ++ op.Turn ∷ []) ++ ps) ++ op.Jtrue (length ((is ++ op.Turn ∷ []) ++ ps) + 3) ∷ []) ++ op.Turn ∷ []) ++ op.Jump (a + 1) ∷ []
    ≡ is ++ op.Turn ∷ (ps ++ (op.Jtrue (length is + 1 + length ps + 3) ∷ op.Turn ∷ op.Jump (length is + 1) ∷ []))
repeat_list is ps a e =
    let all : List Instr = (is ++ op.Turn ∷ []) ++ ps in
    let flat : all ≡ is ++ op.Turn ∷ ps = simp append_assoc in
    let whole : length all + 3 ≡ length is + 1 + length ps + 3 = omega (arith, ap length flat, length-append is (op.Turn ∷ ps)) in
    let joined : ((all ++ op.Jtrue (length all + 3) ∷ []) ++ op.Turn ∷ []) ++ op.Jump (a + 1) ∷ [] ≡ is ++ op.Turn ∷ (ps ++ (op.Jtrue (length all + 3) ∷ op.Turn ∷ op.Jump (a + 1) ∷ [])) = simp append_assoc in
    joined
    ∙ ap (λ n. is ++ op.Turn ∷ (ps ++ (op.Jtrue n ∷ op.Turn ∷ op.Jump (a + 1) ∷ []))) whole
    ∙ ap (λ n. is ++ op.Turn ∷ (ps ++ (op.Jtrue (length is + 1 + length ps + 3) ∷ op.Turn ∷ op.Jump (n + 1) ∷ []))) e

-- the end of the code of a `for`, with the target of its test
abbrev count_tail : (t number : ℕ) → Instr → (end entry : ℕ) → List Instr → List Instr
count_tail t number next end entry rest = op.Jfalse end ∷ op.Loc t ∷ op.Loc t ∷ op.Load ∷ next ∷ op.Store number ∷ op.Turn ∷ op.Jump entry ∷ rest

count_list : (is bs ts us : List Instr) (x next : Instr) (t number a : ℕ) → a ≡ length (is ++ bs)
    → slice_set ((((((((((((is ++ bs) ++ x ∷ []) ++ op.Turn ∷ []) ++ ts) ++ op.Jfalse (length ((((is ++ bs) ++ x ∷ []) ++ op.Turn ∷ []) ++ ts) + 8) ∷ []) ++ op.Loc t ∷ []) ++ op.Loc t ∷ []) ++ op.Load ∷ []) ++ next ∷ []) ++ op.Store number ∷ []) ++ op.Turn ∷ []) ++ op.Jump (a + 2) ∷ []) a (op.Jfalse (length ((((is ++ bs) ++ x ∷ []) ++ op.Turn ∷ []) ++ ts) + 8)) ++ us
    ≡ is ++ (bs ++ (op.Jfalse (length is + length bs + 2 + length ts + 8) ∷ op.Turn ∷ (ts ++ count_tail t number next (length is + length bs + 2 + length ts + 8) (length is + length bs + 2) us)))
count_list is bs ts us x next t number a e =
    let head : List Instr = is ++ bs in
    let all : List Instr = ((head ++ x ∷ []) ++ op.Turn ∷ []) ++ ts in
    let end : ℕ = length all + 8 in
    let flat : all ≡ head ++ x ∷ (op.Turn ∷ ts) = simp append_assoc in
    let whole : end ≡ length is + length bs + 2 + length ts + 8 = omega (arith, ap length flat, length-append head (x ∷ (op.Turn ∷ ts)), length-append is bs) in
    let back : a + 2 ≡ length is + length bs + 2 = omega (arith, length-append is bs) in
    let tail : List Instr = count_tail t number next end (a + 2) [] in
    let joined : (((((((all ++ op.Jfalse end ∷ []) ++ op.Loc t ∷ []) ++ op.Loc t ∷ []) ++ op.Load ∷ []) ++ next ∷ []) ++ op.Store number ∷ []) ++ op.Turn ∷ []) ++ op.Jump (a + 2) ∷ [] ≡ head ++ x ∷ (op.Turn ∷ (ts ++ tail)) = simp append_assoc in
    let apart : (head ++ op.Jfalse end ∷ (op.Turn ∷ (ts ++ tail))) ++ us ≡ is ++ (bs ++ (op.Jfalse end ∷ op.Turn ∷ (ts ++ count_tail t number next end (a + 2) us))) = simp append_assoc in
    ap (λ l. slice_set l a (op.Jfalse end) ++ us) joined
    ∙ ap (λ n. slice_set (head ++ x ∷ (op.Turn ∷ (ts ++ tail))) n (op.Jfalse end) ++ us) e
    ∙ ap (λ l. l ++ us) (set-append_seam head x (op.Turn ∷ (ts ++ tail)) (op.Jfalse end))
    ∙ apart
    ∙ ap (λ n. is ++ (bs ++ (op.Jfalse n ∷ op.Turn ∷ (ts ++ count_tail t number next n (a + 2) us)))) whole
    ∙ ap (λ n. is ++ (bs ++ (op.Jfalse (length is + length bs + 2 + length ts + 8) ∷ op.Turn ∷ (ts ++ count_tail t number next (length is + length bs + 2 + length ts + 8) n us)))) back

count_length : (is bs ts : List Instr) (x next : Instr) (t number a end : ℕ) (i : Instr)
    → length (slice_set ((((((((((((is ++ bs) ++ x ∷ []) ++ op.Turn ∷ []) ++ ts) ++ op.Jfalse end ∷ []) ++ op.Loc t ∷ []) ++ op.Loc t ∷ []) ++ op.Load ∷ []) ++ next ∷ []) ++ op.Store number ∷ []) ++ op.Turn ∷ []) ++ op.Jump (a + 2) ∷ []) a i)
    ≡ length is + length bs + 2 + length ts + 8
count_length is bs ts x next t number a end i =
    let tail : List Instr = count_tail t number next end (a + 2) [] in
    let all : List Instr = (((((((((((is ++ bs) ++ x ∷ []) ++ op.Turn ∷ []) ++ ts) ++ op.Jfalse end ∷ []) ++ op.Loc t ∷ []) ++ op.Loc t ∷ []) ++ op.Load ∷ []) ++ next ∷ []) ++ op.Store number ∷ []) ++ op.Turn ∷ []) ++ op.Jump (a + 2) ∷ [] in
    let joined : all ≡ is ++ (bs ++ x ∷ (op.Turn ∷ (ts ++ tail))) = simp append_assoc in
    let whole : length all ≡ length is + length bs + 2 + length ts + 8 = omega (arith, ap length joined, length-append is (bs ++ x ∷ (op.Turn ∷ (ts ++ tail))), length-append bs (x ∷ (op.Turn ∷ (ts ++ tail))), length-append ts tail) in
    length-set all a i ∙ whole

-- ---- units

free_behind : (p : Piece) (u : Drafted) → length (u.locals ++ map variable p.temporaries) ≡ length u.locals + length p.temporaries
free_behind p u = length-append u.locals (map variable p.temporaries) ∙ ap (λ n. length u.locals + n) (length-map p.temporaries variable)

locals_behind : (us : List Local) (ps qs : List Shape) → (us ++ map variable ps) ++ map variable qs ≡ us ++ map variable (ps ++ qs)
locals_behind us ps qs = append_assoc us (map variable ps) (map variable qs) ∙ ap (λ ls. us ++ ls) (sym (map-append variable ps qs))

fork_instrs : (p q : Piece) (u : Drafted) (x y : Instr) (test end : ℕ) → test ≡ length u.instrs → end ≡ length (grown p (with_instr x u)).instrs
    → (fork_closed test end (grown q (with_instr y (grown p (with_instr x u))))).instrs ≡ (grown (fork p q) u).instrs
unfolding grown fork_closed with_instr with_instr_at
fork_instrs p q u x y test end e f =
    let n = length u.locals in
    let m = length u.instrs in
    let ps : List Instr = p.code n (length (u.instrs ++ x ∷ [])) in
    let at_p : length (u.instrs ++ x ∷ []) ≡ m + 1 = length-append u.instrs (x ∷ []) in
    let all_p : length ((u.instrs ++ x ∷ []) ++ ps) ≡ m + 1 + length ps = length-append (u.instrs ++ x ∷ []) ps ∙ ap (λ k. k + length ps) at_p in
    let at_q : length (((u.instrs ++ x ∷ []) ++ ps) ++ y ∷ []) ≡ m + 1 + length ps + 1 = length-append ((u.instrs ++ x ∷ []) ++ ps) (y ∷ []) ∙ ap (λ k. k + 1) all_p in
    let qs : List Instr = q.code (length (u.locals ++ map variable p.temporaries)) (length (((u.instrs ++ x ∷ []) ++ ps) ++ y ∷ [])) in
    let all : List Instr → List Instr → List Instr = λ ls ks. u.instrs ++ op.Jfalse (m + 1 + length ls + 1) ∷ (ls ++ op.Jump (m + 1 + length ls + 1 + length ks) ∷ ks) in
    fork_list u.instrs ps qs x y test end e (f ∙ all_p)
    ∙ (λ i. all ps (q.code (free_behind p u i) (at_q i)))
    ∙ (λ i. all (p.code n (at_p i)) (q.code (n + length p.temporaries) (m + 1 + length (p.code n (at_p i)) + 1)))

pub fork_made : (p q : Piece) (u : Drafted) (x y : Instr) (test end : ℕ) → test ≡ length u.instrs → end ≡ length (grown p (with_instr x u)).instrs
    → fork_closed test end (grown q (with_instr y (grown p (with_instr x u)))) ≡ grown (fork p q) u
unfolding grown fork_closed with_instr with_instr_at
fork_made p q u x y test end e f = same (fork_closed test end (grown q (with_instr y (grown p (with_instr x u))))) (grown (fork p q) u)
    (locals_behind u.locals p.temporaries q.temporaries) (fork_instrs p q u x y test end e f) (and_assoc u.fine p.fine q.fine)

loop_instrs : (test body : Piece) (u : Drafted) (x : Instr) (entry there : ℕ) → entry ≡ length u.instrs → there ≡ length (grown body (with_instr x u)).instrs
    → (loop_closed entry there (grown test (grown body (with_instr x u)))).instrs ≡ (grown (loop test body) u).instrs
unfolding grown loop_closed with_instr with_instr_at
loop_instrs q p u x entry there e f =
    let n = length u.locals in
    let m = length u.instrs in
    let ps : List Instr = p.code n (length (u.instrs ++ x ∷ [])) in
    let at_p : length (u.instrs ++ x ∷ []) ≡ m + 1 = length-append u.instrs (x ∷ []) in
    let at_q : length ((u.instrs ++ x ∷ []) ++ ps) ≡ m + 1 + length ps = length-append (u.instrs ++ x ∷ []) ps ∙ ap (λ k. k + length ps) at_p in
    let qs : List Instr = q.code (length (u.locals ++ map variable p.temporaries)) (length ((u.instrs ++ x ∷ []) ++ ps)) in
    let all : List Instr → List Instr → List Instr = λ ls ks. u.instrs ++ op.Jump (m + 1 + length ls) ∷ (ls ++ (ks ++ (op.Jfalse (m + 1 + length ls + length ks + 3) ∷ op.Turn ∷ op.Jump (m + 1) ∷ []))) in
    loop_list u.instrs ps qs x entry there e (f ∙ at_q)
    ∙ (λ i. all ps (q.code (free_behind p u i) (at_q i)))
    ∙ (λ i. all (p.code n (at_p i)) (q.code (n + length p.temporaries) (m + 1 + length (p.code n (at_p i)))))

pub loop_made : (test body : Piece) (u : Drafted) (x : Instr) (entry there : ℕ) → entry ≡ length u.instrs → there ≡ length (grown body (with_instr x u)).instrs
    → loop_closed entry there (grown test (grown body (with_instr x u))) ≡ grown (loop test body) u
unfolding grown loop_closed with_instr with_instr_at
loop_made test body u x entry there e f = same (loop_closed entry there (grown test (grown body (with_instr x u)))) (grown (loop test body) u)
    (locals_behind u.locals body.temporaries test.temporaries) (loop_instrs test body u x entry there e f) (and_assoc u.fine body.fine test.fine)

repeat_instrs : (p : Piece) (u : Drafted) (entry : ℕ) → entry ≡ length u.instrs → (repeat_closed entry (grown p (with_instr op.Turn u))).instrs ≡ (grown (repeat p) u).instrs
unfolding grown repeat_closed with_instr
repeat_instrs p u entry e =
    let n = length u.locals in
    let m = length u.instrs in
    let at_p : length (u.instrs ++ op.Turn ∷ []) ≡ m + 1 = length-append u.instrs (op.Turn ∷ []) in
    repeat_list u.instrs (p.code n (length (u.instrs ++ op.Turn ∷ []))) entry e
    ∙ (λ i. u.instrs ++ op.Turn ∷ (p.code n (at_p i) ++ (op.Jtrue (m + 1 + length (p.code n (at_p i)) + 3) ∷ op.Turn ∷ op.Jump (m + 1) ∷ [])))

pub repeat_made : (p : Piece) (u : Drafted) (entry : ℕ) → entry ≡ length u.instrs → repeat_closed entry (grown p (with_instr op.Turn u)) ≡ grown (repeat p) u
unfolding grown repeat_closed with_instr
repeat_made p u entry e = same (repeat_closed entry (grown p (with_instr op.Turn u))) (grown (repeat p) u) refl (repeat_instrs p u entry e) refl

-- ---- temporaries

keep_instrs : (shape : Shape) (number : ℕ) (value : Piece) (rest : ℕ → Piece) (u : Drafted) (t : ℕ) → t ≡ length u.locals
    → (grown (rest t) (with_instr (op.Store number) (grown value (with_instr (op.Loc t) (with_temporary shape u))))).instrs ≡ (grown (keep shape number value rest) u).instrs
unfolding grown with_instr with_temporary
keep_instrs shape number p rest u t e =
    let n = length u.locals in
    let m = length u.instrs in
    let q = rest n in
    let x = op.Loc n in
    let y = op.Store number in
    let free_p : length (u.locals ++ variable shape ∷ []) ≡ n + 1 = length-append u.locals (variable shape ∷ []) in
    let at_p : length (u.instrs ++ x ∷ []) ≡ m + 1 = length-append u.instrs (x ∷ []) in
    let ps : List Instr = p.code (length (u.locals ++ variable shape ∷ [])) (length (u.instrs ++ x ∷ [])) in
    let all_p : length ((u.instrs ++ x ∷ []) ++ ps) ≡ m + 1 + length ps = length-append (u.instrs ++ x ∷ []) ps ∙ ap (λ k. k + length ps) at_p in
    let at_q : length (((u.instrs ++ x ∷ []) ++ ps) ++ y ∷ []) ≡ m + 1 + length ps + 1 = length-append ((u.instrs ++ x ∷ []) ++ ps) (y ∷ []) ∙ ap (λ k. k + 1) all_p in
    let free_q : length ((u.locals ++ variable shape ∷ []) ++ map variable p.temporaries) ≡ n + 1 + length p.temporaries = free_behind p (record u { locals = u.locals ++ variable shape ∷ [] }) ∙ ap (λ k. k + length p.temporaries) free_p in
    let qs : List Instr = q.code (length ((u.locals ++ variable shape ∷ []) ++ map variable p.temporaries)) (length (((u.instrs ++ x ∷ []) ++ ps) ++ y ∷ [])) in
    let flat : (((u.instrs ++ x ∷ []) ++ ps) ++ y ∷ []) ++ qs ≡ u.instrs ++ x ∷ (ps ++ y ∷ qs) = simp append_assoc in
    ap (λ k. (grown (rest k) (with_instr (op.Store number) (grown p (with_instr (op.Loc k) (with_temporary shape u))))).instrs) e
    ∙ flat
    ∙ (λ i. u.instrs ++ x ∷ (ps ++ y ∷ q.code (free_q i) (at_q i)))
    ∙ (λ i. u.instrs ++ x ∷ (p.code (free_p i) (at_p i) ++ y ∷ q.code (n + 1 + length p.temporaries) (m + 1 + length (p.code (free_p i) (at_p i)) + 1)))

-- what is told of the temporary changes neither the temporaries nor whether it is fine
pub record IsUniform (rest : ℕ → Piece) : Type 0 where
  pub temporaries : (t : ℕ) → (rest t).temporaries ≡ (rest 0).temporaries
  pub fine : (t : ℕ) → (rest t).fine ≡ (rest 0).fine

pub keep_made : (shape : Shape) (number : ℕ) (value : Piece) (rest : ℕ → Piece) → IsUniform rest → (u : Drafted) (t : ℕ) → t ≡ length u.locals
    → grown (rest t) (with_instr (op.Store number) (grown value (with_instr (op.Loc t) (with_temporary shape u)))) ≡ grown (keep shape number value rest) u
unfolding grown with_instr with_temporary
keep_made shape number value rest h u t e = same (grown (rest t) (with_instr (op.Store number) (grown value (with_instr (op.Loc t) (with_temporary shape u))))) (grown (keep shape number value rest) u)
    (ap (λ ts. ((u.locals ++ variable shape ∷ []) ++ map variable value.temporaries) ++ map variable ts) (h.temporaries t)
    ∙ locals_behind (u.locals ++ variable shape ∷ []) value.temporaries (rest 0).temporaries
    ∙ append_assoc u.locals (variable shape ∷ []) (map variable (value.temporaries ++ (rest 0).temporaries)))
    (keep_instrs shape number value rest u t e)
    (and_assoc u.fine value.fine (rest t).fine ∙ ap (λ b. u.fine && (value.fine && b)) (h.fine t))

-- ---- `for`

count_instrs : (t number : ℕ) (next : Instr) (begins turn unset : Piece) (u : Drafted) (x : Instr) (test : ℕ) → test ≡ length (grown begins u).instrs
    → (grown unset (count_closed t number next test (grown turn (with_instr op.Turn (with_instr x (grown begins u)))))).instrs ≡ (grown (count t number next begins turn unset) u).instrs
unfolding grown count_closed with_instr with_instr_at
count_instrs t number next b p q u x test e =
    let n = length u.locals in
    let m = length u.instrs in
    let bs : List Instr = b.code n m in
    let all_b : length (u.instrs ++ bs) ≡ m + length bs = length-append u.instrs bs in
    let at_p : length (((u.instrs ++ bs) ++ x ∷ []) ++ op.Turn ∷ []) ≡ m + length bs + 2 = omega (arith, all_b, length-append (u.instrs ++ bs) (x ∷ []), length-append ((u.instrs ++ bs) ++ x ∷ []) (op.Turn ∷ [])) in
    let ps : List Instr = p.code (length (u.locals ++ map variable b.temporaries)) (length (((u.instrs ++ bs) ++ x ∷ []) ++ op.Turn ∷ [])) in
    let end : ℕ = length ((((u.instrs ++ bs) ++ x ∷ []) ++ op.Turn ∷ []) ++ ps) + 8 in
    let before : List Instr = slice_set ((((((((((((u.instrs ++ bs) ++ x ∷ []) ++ op.Turn ∷ []) ++ ps) ++ op.Jfalse end ∷ []) ++ op.Loc t ∷ []) ++ op.Loc t ∷ []) ++ op.Load ∷ []) ++ next ∷ []) ++ op.Store number ∷ []) ++ op.Turn ∷ []) ++ op.Jump (test + 2) ∷ []) test (op.Jfalse end) in
    let at_q : length before ≡ m + length bs + 2 + length ps + 8 = count_length u.instrs bs ps x next t number test end (op.Jfalse end) in
    let qs : List Instr = q.code (length ((u.locals ++ map variable b.temporaries) ++ map variable p.temporaries)) (length before) in
    let free_q : length ((u.locals ++ map variable b.temporaries) ++ map variable p.temporaries) ≡ n + length b.temporaries + length p.temporaries = free_behind p (grown b u) ∙ ap (λ k. k + length p.temporaries) (free_behind b u) in
    let all : List Instr → List Instr → List Instr = λ ls ks. u.instrs ++ (bs ++ (op.Jfalse (m + length bs + 2 + length ls + 8) ∷ op.Turn ∷ (ls ++ count_tail t number next (m + length bs + 2 + length ls + 8) (m + length bs + 2) ks))) in
    count_list u.instrs bs ps qs x next t number test e
    ∙ (λ i. all ps (q.code (free_q i) (at_q i)))
    ∙ (λ i. all (p.code (free_behind b u i) (at_p i)) (q.code (n + length b.temporaries + length p.temporaries) (m + length bs + 2 + length (p.code (free_behind b u i) (at_p i)) + 8)))

pub count_made : (t number : ℕ) (next : Instr) (begins turn unset : Piece) (u : Drafted) (x : Instr) (test : ℕ) → test ≡ length (grown begins u).instrs
    → grown unset (count_closed t number next test (grown turn (with_instr op.Turn (with_instr x (grown begins u))))) ≡ grown (count t number next begins turn unset) u
unfolding grown count_closed with_instr with_instr_at
count_made t number next b p q u x test e = same (grown q (count_closed t number next test (grown p (with_instr op.Turn (with_instr x (grown b u)))))) (grown (count t number next b p q) u)
    (locals_behind (u.locals ++ map variable b.temporaries) p.temporaries q.temporaries ∙ locals_behind u.locals b.temporaries (p.temporaries ++ q.temporaries))
    (count_instrs t number next b p q u x test e)
    (and_assoc (u.fine && b.fine) p.fine q.fine ∙ and_assoc u.fine b.fine (p.fine && q.fine))
