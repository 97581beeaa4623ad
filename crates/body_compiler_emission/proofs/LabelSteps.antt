-- Labels of cases step by step, as they are compiled.
use Rattle.std.proofs.Common.{◌≡◌, ◌∙◌, ℕ, zero, suc, ◌+◌, ◌<◌, ◌≤◌, ℤ, List, [], ◌∷◌, ◌++◌, length, get_or, drop, Option, Some, None, Result, Ok, Err, refl, sym, ap, true, false, arith, append_assoc, length-drop}
use Rattle.std.proofs.lemmas.List.{append-nil}
use Rattle.std.specs.Result.{result_ok}
use Rattle.estelle_tree.specs.declared.tree.type_expr.Const.{Const}
use Rattle.estelle_model.specs.Stops.{Stop}
use Rattle.estelle_model.specs.Types.{ordinal_of}
use Rattle.estelle_model.specs.Operators.{◌>>>◌}
use Rattle.estelle_model.specs.Constants.{constant_of}
use Rattle.estelle_model.specs.Meant.{Meanings}
use Rattle.pascal_values.specs.declared.value.Value.TheVariants as pascal
use Rattle.body_code.specs.declared.instr.Instr.{Instr}
use Rattle.body_code.specs.declared.instr.Instr.TheVariants as op
use Rattle.body_compiler_pieces.specs.Pieces.{Piece, one, ◌⨾◌, fork, recall}
use Rattle.body_compiler_pieces.specs.StatementCode as code
use Rattle.body_compiler_emission.specs.Drafts.{Drafted, grown, with_instr, fork_closed}
use Rattle.body_compiler_emission.specs.EmittedStatements.{recalled, is_one, is_one_of, AreOrdinals}
use Rattle.body_compiler_emission.proofs.Lists.{opened, all_dropped}
use Rattle.body_compiler_emission.proofs.Growth.{grown_one, grown_then}
use Rattle.body_compiler_emission.proofs.ExpressionSteps.{then_one, or_made}

recall_is : (k : ℕ) (u : Drafted) → grown (one (op.Loc k) ⨾ one op.Load) u ≡ recalled k u
unfolding recalled
recall_is k u = then_one (one (op.Loc k)) op.Load u ∙ ap (λ v. with_instr op.Load v) (grown_one (op.Loc k) u)

pub recall_steps : (k : ℕ) (u : Drafted) → grown (recall k) u ≡ recalled k u
recall_steps k u = recall_is k u

pub one_steps : (k : ℕ) (m : ℤ) (u : Drafted) → grown (is_one k m) u ≡ with_instr op.Eq (with_instr (op.Push (pascal.Int m)) (recalled k u))
unfolding is_one
one_steps k m u =
    grown_then (recall k) (one (op.Push (pascal.Int m)) ⨾ one op.Eq) u
    ∙ ap (λ v. grown (one (op.Push (pascal.Int m)) ⨾ one op.Eq) v) (recall_steps k u)
    ∙ then_one (one (op.Push (pascal.Int m))) op.Eq (recalled k u)
    ∙ ap (λ v. with_instr op.Eq v) (grown_one (op.Push (pascal.Int m)) (recalled k u))

pub none_steps : (k : ℕ) (u : Drafted) → grown (is_one_of k []) u ≡ with_instr (op.Push (pascal.Bool false)) u
unfolding is_one_of
none_steps k u = grown_one (op.Push (pascal.Bool false)) u

pub last_steps : (k : ℕ) (m : ℤ) (u : Drafted) → grown (is_one_of k (m ∷ [])) u ≡ grown (is_one k m) u
unfolding is_one_of is_one
last_steps k m u = refl

pub more_steps : (k : ℕ) (m n : ℤ) (ms : List ℤ) (u : Drafted) (x y : Instr) (test end : ℕ)
    → test ≡ length (grown (is_one k m) u).instrs → end ≡ length (with_instr (op.Push (pascal.Bool true)) (with_instr x (grown (is_one k m) u))).instrs
    → fork_closed test end (grown (is_one_of k (n ∷ ms)) (with_instr y (with_instr (op.Push (pascal.Bool true)) (with_instr x (grown (is_one k m) u))))) ≡ grown (is_one_of k (m ∷ (n ∷ ms))) u
unfolding is_one_of is_one
more_steps k m n ms u x y test end e f =
    or_made (op.Push (pascal.Bool true)) (code.is_one_of k (n ∷ ms)) (grown (code.is_one k m) u) x y test end e f
    ∙ sym (grown_then (code.is_one k m) (fork (one (op.Push (pascal.Bool true))) (code.is_one_of k (n ∷ ms))) u)

-- from a label on
pub none_from : (k : ℕ) (ms : List ℤ) (i : ℕ) (u : Drafted) → length ms ≤ i → grown (is_one_of k (drop i ms)) u ≡ with_instr (op.Push (pascal.Bool false)) u
none_from k ms i u end = ap (λ l. grown (is_one_of k l) u) (all_dropped ms i end) ∙ none_steps k u

pub last_from : (k : ℕ) (ms : List ℤ) (i : ℕ) (m : ℤ) (u : Drafted) → i < length ms → length ms ≤ i + 1 → m ≡ get_or ms i m → grown (is_one_of k (drop i ms)) u ≡ grown (is_one k m) u
last_from k ms i m u some end at = ap (λ l. grown (is_one_of k l) u) (opened ms i m some at ∙ ap (λ l. m ∷ l) (all_dropped ms (i + 1) end)) ∙ last_steps k m u

more_behind : (k : ℕ) (m : ℤ) (ns : List ℤ) (u : Drafted) (x y : Instr) (test end : ℕ) → 0 < length ns
    → test ≡ length (grown (is_one k m) u).instrs → end ≡ length (with_instr (op.Push (pascal.Bool true)) (with_instr x (grown (is_one k m) u))).instrs
    → fork_closed test end (grown (is_one_of k ns) (with_instr y (with_instr (op.Push (pascal.Bool true)) (with_instr x (grown (is_one k m) u))))) ≡ grown (is_one_of k (m ∷ ns)) u
more_behind k m [] u x y test end some e f = absurd (omega (arith, some))
more_behind k m (n ∷ ns) u x y test end some e f = more_steps k m n ns u x y test end e f

pub more_from : (k : ℕ) (ms : List ℤ) (i : ℕ) (m : ℤ) (u : Drafted) (x y : Instr) (test end : ℕ) → i + 1 < length ms → m ≡ get_or ms i m
    → test ≡ length (grown (is_one k m) u).instrs → end ≡ length (with_instr (op.Push (pascal.Bool true)) (with_instr x (grown (is_one k m) u))).instrs
    → fork_closed test end (grown (is_one_of k (drop (i + 1) ms)) (with_instr y (with_instr (op.Push (pascal.Bool true)) (with_instr x (grown (is_one k m) u))))) ≡ grown (is_one_of k (drop i ms)) u
more_from k ms i m u x y test end more at e f =
    more_behind k m (drop (i + 1) ms) u x y test end (omega (arith, length-drop (i + 1) ms, more)) e f
    ∙ ap (λ l. grown (is_one_of k l) u) (sym (opened ms i m (omega (arith, more)) at))

read_later : (ns : List ℤ) (j : ℕ) (a b : ℤ) → j < length ns → get_or ns j a ≡ get_or ns j b
read_later [] j a b less = absurd (omega (arith, less))
read_later (n ∷ ns) zero a b less = refl
read_later (n ∷ ns) (suc j) a b less = read_later ns j a b (omega (arith, less))

pub last_at : (k : ℕ) (ms : List ℤ) (i : ℕ) (d : ℤ) (u : Drafted) → i < length ms → length ms ≤ i + 1 → grown (is_one k (get_or ms i d)) u ≡ grown (is_one_of k (drop i ms)) u
last_at k ms i d u some end = sym (last_from k ms i (get_or ms i d) u some end (read_later ms i d (get_or ms i d) some))

pub more_at : (k : ℕ) (ms : List ℤ) (i : ℕ) (d : ℤ) (u : Drafted) (x y : Instr) (test end : ℕ) → i + 1 < length ms
    → test ≡ length (grown (is_one k (get_or ms i d)) u).instrs → end ≡ length (with_instr (op.Push (pascal.Bool true)) (with_instr x (grown (is_one k (get_or ms i d)) u))).instrs
    → fork_closed test end (grown (is_one_of k (drop (i + 1) ms)) (with_instr y (with_instr (op.Push (pascal.Bool true)) (with_instr x (grown (is_one k (get_or ms i d)) u))))) ≡ grown (is_one_of k (drop i ms)) u
more_at k ms i d u x y test end more e f = more_from k ms i (get_or ms i d) u x y test end more (read_later ms i d (get_or ms i d) (omega (arith, more))) e f

-- ---- the ordinals of labels

with_some : (r : Result ℤ Stop) (m : ℤ) (ms : List ℤ) → Some m ≡ result_ok r → code.with_ordinal r ms ≡ m ∷ ms
with_some (Ok n) m ms is = let e : m ≡ n = cc in ap (λ k. k ∷ ms) (sym e)
with_some (Err e) m ms is = absurd (cc)

pub ordinal_kept : (meant : Meanings) (cs : List Const) (i : ℕ) (c : Const) (m : ℤ) (ns : List ℤ) → i < length cs → c ≡ get_or cs i c → Some m ≡ result_ok (constant_of meant c >>> ordinal_of)
    → (ns ++ m ∷ []) ++ code.ordinals_of meant (drop (i + 1) cs) ≡ ns ++ code.ordinals_of meant (drop i cs)
ordinal_kept meant cs i c m ns some at is =
    append_assoc ns (m ∷ []) (code.ordinals_of meant (drop (i + 1) cs))
    ∙ ap (λ l. ns ++ l) (sym (ap (λ l. code.ordinals_of meant l) (opened cs i c some at) ∙ with_some (constant_of meant c >>> ordinal_of) m (code.ordinals_of meant (drop (i + 1) cs)) is))

pub ordinals_end : (meant : Meanings) (cs : List Const) (i : ℕ) (ns : List ℤ) → length cs ≤ i → ns ++ code.ordinals_of meant (drop i cs) ≡ ns
ordinals_end meant cs i ns end = ap (λ l. ns ++ code.ordinals_of meant l) (all_dropped cs i end) ∙ append-nil ns

-- ---- labels that all have ordinals

-- those from a label on refuse no more than all of them
unfoldable pub RefuseAlike : Meanings → (all rest : List Const) → Type 0
RefuseAlike meant cs ds = (p : Piece) → code.labelled meant cs p ≡ code.labelled meant ds p

where_some : (r : Result ℤ Stop) (m : ℤ) (p : Piece) → Some m ≡ result_ok r → code.where_ordinal r p ≡ p
where_some (Ok n) m p is = refl
where_some (Err e) m p is = absurd (cc)

pub labels_begin : (meant : Meanings) (cs : List Const) → RefuseAlike meant cs (drop 0 cs)
unfolding RefuseAlike
labels_begin meant [] = λ p. refl
labels_begin meant (c ∷ cs) = λ p. refl

pub label_kept : (meant : Meanings) (cs : List Const) (i : ℕ) (c : Const) (m : ℤ) → i < length cs → c ≡ get_or cs i c → Some m ≡ result_ok (constant_of meant c >>> ordinal_of)
    → RefuseAlike meant cs (drop i cs) → RefuseAlike meant cs (drop (i + 1) cs)
unfolding RefuseAlike
label_kept meant cs i c m some at is alike = λ p. alike p ∙ ap (λ l. code.labelled meant l p) (opened cs i c some at) ∙ where_some (constant_of meant c >>> ordinal_of) m (code.labelled meant (drop (i + 1) cs) p) is

pub labels_end : (meant : Meanings) (cs : List Const) (i : ℕ) → length cs ≤ i → RefuseAlike meant cs (drop i cs) → AreOrdinals meant cs
unfolding RefuseAlike AreOrdinals
labels_end meant cs i end alike = λ p. alike p ∙ ap (λ l. code.labelled meant l p) (all_dropped cs i end)
