-- Operators leave what their operands say.
use Rattle.std.proofs.Common.{◌≡◌, subst, List, [], ◌∷◌, Option, Some, None}
use Rattle.body_code.specs.declared.instr.Instr.{Instr}
use Rattle.body_code.specs.declared.instr.Instr.TheVariants as op
use Rattle.body_kinds.specs.Kinds.{Kind, Integer, Boolean, Members}
use Rattle.body_kinds.specs.Kinded.{neg, abs, sqr, odd, chr, ord, successor, predecessor, negated, add, sub, mul, div, mod_, eq, ne, lt, le, gt, ge, empty, one, span, unite, meet, minus, has}
use Rattle.body_unit_kinds.specs.declared.operators.Operator.{Operator}
use Rattle.body_unit_kinds.specs.declared.here.Here.{Here}
use Rattle.body_unit_kinds.specs.Effects.{operator_of, given_by, Stand, HasEffect}

-- the operands of an operator stand there
abbrev pub StandFor : Option Operator → List Kind → Kind → List Kind → Type 0
StandFor None ks k rest = ⊥
StandFor (Some o) ks k rest = Stand o.takes ks k rest

abbrev pub left_by : Option Operator → Kind → List Kind
left_by None k = []
left_by (Some o) k = given_by o.gives k ∷ []

operator_does : (h : Here) (i : Instr) (ks : List Kind) (k : Kind) (rest : List Kind) → StandFor (operator_of i) ks k rest → HasEffect h i ks (left_by (operator_of i) k) rest
operator_does h op.Neg ks k rest st = record { taken = Integer ∷ []; are = cc; leaves = neg }
operator_does h op.Abs ks k rest st = record { taken = Integer ∷ []; are = cc; leaves = abs }
operator_does h op.Sqr ks k rest st = record { taken = Integer ∷ []; are = cc; leaves = sqr }
operator_does h op.Odd ks k rest st = record { taken = Integer ∷ []; are = cc; leaves = odd }
operator_does h op.Chr ks k rest st = record { taken = Integer ∷ []; are = cc; leaves = chr }
operator_does h op.Ord ks k rest st = record { taken = k ∷ []; are = st.1; leaves = ord k st.0 }
operator_does h op.Succ ks k rest st = record { taken = k ∷ []; are = st.1; leaves = successor k st.0 }
operator_does h op.Pred ks k rest st = record { taken = k ∷ []; are = st.1; leaves = predecessor k st.0 }
operator_does h op.One ks k rest st = record { taken = k ∷ []; are = st.1; leaves = one k st.0 }
operator_does h op.Not ks k rest st = record { taken = Boolean ∷ []; are = cc; leaves = negated }
operator_does h op.Add ks k rest st = record { taken = k ∷ k ∷ []; are = st.1; leaves = add k st.0 }
operator_does h op.Sub ks k rest st = record { taken = k ∷ k ∷ []; are = st.1; leaves = sub k st.0 }
operator_does h op.Mul ks k rest st = record { taken = k ∷ k ∷ []; are = st.1; leaves = mul k st.0 }
operator_does h op.Div ks k rest st = record { taken = Integer ∷ Integer ∷ []; are = cc; leaves = div }
operator_does h op.Mod ks k rest st = record { taken = Integer ∷ Integer ∷ []; are = cc; leaves = mod_ }
operator_does h op.Eq ks k rest st = record { taken = k ∷ k ∷ []; are = st.1; leaves = eq k st.0 }
operator_does h op.Ne ks k rest st = record { taken = k ∷ k ∷ []; are = st.1; leaves = ne k st.0 }
operator_does h op.Lt ks k rest st = record { taken = k ∷ k ∷ []; are = st.1; leaves = lt k st.0 }
operator_does h op.Le ks k rest st = record { taken = k ∷ k ∷ []; are = st.1; leaves = le k st.0 }
operator_does h op.Gt ks k rest st = record { taken = k ∷ k ∷ []; are = st.1; leaves = gt k st.0 }
operator_does h op.Ge ks k rest st = record { taken = k ∷ k ∷ []; are = st.1; leaves = ge k st.0 }
operator_does h op.Span ks k rest st = record { taken = k ∷ Integer ∷ []; are = st.1; leaves = span k st.0 }
operator_does h op.Empty ks k rest st = record { taken = []; are = st; leaves = empty }
operator_does h op.Unite ks k rest st = record { taken = Members ∷ Members ∷ []; are = cc; leaves = unite }
operator_does h op.Meet ks k rest st = record { taken = Members ∷ Members ∷ []; are = cc; leaves = meet }
operator_does h op.Minus ks k rest st = record { taken = Members ∷ Members ∷ []; are = cc; leaves = minus }
operator_does h op.Has ks k rest st = record { taken = Members ∷ k ∷ []; are = st.1; leaves = has k st.0 }
operator_does h _ ks k rest st = absurd st

pub operator_leaves : (h : Here) (i : Instr) (o : Operator) (ks : List Kind) (k : Kind) (rest : List Kind) → operator_of i ≡ Some o → Stand o.takes ks k rest → HasEffect h i ks (given_by o.gives k ∷ []) rest
operator_leaves h i o ks k rest e st = by (operator_of i) e (operator_does h i ks k rest)
  where
    by : (x : Option Operator) → x ≡ Some o → (StandFor x ks k rest → HasEffect h i ks (left_by x k) rest) → HasEffect h i ks (given_by o.gives k ∷ []) rest
    by None e f = absurd (cc)
    by (Some p) e f =
        let same : p ≡ o = cc in
        let P : Operator → Type 0 = λ (q : Operator). (Stand q.takes ks k rest → HasEffect h i ks (given_by q.gives k ∷ []) rest) in
        subst P same f st
