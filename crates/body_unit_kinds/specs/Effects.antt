-- What an instruction takes from a stack of kinds, and what it leaves.
use Rattle.std.specs.Prelude.{◌≡◌, ◌<◌, ℕ, IsTrue, is_some, List, ◌∷◌, ◌++◌, length, map as each, slice_get, Option, Some, None}
use Rattle.pascal_values.specs.declared.value.Shape.{Shape}
use Rattle.body_code.specs.declared.instr.Instr.{Instr}
use Rattle.body_code.specs.declared.instr.Instr.TheVariants as op
use Rattle.estelle_model.specs.Types.{shape_of}
use Rattle.estelle_model.specs.Subject as subject
use Rattle.estelle_model.specs.Subject.{Subject, types_of_variables}
use Rattle.body_kinds.specs.Kinds.{Kind, Integer, Boolean, Character, Members, is_ordinal, is_compared, is_added}
use Rattle.body_kinds.specs.Kinded.{Leaves}
use Rattle.body_unit_kinds.specs.declared.operators.Takes.{Takes}
use Rattle.body_unit_kinds.specs.declared.operators.Takes.TheVariants as takes
use Rattle.body_unit_kinds.specs.declared.operators.Gives.{Gives}
use Rattle.body_unit_kinds.specs.declared.operators.Gives.TheVariants as gives
use Rattle.body_unit_kinds.specs.declared.operators.Operator.{Operator}
use Rattle.body_unit_kinds.specs.declared.here.Here.{Here}
use Rattle.body_unit_kinds.specs.Seen.{claimed}

-- the shapes of the variables of each body
pub record AreVariables (s : Subject) (variables : List (List Shape)) : Type 0 where
  pub are : (k : ℕ) (shapes : List Shape) → slice_get variables k ≡ Some shapes → shapes ≡ each shape_of (types_of_variables s k)
  pub all : (k : ℕ) → IsTrue (is_some (subject.body s k)) → k < length variables

-- ---- operators

abbrev pub operator : Takes → Gives → Option Operator
operator t g = Some (record { takes = t; gives = g })

-- an operator by its operands and by its result
abbrev pub operator_of : Instr → Option Operator
operator_of op.Neg = operator takes.Integer gives.Integer
operator_of op.Abs = operator takes.Integer gives.Integer
operator_of op.Sqr = operator takes.Integer gives.Integer
operator_of op.Odd = operator takes.Integer gives.Boolean
operator_of op.Chr = operator takes.Integer gives.Character
operator_of op.Ord = operator takes.Ordinal gives.Integer
operator_of op.Succ = operator takes.Ordinal gives.Same
operator_of op.Pred = operator takes.Ordinal gives.Same
operator_of op.One = operator takes.Ordinal gives.Members
operator_of op.Not = operator takes.Boolean gives.Boolean
operator_of op.Add = operator takes.Added gives.Same
operator_of op.Sub = operator takes.Added gives.Same
operator_of op.Mul = operator takes.Added gives.Same
operator_of op.Div = operator takes.Integers gives.Integer
operator_of op.Mod = operator takes.Integers gives.Integer
operator_of op.Eq = operator takes.Compared gives.Boolean
operator_of op.Ne = operator takes.Compared gives.Boolean
operator_of op.Lt = operator takes.Ordinals gives.Boolean
operator_of op.Le = operator takes.Compared gives.Boolean
operator_of op.Gt = operator takes.Ordinals gives.Boolean
operator_of op.Ge = operator takes.Compared gives.Boolean
operator_of op.Span = operator takes.Ends gives.Members
operator_of op.Empty = operator takes.Nothing gives.Members
operator_of op.Unite = operator takes.Sets gives.Members
operator_of op.Meet = operator takes.Sets gives.Members
operator_of op.Minus = operator takes.Sets gives.Members
operator_of op.Has = operator takes.Member gives.Boolean
operator_of _ = None

-- of operands like the first one, this is the result
abbrev pub given_by : Gives → Kind → Kind
given_by gives.Integer k = Integer
given_by gives.Boolean k = Boolean
given_by gives.Character k = Character
given_by gives.Members k = Members
given_by gives.Same k = k

-- the operands stand on the stack, above the rest
abbrev pub Stand : Takes → List Kind → Kind → List Kind → Type 0
Stand takes.Nothing ks k rest = ks ≡ rest
Stand takes.Integer ks k rest = (k ≡ Integer) × (ks ≡ k ∷ rest)
Stand takes.Boolean ks k rest = (k ≡ Boolean) × (ks ≡ k ∷ rest)
Stand takes.Ordinal ks k rest = IsTrue (is_ordinal k) × (ks ≡ k ∷ rest)
Stand takes.Integers ks k rest = (k ≡ Integer) × (ks ≡ k ∷ k ∷ rest)
Stand takes.Added ks k rest = IsTrue (is_added k) × (ks ≡ k ∷ k ∷ rest)
Stand takes.Ordinals ks k rest = IsTrue (is_ordinal k) × (ks ≡ k ∷ k ∷ rest)
Stand takes.Ends ks k rest = IsTrue (is_ordinal k) × (ks ≡ k ∷ Integer ∷ rest)
Stand takes.Compared ks k rest = IsTrue (is_compared k) × (ks ≡ k ∷ k ∷ rest)
Stand takes.Sets ks k rest = (k ≡ Members) × (ks ≡ k ∷ k ∷ rest)
Stand takes.Member ks k rest = IsTrue (is_ordinal k) × (ks ≡ Members ∷ k ∷ rest)

-- ---- instructions that go on behind themselves

-- what an instruction takes and leaves in a unit
abbrev pub LeavesIn : Here → Instr → List Kind → List Kind → Type 0
LeavesIn h i taken left = Leaves h.bodies.now h.numbers.now h.code.now (claimed h.claims.now) h.body h.claim.now.closed h.unit.now.locals i taken left

-- with these kinds it leaves some above the rest
pub record HasEffect (h : Here) (i : Instr) (ks left rest : List Kind) : Type 0 where
  pub taken : List Kind
  pub are : ks ≡ taken ++ rest
  pub leaves : LeavesIn h i taken left
