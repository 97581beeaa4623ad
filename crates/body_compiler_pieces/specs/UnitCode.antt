-- What routines and blocks are compiled to: their locals and their code.
use Rattle.std.specs.Prelude.{◌≡◌, ℕ, zero, suc, nat_lt, true, false, IsTrue, if◌then◌else◌, List, [], ◌∷◌, ◌++◌, length, map, option_map, Option, Some, None}
use Rattle.pascal_values.specs.declared.value.Shape.{Shape}
use Rattle.estelle_tree.specs.declared.tree.name.Name.{Name}
use Rattle.estelle_tree.specs.declared.tree.expression.Expr.{Expr}
use Rattle.body_code.specs.declared.instr.Instr.TheVariants as op
use Rattle.body_code.specs.declared.unit.Heading.{Heading}
use Rattle.body_code.specs.declared.unit.Local.{Local}
use Rattle.body_code.specs.declared.unit.CodeUnit.{CodeUnit}
use Rattle.estelle_model.specs.declared.denoter.Denoter.{Denoter}
use Rattle.estelle_model.specs.Types.{shape_of}
use Rattle.estelle_model.specs.declared.meaning.Passing.{Passing}
use Rattle.estelle_model.specs.declared.meaning.Passing.TheVariants.{ByValue, ByPlace}
use Rattle.estelle_model.specs.declared.meaning.Routine.{Routine}
use Rattle.estelle_model.specs.Subject.{no_statements}
use Rattle.estelle_model.specs.Meant.{Meanings, result_types, result_number}
use Rattle.body_compiler_pieces.specs.Pieces.{Piece, none, one, ◌⨾◌}
use Rattle.body_compiler_pieces.specs.ExpressionCode.{by_number, Scope, expr}
use Rattle.body_compiler_pieces.specs.StatementCode.{stmts}

-- what is known wherever code of a specification is compiled
pub record Known : Type 0 where
  pub meant : Meanings
  pub number : Shape → Option ℕ
  pub routine : Name → Option (ℕ × ℕ)
  pub export : (body variable export : ℕ) → Option ℕ
  pub interaction : (body : ℕ) (ip interaction : Name) → Option ℕ
  pub parameters : (body : ℕ) → Option (List Denoter)

-- ---- locals: parameters in order, then own variables and a result, then temporaries

-- the local that a variable of the frame is, with so many behind the parameters
abbrev pub local_of : List Passing → ℕ → ℕ → Option ℕ
local_of [] own k = if nat_lt k own then Some k else None
local_of (ByPlace ∷ ps) own k = option_map suc (local_of ps own k)
local_of (ByValue t ∷ ps) own zero = Some 0
local_of (ByValue t ∷ ps) own (suc k) = option_map suc (local_of ps own k)

-- the local that a var parameter is
abbrev pub reference_of : List Passing → ℕ → Option ℕ
reference_of [] k = None
reference_of (ByValue t ∷ ps) k = option_map suc (reference_of ps k)
reference_of (ByPlace ∷ ps) zero = Some 0
reference_of (ByPlace ∷ ps) (suc k) = option_map suc (reference_of ps k)

abbrev pub variable : Shape → Local
variable shape = record { shape = shape; by_ref = false }

abbrev pub own_shapes : Routine → List Shape
own_shapes r = map shape_of (r.locals ++ result_types r.result)

-- locals are passed as parameters say
abbrev pub AreParameters : List Passing → List Local → Type 0
AreParameters [] [] = Unit {0}
AreParameters (ByValue t ∷ ps) (l ∷ ls) = (l.by_ref ≡ false) × AreParameters ps ls
AreParameters (ByPlace ∷ ps) (l ∷ ls) = (l.by_ref ≡ true) × AreParameters ps ls
AreParameters [] (l ∷ ls) = ⊥
AreParameters (p ∷ ps) [] = ⊥

-- ---- code

-- where the statements of a routine of a body are compiled
abbrev pub within : Known → ℕ → Routine → Scope
within known body r = record {
  meant = known.meant;
  local = local_of r.parameters (length (own_shapes r));
  reference = reference_of r.parameters;
  export = known.export body;
  number = known.number;
  routine = known.routine;
  interaction = known.interaction body;
  parameters = known.parameters;
}

-- a function's result is loaded at last
abbrev pub result_code : Scope → Routine → Option Denoter → Piece
result_code scope r None = none
result_code scope r (Some t) = by_number (scope.local (result_number r)) (λ i. one (op.Loc i)) ⨾ one op.Load

abbrev pub routine_code : Known → ℕ → Routine → Piece
routine_code known body r = stmts (within known body r) r.body ⨾ result_code (within known body r) r r.result

-- a unit has these parameters and variables, then the code's temporaries, and the code before `ret`
pub record IsMadeOf (passed : List Passing) (shapes : List Shape) (p : Piece) (unit : CodeUnit) : Type 0 where
  pub parameters : List Local
  pub are : AreParameters passed parameters
  pub locals : unit.locals ≡ parameters ++ map variable (shapes ++ p.temporaries)
  pub instrs : unit.instrs ≡ p.code (length (parameters ++ map variable shapes)) 0 ++ op.Ret ∷ []
  pub fine : IsTrue p.fine

-- such a unit
abbrev pub made_of : Heading → List Local → List Shape → Piece → CodeUnit
made_of heading parameters shapes p = record {
  heading = heading;
  locals = parameters ++ map variable (shapes ++ p.temporaries);
  instrs = p.code (length (parameters ++ map variable shapes)) 0 ++ op.Ret ∷ [];
}

-- what a routine of a body is compiled to
abbrev pub IsUnit : Known → ℕ → Routine → CodeUnit → Type 0
IsUnit known body r unit = IsMadeOf r.parameters (own_shapes r) (routine_code known body r) unit

-- the expressions of a clause, one after another
abbrev pub clause_code : Scope → List Expr → Piece
clause_code scope [] = none
clause_code scope (e ∷ es) = (expr scope e).value ⨾ clause_code scope es

-- a clause as a routine with the values of the interaction that is received
abbrev pub of_clause : List Denoter → Routine
of_clause received = record { parameters = map ByValue received; locals = []; result = None; body = no_statements }

-- what expressions of a clause of a body are compiled to
abbrev pub IsClause : Known → ℕ → List Denoter → List Expr → CodeUnit → Type 0
IsClause known body received es unit = IsMadeOf (map ByValue received) [] (clause_code (within known body (of_clause received)) es) unit
