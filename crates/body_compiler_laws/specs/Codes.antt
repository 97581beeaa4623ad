-- What it is for a whole code to be what a specification is compiled to.
use Rattle.std.specs.Prelude.{◌≡◌, ℕ, true, All, List, [], ◌∷◌, map, Option, Some, None}
use Rattle.pascal_values.specs.declared.value.Value.TheVariants as pascal
use Rattle.estelle_tree.specs.declared.tree.expression.Expr.{Expr}
use Rattle.estelle_tree.specs.declared.tree.clause.DelayHigh.{DelayHigh}
use Rattle.estelle_tree.specs.declared.tree.clause.DelayHigh.TheVariants as high
use Rattle.body_code.specs.declared.instr.Instr.TheVariants as op
use Rattle.body_code.specs.declared.unit.Entry.{Entry}
use Rattle.body_code.specs.declared.unit.Entry.TheVariants as entry
use Rattle.body_code.specs.declared.unit.CodeUnit.{CodeUnit}
use Rattle.body_code.specs.Units.{unit_of}
use Rattle.estelle_model.specs.declared.denoter.Denoter.{Denoter}
use Rattle.estelle_model.specs.declared.meaning.Passing.TheVariants.{ByValue}
use Rattle.estelle_model.specs.declared.meaning.Meaning.TheVariants.{Other}
use Rattle.estelle_model.specs.Meant.{Meanings}
use Rattle.estelle_model.specs.Names.{Declared, at_place}
use Rattle.estelle_model.specs.Transitions.{Delay, Choice, Transition}
use Rattle.estelle_model.specs.Subject.{Subject, declared_in, meant, meant_with, of_block, transition, begins}
use Rattle.body_numbers.specs.declared.numbers.Numbers.{Numbers}
use Rattle.body_compiler_pieces.specs.Pieces.{Piece, one}
use Rattle.body_compiler_pieces.specs.ExpressionCode.{Scope}
use Rattle.body_compiler_pieces.specs.UnitCode.{Known, within, of_clause, clause_code, IsMadeOf}
use Rattle.body_compiler_laws.specs.Compiled.{HasUnit, IsCode}

-- ---- the units of a transition

-- where names mean something else
abbrev pub where_meant : Known → Meanings → Known
where_meant known meant = record known { meant = meant }

-- where a clause of a body is compiled, with the values of the interaction as parameters
abbrev pub in_clause : Known → (body : ℕ) → List Denoter → Scope
in_clause known body received = within known body (of_clause received)

-- `provided`, which is true where none is written
abbrev pub provided_code : Scope → Option Expr → Piece
provided_code scope None = one (op.Push (pascal.Bool true))
provided_code scope (Some e) = clause_code scope (e ∷ [])

-- the expressions of a delay, the low one first
abbrev pub high_bound : Option DelayHigh → List Expr
high_bound (Some (high.Expr e)) = e ∷ []
high_bound _ = []

abbrev pub delay_code : Scope → Delay → Piece
delay_code scope d = clause_code scope (d.low ∷ high_bound d.high)

-- the code has a unit for a clause at a place of a body
pub record HasClause (code : List CodeUnit) (body : ℕ) (place : Entry) (received : List Denoter) (p : Piece) : Type 0 where
  pub unit : CodeUnit
  pub found : unit_of code body place ≡ Some unit
  pub is : IsMadeOf (map ByValue received) [] p unit

-- the code has units for the block of a body's transition, for its `provided`, and for its delay where one is written
pub record HasTransition (code : List CodeUnit) (known : Known) (body number : ℕ) (t : Transition) : Type 0 where
  pub block : HasUnit code known body (entry.Block number) (of_block known.meant t.received t.block)
  pub provided : HasClause code body (entry.Guard number) t.received (provided_code (in_clause known body t.received) t.provided)
  pub delay : (d : Delay) → t.delay ≡ Some d → HasClause code body (entry.Delay number) t.received (delay_code (in_clause known body t.received) d)

-- ---- whole codes

-- nothing else is declared at the places of the names that have values
abbrev pub AreApart : Declared → List Choice → Type 0
AreApart declared chosen = All (λ c. at_place declared c.at ≡ Other) chosen

-- routines and initializations have their units, and each transition has its own, compiled with the values of its `any` clause
pub record IsCompiled (s : Subject) (n : Numbers) (known : Known) (code : List CodeUnit) : Type 0 where
  pub meant : known.meant ≡ meant s
  pub is : IsCode s n code known
  -- the initialization of the specification itself
  pub begins : HasUnit code known 0 entry.Initialize (begins s 0).block
  pub transitions : (body number : ℕ) (t : Transition) → transition s body number ≡ Some t → HasTransition code (where_meant known (meant_with s t.chosen)) body number t
  pub apart : (body number : ℕ) (t : Transition) → transition s body number ≡ Some t → AreApart (declared_in s) t.chosen
