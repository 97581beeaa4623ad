-- No expression, statement, call or block gives units back.
use Rattle.std.proofs.Common.{List}
use Rattle.pascal_values.specs.declared.value.Value.{Value}
use Rattle.estelle_tree.specs.declared.tree.expression.Expr.{Expr}
use Rattle.estelle_tree.specs.declared.tree.statement.Stmt.{Stmt}
use Rattle.estelle_tree.specs.declared.tree.statement.Stmts.{Stmts}
use Rattle.estelle_tree.specs.Paths.{Path}
use Rattle.estelle_model.specs.States.{Offers}
use Rattle.estelle_model.specs.declared.meaning.Routine.{Routine}
use Rattle.estelle_model.specs.Meant.{Meanings}
use Rattle.estelle_model.specs.declared.place.Environment.{Environment}
use Rattle.estelle_model.specs.Expressions.{Call, Operand, expr}
use Rattle.estelle_model.specs.Statements.{Acts, stmt, stmts}
use Rattle.estelle_model.specs.Calls.{Enters}
use Rattle.estelle_model.specs.Blocks.{block_step}
use Rattle.estelle_model.proofs.LoopLaws.{NeverRaises}
use Rattle.estelle_model.proofs.Units.{CallNever, NoMoreUnits, units_closed}
use Rattle.estelle_model.proofs.Kept.{OperandKept}
use Rattle.estelle_model.proofs.KeptExpressions.{expr_kept}
use Rattle.estelle_model.proofs.KeptStatements.{ActKept, stmt_kept, stmts_kept}
use Rattle.estelle_model.proofs.ActsKept.{EntersKept}
use Rattle.estelle_model.proofs.BlocksKept.{block_kept}

-- ---- expressions and statements

module _ (S : Type 0) (on : Offers S) where
  -- what is given to a statement of Estelle gives no units back
  abbrev pub OperandNever : Operand S → Type 0
  OperandNever = OperandKept S on (NoMoreUnits S) (units_closed S on)

  abbrev pub ActNever : (Acts S) → Type 0
  ActNever act = (here : Environment) → ActKept S on (NoMoreUnits S) (units_closed S on) act here

module _ (S : Type 0) (on : Offers S) (meant : Meanings) (call : Call S) (calls : CallNever S call) (here : Environment) where
  pub expr_never : (e : Expr) → OperandNever S on (expr S on meant call here e)
  expr_never = expr_kept S on (NoMoreUnits S) (units_closed S on) meant call calls here

module _ (S : Type 0) (on : Offers S) (meant : Meanings) (act : Acts S) (acts : ActNever S on act) (call : Call S) (calls : CallNever S call) (here : Environment) where
  pub stmt_never : (x : Stmt) → NeverRaises (stmt S on meant act call here x)
  stmt_never = stmt_kept S on (NoMoreUnits S) (units_closed S on) meant act here (acts here) call calls

  pub stmts_never : (x : Stmts) → NeverRaises (stmts S on meant act call here x)
  stmts_never = stmts_kept S on (NoMoreUnits S) (units_closed S on) meant act here (acts here) call calls

-- ---- calls and blocks

module _ (S : Type 0) where
  -- what enters a routine gives no units back, where the unit and what is done before do not
  abbrev pub EntersNever : Enters S → Type 0
  EntersNever = EntersKept S (NoMoreUnits S)

module _ (S : Type 0) (on : Offers S) where
  abbrev pub ActsNever : (Enters S → Acts S) → Type 0
  ActsNever act = (enters : Enters S) → EntersNever S enters → ActNever S on (act enters)

module _ (S : Type 0) (on : Offers S) (meant : Meanings) (act : Enters S → Acts S) (acts : ActsNever S on act) where
  -- no block gives units back
  pub block_never : (p : Path) (r : Routine) (vs : List Value) → NeverRaises (block_step S on meant act p r vs)
  block_never = block_kept S on (NoMoreUnits S) (units_closed S on) meant act acts
