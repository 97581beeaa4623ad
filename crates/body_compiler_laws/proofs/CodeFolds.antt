-- What expressions and statements are compiled to, one layer of the tree at a time.
use Rattle.std.proofs.Common.{List, ℤ}
use Rattle.estelle_tree.proofs.ExpressionFolds as kind
use Rattle.estelle_tree.proofs.ExpressionFolds.{Kind, Layer}
use Rattle.estelle_tree.proofs.StatementFolds as statement
use Rattle.body_compiler_pieces.specs.Pieces.{Piece}
use Rattle.body_compiler_pieces.specs.ExpressionCode.{Scope, Operand, Selecting, Written, factor_layer, selector_layer, args_layer, elem_layer, expr_layer, simple_layer, term_layer, variable_layer}
use Rattle.body_compiler_pieces.specs.StatementCode.{stmt_layer, case_layer, stmts_layer}

-- what each type of node comes to
abbrev pub Results : Kind → Type 0
Results kind.selector = Selecting
Results kind.args = List Operand
Results kind.elem = Piece
Results kind.variable = Written
Results _ = Operand

abbrev pub layers : Scope → (k : Kind) → Layer k Results → Results k
layers scope kind.factor = factor_layer scope
layers scope kind.selector = selector_layer scope
layers scope kind.args = args_layer scope
layers scope kind.elem = elem_layer scope
layers scope kind.expr = expr_layer scope
layers scope kind.simple = simple_layer scope
layers scope kind.term = term_layer scope
layers scope kind.variable = variable_layer scope

-- of statements
abbrev pub StatementResults : statement.Kind → Type 0
StatementResults statement.stmt = Piece
StatementResults statement.branch = List ℤ × Piece
StatementResults statement.stmts = Piece

abbrev pub statement_layers : Scope → (k : statement.Kind) → statement.Layer k StatementResults → StatementResults k
statement_layers scope statement.stmt = stmt_layer scope
statement_layers scope statement.branch = case_layer scope
statement_layers scope statement.stmts = stmts_layer scope
