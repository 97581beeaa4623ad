-- The labels of cases, and the arguments of procedure statements.
use Rattle.std.specs.Prelude.{Bool, if◌then◌else◌, List, [], ◌∷◌, Option, Some, None, ℤ, Result}
use Rattle.pascal_values.specs.declared.value.Value.{Value}
use Rattle.estelle_tree.specs.declared.tree.name.Name.{Name}
use Rattle.estelle_tree.specs.declared.tree.type_expr.Sign.{Sign}
use Rattle.estelle_tree.specs.declared.tree.type_expr.Const.{Const}
use Rattle.estelle_tree.specs.declared.tree.expression.Expr.{Expr}
use Rattle.estelle_tree.specs.declared.tree.expression.Args.{Args, out-Args}
use Rattle.estelle_tree.specs.declared.tree.statement.Stmt.{Stmt}
use Rattle.estelle_tree.specs.declared.tree.statement.Case.{Case, out-Case}
use Rattle.estelle_model.specs.Stops.{Stop}
use Rattle.estelle_model.specs.Types.{ordinal_of}
use Rattle.estelle_model.specs.Operators.{◌>>>◌}
use Rattle.estelle_model.specs.Meant.{Meanings}
use Rattle.estelle_model.specs.Constants.{by_sign, constant_named, constant_of}
use Rattle.estelle_model.specs.Statements.{has_ordinal, is_labelled}

abbrev pub exprs_of : Option Args → List Expr
exprs_of None = []
exprs_of (Some es) = (out-Args es).exprs

abbrev pub signed_ordinal : Option Sign → Value → Result ℤ Stop
signed_ordinal sign v = by_sign sign v >>> ordinal_of

abbrev pub named_ordinal : Meanings → Option Sign → Name → Result ℤ Stop
named_ordinal meant sign x = constant_named (meant x) >>> by_sign sign >>> ordinal_of

abbrev pub label_ordinal : Meanings → Const → Result ℤ Stop
label_ordinal meant c = constant_of meant c >>> ordinal_of

abbrev pub is_label : Meanings → ℤ → Const → Bool
is_label meant n c = has_ordinal n (label_ordinal meant c)

-- the statement of the first case with the label
abbrev pub labelled : Meanings → ℤ → List Case → Option Stmt
labelled meant n [] = None
labelled meant n (c ∷ cs) = if is_labelled meant n (out-Case c).labels then Some (out-Case c).body else labelled meant n cs
