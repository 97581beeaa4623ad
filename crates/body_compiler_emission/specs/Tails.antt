-- What stands behind an operand that is compiled already.
use Rattle.std.specs.Prelude.{◌≡◌, true, false, Option, Some, None}
use Rattle.pascal_values.specs.declared.value.Value.TheVariants as pascal
use Rattle.estelle_tree.specs.declared.tree.type_expr.Sign.{Sign}
use Rattle.estelle_tree.specs.declared.tree.type_expr.Sign.TheVariants as sign
use Rattle.estelle_tree.specs.declared.tree.expression.Relation.{Relation}
use Rattle.estelle_tree.specs.declared.tree.expression.Relation.TheVariants as relation
use Rattle.estelle_tree.specs.declared.tree.expression.Adding.{Adding}
use Rattle.estelle_tree.specs.declared.tree.expression.Adding.TheVariants as adding
use Rattle.estelle_tree.specs.declared.tree.expression.Multiplying.{Multiplying}
use Rattle.estelle_tree.specs.declared.tree.expression.Multiplying.TheVariants as multiplying
use Rattle.body_code.specs.declared.instr.Instr.{Instr}
use Rattle.body_code.specs.declared.instr.Instr.TheVariants as op
use Rattle.estelle_model.specs.declared.denoter.Host.{Host}
use Rattle.estelle_model.specs.declared.denoter.Host.TheVariants as hosts
use Rattle.estelle_model.specs.declared.denoter.Denoter.{Denoter}
use Rattle.body_compiler_pieces.specs.Pieces.{Piece, one, ◌⨾◌, fork}
use Rattle.body_compiler_pieces.specs.ExpressionCode.{Operand, Access, truth}
use Rattle.body_compiler_emission.specs.Drafts.{Drafted, grown, with_instr}

-- the truth value on top itself
unfoldable pub truth_tail : Piece
truth_tail = fork (one (op.Push (pascal.Bool true))) (one (op.Push (pascal.Bool false)))

-- the right operand and the operator
unfoldable pub sum_tail : Adding → Piece → Piece
sum_tail adding.Plus q = q ⨾ one op.Add
sum_tail adding.Minus q = q ⨾ one op.Sub
sum_tail adding.Or q = fork (one (op.Push (pascal.Bool true))) (truth q)

unfoldable pub product_tail : Multiplying → Piece → Piece
product_tail multiplying.Star q = q ⨾ one op.Mul
product_tail multiplying.Div q = q ⨾ one op.Div
product_tail multiplying.Mod q = q ⨾ one op.Mod
product_tail multiplying.And q = fork (truth q) (one (op.Push (pascal.Bool false)))

abbrev pub relation_instr : Relation → Instr
relation_instr relation.Equal = op.Eq
relation_instr relation.NotEqual = op.Ne
relation_instr relation.Less = op.Lt
relation_instr relation.AtMost = op.Le
relation_instr relation.Greater = op.Gt
relation_instr relation.AtLeast = op.Ge
relation_instr relation.Member = op.Has

-- a sign before a first term
abbrev pub signed : Option Sign → Drafted → Drafted
signed (Some sign.Minus) u = with_instr op.Neg u
signed _ u = u

abbrev pub signed_host : Option Sign → Host → Host
signed_host None h = h
signed_host (Some s) h = hosts.Integer

-- ---- what a unit comes to

-- with the value of an expression, and the host of its type
abbrev pub Computes : Operand → Host → Drafted → Drafted → Type 0
Computes e h u v = (h ≡ e.host) × (v ≡ grown e.value u)

-- with the place of a variable, and its type
unfoldable pub reached : Option Access → Drafted → Option (Drafted × Denoter)
reached None u = None
reached (Some a) u = Some (grown a.place u, a.denoter)

-- with a place
unfoldable pub placed : Option Piece → Drafted → Option Drafted
placed None u = None
placed (Some p) u = Some (grown p u)
