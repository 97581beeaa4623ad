-- What instructions compute of one value, and of two, with the operations of the language (ISO 7185, 6.6.6 and 6.7.2).
use Rattle.std.specs.Prelude.{ℕ, List, Result, Ok}
use Rattle.pascal_values.specs.declared.value.Value.{Value}
use Rattle.pascal_values.specs.declared.value.Value.TheVariants as pascal
use Rattle.estelle_tree.specs.declared.tree.type_expr.Sign.TheVariants as sign
use Rattle.estelle_tree.specs.declared.required.Required.TheVariants as required
use Rattle.estelle_model.specs.declared.denoter.Host.TheVariants as host
use Rattle.estelle_model.specs.Stops.{Stop}
use Rattle.estelle_model.specs.Types.{ordinal_of}
use Rattle.estelle_model.specs.Operators.{◌>>>◌, plus, minus, times, divided, modulo, signed, negation, related, one_member, members_from, required_value, succeeding, preceding}
use Rattle.body_machine.specs.declared.operators.Unary.{Unary}
use Rattle.body_machine.specs.declared.operators.Unary.TheVariants as unary
use Rattle.body_machine.specs.declared.operators.Binary.{Binary}
use Rattle.body_machine.specs.declared.operators.Binary.TheVariants as binary

abbrev pub a_set : Result (List ℕ) Stop → Result Value Stop
a_set r = r >>> λ ns. Ok (pascal.Set ns)

abbrev pub unary_value : Unary → Value → Result Value Stop
unary_value unary.Neg v = signed sign.Minus v
unary_value unary.Abs v = required_value required.Abs host.Integer v
unary_value unary.Sqr v = required_value required.Sqr host.Integer v
unary_value unary.Odd v = required_value required.Odd host.Integer v
unary_value unary.Succ v = succeeding v
unary_value unary.Pred v = preceding v
unary_value unary.Ord v = required_value required.Ord host.Integer v
unary_value unary.Chr v = required_value required.Chr host.Integer v
unary_value unary.Not v = negation v
unary_value unary.One v = a_set (ordinal_of v >>> one_member)

-- of integers a sum, a difference or a product; of sets a union, a difference or an intersection
abbrev pub binary_value : Binary → Value → Value → Result Value Stop
binary_value binary.Plus v w = plus v w
binary_value binary.Minus v w = minus v w
binary_value binary.Times v w = times v w
binary_value binary.Div v w = divided v w
binary_value binary.Mod v w = modulo v w
binary_value (binary.Compare op) v w = related op v w
binary_value binary.Span v w = a_set (ordinal_of v >>> λ i. ordinal_of w >>> λ j. members_from i j)
