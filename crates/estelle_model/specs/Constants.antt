-- Constants (ISO 7185, 6.3).
use Rattle.std.specs.Prelude.{Option, Some, None, Result, Ok, Err}
use Rattle.pascal_values.specs.declared.value.Value.{Value}
use Rattle.pascal_values.specs.declared.value.Value.TheVariants as pascal
use Rattle.estelle_tree.specs.declared.tree.type_expr.Sign.{Sign}
use Rattle.estelle_tree.specs.declared.tree.type_expr.Const.{Const}
use Rattle.estelle_tree.specs.declared.tree.type_expr.Const.TheVariants as const
use Rattle.estelle_model.specs.declared.denoter.Host.{Host}
use Rattle.estelle_model.specs.declared.denoter.Host.TheVariants as host
use Rattle.estelle_model.specs.Stops.{Stop, Broken}
use Rattle.estelle_model.specs.Operators.{signed, ◌>>>◌}
use Rattle.estelle_model.specs.declared.meaning.Meaning.{Meaning}
use Rattle.estelle_model.specs.declared.meaning.Meaning.TheVariants.{Constant, Other}
use Rattle.estelle_model.specs.Meant.{Meanings}

abbrev pub by_sign : Option Sign → Value → Result Value Stop
by_sign None v = Ok v
by_sign (Some sign) v = signed sign v

abbrev pub constant_named : Meaning → Result Value Stop
constant_named (Constant v h) = Ok v
constant_named _ = Err Broken

-- the value of a constant; what is none breaks a rule
abbrev pub constant_of : Meanings → Const → Result Value Stop
constant_of meant (const.Number sign n span) = by_sign sign (pascal.Int n)
constant_of meant (const.Name sign x span) = constant_named (meant x) >>> by_sign sign
constant_of meant (const.Char n span) = Ok (pascal.Char n)

abbrev pub host_named : Meaning → Host
host_named (Constant v h) = h
host_named _ = host.Integer

-- the host type of a constant
abbrev pub host_of_const : Meanings → Const → Host
host_of_const meant (const.Number sign n span) = host.Integer
host_of_const meant (const.Name sign x span) = host_named (meant x)
host_of_const meant (const.Char n span) = host.Char

abbrev pub defined : Host → Result Value Stop → Meaning
defined h (Ok v) = Constant v h
defined h (Err e) = Other

-- what the name of a constant definition means
abbrev pub const_meaning : Meanings → Const → Meaning
const_meaning meant c = defined (host_of_const meant c) (constant_of meant c)
