-- What names with rising numbers mean.
use Rattle.std.specs.Prelude.{ℕ, ◌+◌}
use Rattle.pascal_values.specs.declared.value.Value.TheVariants as pascal
use Rattle.estelle_model.specs.declared.denoter.Denoter.{Denoter}
use Rattle.estelle_model.specs.declared.meaning.Meaning.{Meaning}
use Rattle.estelle_model.specs.declared.meaning.Meaning.TheVariants as meaning
use Rattle.estelle_model.specs.Meant.{Meanings}
use Rattle.meaning_table.specs.declared.kinds.VariableKind.{VariableKind}
use Rattle.meaning_table.specs.declared.kinds.VariableKind.TheVariants as variable
use Rattle.meaning_table.specs.declared.kinds.PlainKind.{PlainKind}
use Rattle.meaning_table.specs.declared.kinds.PlainKind.TheVariants as plain

-- a variable by its number and type
abbrev pub variable_meaning : VariableKind → Denoter → ℕ → Meaning
variable_meaning variable.Own t n = meaning.Own n t
variable_meaning variable.Exported t n = meaning.Exported n t
variable_meaning variable.Local t n = meaning.Local n t
variable_meaning variable.Var t n = meaning.Var n t

-- variables that are numbered behind others
abbrev pub numbered_behind : VariableKind → (Meanings → ℕ) → Meanings → ℕ → Denoter → Meaning
numbered_behind kind base known n t = variable_meaning kind t (base known + n)

-- variables before which there is none
abbrev pub variables : VariableKind → Meanings → ℕ → Denoter → Meaning
variables kind known n t = variable_meaning kind t n

-- what has a number alone
abbrev pub plain_meaning : PlainKind → ℕ → Meaning
plain_meaning (plain.Value h) n = meaning.Constant (pascal.Enum n) h
plain_meaning plain.Field n = meaning.Field n
plain_meaning plain.Module n = meaning.Module n
plain_meaning plain.Ip n = meaning.Ip n
plain_meaning plain.State n = meaning.State n

-- what has a number alone, which tells it from others of its kind
abbrev pub plainly : PlainKind → ℕ → Meanings → Meaning
plainly kind n known = plain_meaning kind n
