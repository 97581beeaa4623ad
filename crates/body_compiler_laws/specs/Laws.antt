-- The laws on what bodies are compiled to: the machine does with it what they mean.
use Rattle.std.specs.Prelude.{◌≡◌, ℕ, List, [], ◌∷◌, length, Some, None}
use Rattle.pascal_values.specs.declared.value.Value.{Value}
use Rattle.estelle_tree.specs.declared.tree.expression.Expr.{Expr}
use Rattle.estelle_tree.specs.Paths.{Path}
use Rattle.body_code.specs.declared.unit.CodeUnit.{CodeUnit}
use Rattle.estelle_model.specs.declared.denoter.Denoter.{Denoter}
use Rattle.estelle_model.specs.declared.meaning.Routine.{Routine}
use Rattle.estelle_model.specs.Meant.{value_types}
use Rattle.estelle_model.specs.States.{Logged, on_log}
use Rattle.estelle_model.specs.Steps.{Running, and_then, pure}
use Rattle.estelle_model.specs.Blocks.{fresh, with_values, block_step, clause_value}
use Rattle.estelle_model.specs.Acts.{act}
use Rattle.estelle_model.specs.Subject.{Subject}
use Rattle.body_machine.specs.declared.item.Item.TheVariants.{Datum}
use Rattle.body_numbers.specs.declared.numbers.Numbers.{Numbers}
use Rattle.body_machine_meaning.specs.Executed.{RunsTo}
use Rattle.body_machine_meaning.specs.Faithful.{IsFaithful}
use Rattle.body_compiler_pieces.specs.UnitCode.{Known, IsUnit, IsClause}
use Rattle.body_compiler_laws.specs.Compiled.{IsCode}
use Rattle.body_compiler_laws.specs.Codes.{IsCompiled}

-- where a code has the units of what is known, the unit of a block comes to what the block means
abbrev pub BlocksAreCompiled : Type 0
BlocksAreCompiled = (s : Subject) (n : Numbers) (code : List CodeUnit) (known : Known) → IsCode s n code known →
    (body : ℕ) (unit : CodeUnit) (path : Path) (values : List Value) (r : Routine) → IsUnit known body r unit →
    length values ≡ length r.parameters → length values ≡ length (value_types r.parameters) → r.result ≡ None →
    (state : Logged) (budget : ℕ) → RunsTo s n code body (Some unit) path values (fresh state budget) (and_then (block_step Logged on_log known.meant (act Logged on_log s known.meant) path r values (fresh state budget)) (λ done. pure []))

-- and the unit of an expression in a clause, in a frame with the values of the interaction, comes to its value
abbrev pub ClausesAreCompiled : Type 0
ClausesAreCompiled = (s : Subject) (n : Numbers) (code : List CodeUnit) (known : Known) → IsCode s n code known →
    (body : ℕ) (unit : CodeUnit) (path : Path) (values : List Value) (received : List Denoter) (e : Expr) → IsClause known body received (e ∷ []) unit →
    length values ≡ length received →
    (start : Running Logged) → RunsTo s n code body (Some unit) path values start (and_then (with_values values (clause_value Logged on_log known.meant (act Logged on_log s known.meant) path e) start) (λ v. pure (Datum v ∷ [])))

-- a code that a specification is compiled to is faithful: what the machine comes to with it is what the bodies mean
abbrev pub CompiledCodesAreFaithful : Type 0
CompiledCodesAreFaithful = (s : Subject) (n : Numbers) (known : Known) (code : List CodeUnit) → IsCompiled s n known code → IsFaithful s n code
