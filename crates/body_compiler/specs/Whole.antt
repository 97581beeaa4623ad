-- What of the code of a specification is there so far.
use Rattle.std.specs.Prelude.{◌≡◌, ℕ, ◌<◌, ◌≤◌, if◌then◌else◌, List, [], ◌++◌, length, replicate, slice_get, Option, Some, None}
use Rattle.estelle_tree.specs.declared.tree.declaration.Formal.{Formal}
use Rattle.estelle_tree.specs.declared.tree.declaration.Routine.{Routine as RoutineTree}
use Rattle.body_code.specs.declared.unit.Entry.{Entry}
use Rattle.body_code.specs.declared.unit.Entry.TheVariants as entry
use Rattle.body_code.specs.declared.unit.CodeUnit.{CodeUnit}
use Rattle.body_code.specs.Units.{unit_of}
use Rattle.estelle_model.specs.declared.denoter.Denoter.{Denoter}
use Rattle.estelle_model.specs.declared.meaning.Routine.{Routine}
use Rattle.estelle_model.specs.declared.meaning.Meaning.TheVariants.{Called}
use Rattle.estelle_model.specs.Meant.{Meanings}
use Rattle.estelle_model.specs.Names.{at_place}
use Rattle.estelle_model.specs.Denoted.{named_type}
use Rattle.estelle_model.specs.Transitions.{Delay, Transition}
use Rattle.estelle_model.specs.Subject.{Subject, declared_in, meant, meant_with, transition, begins}
use Rattle.body_compiler_laws.specs.Compiled.{HasUnit}
use Rattle.body_compiler_laws.specs.Codes.{HasClause, HasTransition, AreApart, in_clause, delay_code}
use Rattle.body_compiler_laws.specs.Order.{IsOpen}
use Rattle.body_program_numbers.specs.Numbering.{routines_of}
use Rattle.body_compiler_emission.specs.Known.{known_in}

-- the types of a formal parameter, if it is a var parameter
abbrev pub reference_types : Meanings → Formal → List Denoter
reference_types known f = if f.is_var then replicate (length f.names.names) (named_type known f.type_name) else []

-- ---- units in the order of the listing

-- units came behind others
pub record Grown (old new : List CodeUnit) : Type 0 where
  pub more : List CodeUnit
  pub is : new ≡ old ++ more

-- no unit stands yet in this body, nor in a later one
abbrev pub IsFree : List CodeUnit → ℕ → Type 0
IsFree code first = (body : ℕ) (e : Entry) → first ≤ body → unit_of code body e ≡ None

-- units came behind others: what comes next belongs to this body, and is of this kind, from this number on
pub record Comes (old new : List CodeUnit) (body kind number : ℕ) : Type 0 where
  pub grown : Grown old new
  pub free : IsOpen new body kind number

-- ---- the units of a body

-- the routine that is declared where its name stands has its unit
abbrev pub HasRoutine : Subject → List CodeUnit → (body number : ℕ) → RoutineTree → Type 0
HasRoutine s code body number tree = (r : Routine) → at_place (declared_in s) tree.name.span.start ≡ Called r → HasUnit code (known_in s (meant s)) body (entry.Routine number) r

-- so do all of these
abbrev pub HasRoutines : Subject → List CodeUnit → (body : ℕ) → List RoutineTree → Type 0
HasRoutines s code body trees = (k : ℕ) (tree : RoutineTree) → slice_get trees k ≡ Some tree → HasRoutine s code body k tree

-- a delay has its unit, where one is written
abbrev pub HasDelay : Subject → Meanings → List CodeUnit → (body number : ℕ) → List Denoter → Option Delay → Type 0
HasDelay s known code body number received delay = (d : Delay) → delay ≡ Some d → HasClause code body (entry.Delay number) received (delay_code (in_clause (known_in s known) body received) d)

-- the transition with a number has its units, and its values of `any` stand apart
pub record HasOne (s : Subject) (code : List CodeUnit) (body number : ℕ) (t : Transition) : Type 0 where
  pub units : HasTransition code (known_in s (meant_with s t.chosen)) body number t
  pub apart : AreApart (declared_in s) t.chosen

-- so has the one with a number, if there is one
abbrev pub HasNumbered : Subject → List CodeUnit → (body number : ℕ) → Type 0
HasNumbered s code body number = (t : Transition) → transition s body number ≡ Some t → HasOne s code body number t

-- routines, an initialization and transitions have their units
pub record HasBody (s : Subject) (code : List CodeUnit) (body : ℕ) : Type 0 where
  pub routines : HasRoutines s code body (routines_of s body)
  pub initialization : HasUnit code (known_in s (meant s)) body entry.Initialize (begins s body).block
  pub transitions : (number : ℕ) → HasNumbered s code body number

-- the bodies before a number have their units
abbrev pub HasBodies : Subject → List CodeUnit → ℕ → Type 0
HasBodies s code before = (body : ℕ) → body < before → HasBody s code body
