-- What it is for a code to be what a specification is compiled to, as far as units ask it of each other.
use Rattle.std.specs.Prelude.{◌≡◌, ℕ, List, Some}
use Rattle.pascal_values.specs.declared.value.Shape.{Shape}
use Rattle.estelle_tree.specs.declared.tree.name.Name.{Name}
use Rattle.body_code.specs.declared.unit.Entry.{Entry}
use Rattle.body_code.specs.declared.unit.Entry.TheVariants as entry
use Rattle.body_code.specs.declared.unit.CodeUnit.{CodeUnit}
use Rattle.body_code.specs.Units.{unit_of}
use Rattle.estelle_model.specs.declared.denoter.Denoter.{Denoter}
use Rattle.estelle_model.specs.declared.meaning.Routine.{Routine}
use Rattle.estelle_model.specs.declared.meaning.InteractionKind.{InteractionKind}
use Rattle.estelle_model.specs.declared.meaning.Meaning.TheVariants.{Called, Ip, Interaction}
use Rattle.estelle_model.specs.Meant.{Meanings}
use Rattle.estelle_model.specs.Subject.{Subject, child_of}
use Rattle.body_numbers.specs.declared.numbers.Numbers.{Numbers}
use Rattle.body_numbers.specs.Numbers.{shape_numbered, export_numbered, word_of, interaction_of}
use Rattle.body_compiler_pieces.specs.UnitCode.{Known, IsUnit}

-- numbers stand for the interaction point and the interaction that two names mean
pub record IsInteraction (n : Numbers) (meant : Meanings) (body : ℕ) (ip m : Name) (k i : ℕ) : Type 0 where
  pub kind : InteractionKind
  pub means : meant m ≡ Interaction kind
  pub word : word_of n body k ≡ Some ip.word
  pub interaction : interaction_of n body k i ≡ Some kind
  pub same : kind.word ≡ m.word

-- the code has a unit for a routine at a place
pub record HasUnit (code : List CodeUnit) (known : Known) (body : ℕ) (place : Entry) (r : Routine) : Type 0 where
  pub unit : CodeUnit
  pub found : unit_of code body place ≡ Some unit
  pub is : IsUnit known body r unit

-- numbers stand for what is known, and each routine and initialization has its unit
pub record IsCode (s : Subject) (n : Numbers) (code : List CodeUnit) (known : Known) : Type 0 where
  pub number : (shape : Shape) (k : ℕ) → known.number shape ≡ Some k → shape_numbered n k ≡ Some shape
  pub export : (body m k i : ℕ) → known.export body m k ≡ Some i → export_numbered n body m i ≡ Some k
  pub interaction : (body : ℕ) (ip m : Name) (k i : ℕ) → known.meant ip ≡ Ip k → known.interaction body ip m ≡ Some i → IsInteraction n known.meant body ip m k i
  pub parameters : (k : ℕ) (types : List Denoter) → known.parameters k ≡ Some types → types ≡ (child_of s k).parameters
  pub routine : (x : Name) (r : Routine) (u : ℕ × ℕ) → known.meant x ≡ Called r → known.routine x ≡ Some u → HasUnit code known u.0 (entry.Routine u.1) r
  pub initialization : (k : ℕ) (types : List Denoter) → known.parameters k ≡ Some types → HasUnit code known k entry.Initialize (child_of s k).block
