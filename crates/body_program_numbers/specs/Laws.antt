-- What the numbers of a specification promise.
use Rattle.std.specs.Prelude.{◌≡◌, ℕ, List, slice_get, Some}
use Rattle.pascal_values.specs.declared.value.Shape.{Shape}
use Rattle.estelle_tree.specs.declared.tree.name.Name.{Name}
use Rattle.estelle_tree.specs.declared.tree.declaration.Routine.{Routine as RoutineTree}
use Rattle.estelle_model.specs.declared.denoter.Denoter.{Denoter}
use Rattle.estelle_model.specs.declared.meaning.Routine.{Routine}
use Rattle.estelle_model.specs.declared.meaning.InteractionKind.{InteractionKind}
use Rattle.estelle_model.specs.declared.meaning.Meaning.TheVariants.{Called, Ip, Interaction}
use Rattle.estelle_model.specs.Names.{at_place}
use Rattle.estelle_model.specs.Subject.{Subject, declared_in, meant, child_of}
use Rattle.body_numbers.specs.Numbers as numbers
use Rattle.body_program_numbers.specs.Numbering.{numbers_of, number_of, export_of, interaction_of, parameters_of, routine_of, routines_of, place_of_routine}

-- the number of a shape stands for it
abbrev pub NumbersStandForShapes : Type 0
NumbersStandForShapes = (s : Subject) (shape : Shape) (k : ℕ) → number_of s shape ≡ Some k → numbers.shape_numbered (numbers_of s) k ≡ Some shape

-- the number of an export stands for its variable
abbrev pub NumbersStandForExports : Type 0
NumbersStandForExports = (s : Subject) (body m k i : ℕ) → export_of s body m k ≡ Some i → numbers.export_numbered (numbers_of s) body m i ≡ Some k

-- numbers stand for the interaction point and the interaction that two names mean
pub record StandsFor (s : Subject) (body : ℕ) (ip m : Name) (k i : ℕ) : Type 0 where
  pub kind : InteractionKind
  pub means : meant s m ≡ Interaction kind
  pub word : numbers.word_of (numbers_of s) body k ≡ Some ip.word
  pub interaction : numbers.interaction_of (numbers_of s) body k i ≡ Some kind
  pub same : kind.word ≡ m.word

abbrev pub NumbersStandForInteractions : Type 0
NumbersStandForInteractions = (s : Subject) (body : ℕ) (ip m : Name) (k i : ℕ) → meant s ip ≡ Ip k → interaction_of s body ip m ≡ Some i → StandsFor s body ip m k i

-- the parameters of a body are those of its instances
abbrev pub ParametersAreOfChildren : Type 0
ParametersAreOfChildren = (s : Subject) (k : ℕ) (types : List Denoter) → parameters_of s k ≡ Some types → types ≡ (child_of s k).parameters

-- the routine with a number is declared where what the name calls is declared
pub record IsDeclared (s : Subject) (r : Routine) (n : ℕ × ℕ) : Type 0 where
  pub tree : RoutineTree
  pub found : slice_get (routines_of s n.0) n.1 ≡ Some tree
  pub means : at_place (declared_in s) (place_of_routine tree) ≡ Called r

abbrev pub NumbersStandForRoutines : Type 0
NumbersStandForRoutines = (s : Subject) (x : Name) (r : Routine) (n : ℕ × ℕ) → meant s x ≡ Called r → routine_of s x ≡ Some n → IsDeclared s r n
