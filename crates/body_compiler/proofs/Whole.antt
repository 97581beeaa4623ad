-- The units of all bodies make the whole code.
use Rattle.std.proofs.Common.{◌≡◌, refl, ℕ, zero, suc, ◌<◌, ◌≤◌, List, [], length, inl, inr, Option, Some, None, arith}
use Rattle.std.specs.Prelude.{slice_get, option_map, unwrap_or}
use Rattle.std.proofs.lemmas.Option.{slice_get_within, slice_get_cases}
use Rattle.body_code.specs.declared.unit.Entry.TheVariants as entry
use Rattle.body_code.specs.declared.unit.CodeUnit.{CodeUnit}
use Rattle.estelle_tree.specs.declared.tree.name.Name.{Name}
use Rattle.estelle_tree.specs.declared.tree.declaration.Routine.{Routine as RoutineTree}
use Rattle.estelle_model.specs.declared.denoter.Denoter.{Denoter}
use Rattle.estelle_model.specs.declared.meaning.Routine.{Routine}
use Rattle.estelle_model.specs.declared.meaning.Meaning.TheVariants.{Called, Ip}
use Rattle.estelle_model.specs.Bodies.{BodyAlone, bodies, heading}
use Rattle.estelle_model.specs.Transitions.{Transition}
use Rattle.estelle_model.specs.Subject.{Subject, meant, body, no_body, transitions_of, numbered_one, child_of}
use Rattle.body_table.proofs.BodyEquations.{root_is}
use Rattle.body_program_numbers.specs.Numbering.{numbers_of, routine_of, routines_of, interaction_of, parameters_of}
use Rattle.body_program_numbers.specs.Outline.{routine_lists}
use Rattle.body_program_numbers.specs.Laws.{StandsFor, IsDeclared}
use Rattle.body_program_numbers.proofs.StandingFor as numbers
use Rattle.body_compiler_laws.specs.Compiled.{HasUnit, IsInteraction, IsCode}
use Rattle.body_compiler_laws.specs.Codes.{IsCompiled}
use Rattle.body_compiler_emission.specs.Known.{known_in}
use Rattle.body_compiler.specs.Whole.{HasBody, HasBodies}
use Rattle.body_compiler.proofs.Counts.{lists_count}

-- ---- bodies that are there

past : {A : Type 0} (xs : List A) (n : ℕ) → slice_get xs n ≡ None → length xs ≤ n
past xs n none = elim (slice_get_cases xs n).1 [ inl x ↦ absurd (cc (x.2, none)) | inr more ↦ more.0 ]

-- a transition belongs to a body
of_some : (s : Subject) (o : Option BodyAlone) (number : ℕ) (t : Transition) → numbered_one (transitions_of s o) number ≡ Some t → (b : BodyAlone) × (o ≡ Some b)
of_some s (Some b) number t is = (b, refl)
of_some s None zero t is = absurd (cc)
of_some s None (suc number) t is = absurd (cc)

-- parameters that are known belong to a body
parameters_some : (s : Subject) (o : Option BodyAlone) (types : List Denoter) → option_map (λ b. (heading (meant s) b.header).parameters) o ≡ Some types → (b : BodyAlone) × (o ≡ Some b)
parameters_some s (Some b) types is = (b, refl)
parameters_some s None types is = absurd (cc)

-- a routine that is declared belongs to a body
listed_in : (s : Subject) (k n : ℕ) (tree : RoutineTree) → slice_get (routines_of s k) n ≡ Some tree → k < length (bodies s.specification)
listed_in s k n tree at = by (slice_get (routine_lists s.specification) k) refl at
  where
    by : (o : Option (List RoutineTree)) → slice_get (routine_lists s.specification) k ≡ o → slice_get (unwrap_or o []) n ≡ Some tree → k < length (bodies s.specification)
    by None is e = absurd (cc)
    by (Some trees) is e = omega (arith, lists_count s.specification, slice_get_within (routine_lists s.specification) k trees is)

-- ---- the whole

-- of all bodies, which end before n
module _ (s : Subject) (code : List CodeUnit) (n : ℕ) (has : HasBodies s code n) (all : body s n ≡ None) where
  there : (k : ℕ) → k < length (bodies s.specification) → HasBody s code k
  there k less = has k (omega (arith, less, past (bodies s.specification) n all))

  of_body : (k : ℕ) → (b : BodyAlone) × (body s k ≡ Some b) → HasBody s code k
  of_body k b = there k (slice_get_within (bodies s.specification) k b.0 b.1)

  interaction : (k : ℕ) (ip m : Name) (p i : ℕ) → meant s ip ≡ Ip p → interaction_of s k ip m ≡ Some i → IsInteraction (numbers_of s) (meant s) k ip m p i
  interaction k ip m p i means is =
      let h : StandsFor s k ip m p i = numbers.interactions_stand s k ip m p i means is in
      record { kind = h.kind; means = h.means; word = h.word; interaction = h.interaction; same = h.same }

  routine : (x : Name) (r : Routine) (u : ℕ × ℕ) → meant s x ≡ Called r → routine_of s x ≡ Some u → HasUnit code (known_in s (meant s)) u.0 (entry.Routine u.1) r
  routine x r u means is =
      let h : IsDeclared s r u = numbers.routines_stand s x r u means is in
      (there u.0 (listed_in s u.0 u.1 h.tree h.found)).routines u.1 h.tree h.found r h.means

  initialization : (k : ℕ) (types : List Denoter) → parameters_of s k ≡ Some types → HasUnit code (known_in s (meant s)) k entry.Initialize (child_of s k).block
  initialization k types is = (of_body k (parameters_some s (body s k) types is)).initialization

  is_code : IsCode s (numbers_of s) code (known_in s (meant s))
  is_code = record {
    number = numbers.shapes_stand s;
    export = numbers.exports_stand s;
    interaction = interaction;
    parameters = numbers.parameters_are s;
    routine = routine;
    initialization = initialization;
  }

  pub is_compiled : IsCompiled s (numbers_of s) (known_in s (meant s)) code
  is_compiled = record {
    meant = refl;
    is = is_code;
    begins = (of_body 0 (_, root_is s)).initialization;
    transitions = λ k number t is. ((of_body k (of_some s (body s k) number t is)).transitions number t is).units;
    apart = λ k number t is. ((of_body k (of_some s (body s k) number t is)).transitions number t is).apart;
  }
