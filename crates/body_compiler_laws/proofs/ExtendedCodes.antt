-- The units of a code are those of the same routines where the names of an `any` clause have values.
use Rattle.std.proofs.Common.{◌≡◌, ◌∙◌, refl, sym, ap, subst, ℕ, Bool, true, false, nat_eq, List, [], ◌∷◌, inl, inr, Option, Some, None, arith}
use Rattle.std.specs.Prelude.{if◌then◌else◌}
use Rattle.std.specs.Map.{lookup}
use Rattle.std.proofs.lemmas.Bool.Decides.{nat_tests}
use Rattle.std.proofs.lemmas.List.Elements.{All-head, All-tail}
use Rattle.pascal_values.specs.declared.value.Shape.{Shape}
use Rattle.estelle_tree.specs.declared.span.Span.{Span}
use Rattle.estelle_tree.specs.declared.tree.name.Name.{Name}
use Rattle.body_code.specs.declared.unit.Entry.{Entry}
use Rattle.body_code.specs.declared.unit.CodeUnit.{CodeUnit}
use Rattle.estelle_model.specs.declared.meaning.Passing.{Passing}
use Rattle.estelle_model.specs.declared.meaning.Routine.{Routine}
use Rattle.estelle_model.specs.declared.meaning.Meaning.TheVariants.{Constant, Called, Ip, Interaction, Other}
use Rattle.estelle_model.specs.Meant.{Meanings}
use Rattle.estelle_model.specs.Names.{Declared, or_other, at_place, declaration_of, meaning_at, required_meaning}
use Rattle.estelle_model.specs.Transitions.{Choice, with_choices}
use Rattle.estelle_model.specs.Subject.{Subject, declared_in, meant, meant_with}
use Rattle.body_numbers.specs.declared.numbers.Numbers.{Numbers}
use Rattle.body_compiler_pieces.specs.Pieces.{Piece}
use Rattle.body_compiler_pieces.specs.UnitCode.{Known, within, result_code, routine_code, IsMadeOf, IsUnit}
use Rattle.body_compiler_laws.specs.Compiled.{IsInteraction, HasUnit, IsCode}
use Rattle.body_compiler_laws.specs.Codes.{where_meant, AreApart}
use Rattle.body_compiler_laws.proofs.Extended.{MeansMore, Extends, and_extends}
use Rattle.body_compiler_laws.proofs.ExtendedStatements.{stmts_extend}

made_extends : (passed : List Passing) (shapes : List Shape) (p q : Piece) (unit : CodeUnit) → Extends p q → IsMadeOf passed shapes p unit → IsMadeOf passed shapes q unit
made_extends passed shapes p q unit h made = subst (λ (x : Piece). IsMadeOf passed shapes x unit) (h made.fine) made

module _ (known : Known) (m : Meanings) (more : (x : Name) → MeansMore (known.meant x) (m x)) where
  pub routine_extends : (body : ℕ) (r : Routine) → Extends (routine_code known body r) (routine_code (where_meant known m) body r)
  routine_extends body r = and_extends _ _ (result_code (within known body r) r r.result) (stmts_extend (within known body r) m more r.body)

  -- the unit of a routine is its unit still
  pub unit_extends : (body : ℕ) (r : Routine) (unit : CodeUnit) → IsUnit known body r unit → IsUnit (where_meant known m) body r unit
  unit_extends body r unit made = made_extends _ _ _ _ unit (routine_extends body r) made

  has_extends : (code : List CodeUnit) (body : ℕ) (place : Entry) (r : Routine) → HasUnit code known body place r → HasUnit code (where_meant known m) body place r
  has_extends code body place r h = record { unit = h.unit; found = h.found; is = unit_extends body r h.unit h.is }

  -- what is no constant was meant before
  was_called : (x : Name) (r : Routine) → m x ≡ Called r → known.meant x ≡ Called r
  was_called x r e = by (more x)
    where
      by : MeansMore (known.meant x) (m x) → known.meant x ≡ Called r
      by (inl h) = h ∙ e
      by (inr h) = absurd (cc)

  was_ip : (x : Name) (k : ℕ) → m x ≡ Ip k → known.meant x ≡ Ip k
  was_ip x k e = by (more x)
    where
      by : MeansMore (known.meant x) (m x) → known.meant x ≡ Ip k
      by (inl h) = h ∙ e
      by (inr h) = absurd (cc)

  interaction_extends : (n : Numbers) (body : ℕ) (ip x : Name) (k i : ℕ) → IsInteraction n known.meant body ip x k i → IsInteraction n m body ip x k i
  interaction_extends n body ip x k i h = record { kind = h.kind; means = by (more x); word = h.word; interaction = h.interaction; same = h.same }
    where
      by : MeansMore (known.meant x) (m x) → m x ≡ Interaction h.kind
      by (inl e) = sym e ∙ h.means
      by (inr e) = absurd (cc)

  pub code_extends : (s : Subject) (n : Numbers) (code : List CodeUnit) → IsCode s n code known → IsCode s n code (where_meant known m)
  code_extends s n code h = record {
    number = h.number;
    export = h.export;
    interaction = λ body ip x k i e f. interaction_extends n body ip x k i (h.interaction body ip x k i (was_ip ip k e) f);
    parameters = h.parameters;
    routine = λ x r u e f. has_extends code u.0 _ r (h.routine x r u (was_called x r e) f);
    initialization = λ k types e. has_extends code k _ _ (h.initialization k types e);
  }

-- ---- the names of an `any` clause

same_number : (a b : ℕ) → nat_eq a b ≡ true → a ≡ b
same_number a b h = grind (arith, nat_tests)

choices_more : (base current : Declared) (cs : List Choice) → ((at : ℕ) → MeansMore (at_place base at) (at_place current at)) → AreApart base cs → (at : ℕ) → MeansMore (at_place base at) (at_place (with_choices current cs) at)
choices_more base current [] h apart at = h at
choices_more base current (c ∷ cs) h apart at = choices_more base ((c.at, Constant c.value c.host) ∷ current) cs (λ k. by k (nat_eq k c.at) refl) (All-tail (λ d. at_place base d.at ≡ Other) c cs apart) at
  where
    by : (k : ℕ) (b : Bool) → nat_eq k c.at ≡ b → MeansMore (at_place base k) (or_other (if b then Some (Constant c.value c.host) else lookup (nat_eq k) current))
    by k true e = inr (ap (at_place base) (same_number k c.at e) ∙ All-head (λ d. at_place base d.at ≡ Other) c cs apart, (c.value, c.host, refl))
    by k false e = h k

-- what a name means with these values
pub choice_means : (s : Subject) (cs : List Choice) → AreApart (declared_in s) cs → (x : Name) → MeansMore (meant s x) (meant_with s cs x)
choice_means s cs apart x = of_declaration (declaration_of s.names x)
  where
    at : (k : ℕ) → MeansMore (at_place (declared_in s) k) (at_place (with_choices (declared_in s) cs) k)
    at k = choices_more (declared_in s) (declared_in s) cs (λ i. inl refl) apart k

    by : (d : Span) (b : Bool) → MeansMore (if b then required_meaning x.word else at_place (declared_in s) d.start) (if b then required_meaning x.word else at_place (with_choices (declared_in s) cs) d.start)
    by d true = inl refl
    by d false = at d.start

    of_declaration : (o : Option Span) → MeansMore (meaning_at (declared_in s) x o) (meaning_at (with_choices (declared_in s) cs) x o)
    of_declaration None = inl refl
    of_declaration (Some d) = by d (nat_eq d.end 0)

-- a code has its units with these values too
pub chosen_extends : (s : Subject) (n : Numbers) (code : List CodeUnit) (known : Known) → known.meant ≡ meant s → IsCode s n code known → (cs : List Choice) → AreApart (declared_in s) cs → IsCode s n code (where_meant known (meant_with s cs))
chosen_extends s n code known means h cs apart = code_extends known (meant_with s cs) (λ x. subst (λ (m : Meanings). MeansMore (m x) (meant_with s cs x)) (sym means) (choice_means s cs apart x)) s n code h
