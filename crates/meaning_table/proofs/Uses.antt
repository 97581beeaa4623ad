-- The names in use by their places.
use Rattle.std.proofs.Common.{◌≡◌, ◌∙◌, ℕ, Bool, true, false, nat_eq, cond, List, [], ◌∷◌, refl, ap, map, arith, Some}
use Rattle.std.specs.Prelude.{option_map, if◌then◌else◌}
use Rattle.std.specs.Map.{lookup}
use Rattle.std.proofs.lemmas.Bool.Decides.{nat_tests}
use Rattle.estelle_tree.specs.declared.names.Use.{Use}
use Rattle.estelle_tree.specs.declared.tree.name.Name.{Name}
use Rattle.estelle_model.specs.Names.{declaration_of}
use Rattle.meaning_table.specs.Known.{by_place}

-- by their places they are the same names
pub names_of_places : (us : List Use) → map (λ u. u.1) (by_place us) ≡ us
names_of_places [] = refl
names_of_places (u ∷ us) = ap (λ vs. u ∷ vs) (names_of_places us)

same_test : (a b : ℕ) → nat_eq a b ≡ nat_eq b a
same_test a b = grind (arith, nat_tests)

-- what stands at the place of a name tells its declaration
pub declared_by_place : (us : List Use) (x : Name) → option_map (λ u. u.decl) (lookup (nat_eq x.span.start) (by_place us)) ≡ declaration_of us x
declared_by_place [] x = refl
declared_by_place (u ∷ us) x = by (nat_eq x.span.start u.at.start) (declared_by_place us x) ∙ ap (λ b. if b then Some u.decl else declaration_of us x) (same_test x.span.start u.at.start)
  where
    by : (b : Bool) → option_map (λ v. v.decl) (lookup (nat_eq x.span.start) (by_place us)) ≡ declaration_of us x → option_map (λ v. v.decl) (cond b (Some u) (lookup (nat_eq x.span.start) (by_place us))) ≡ (if b then Some u.decl else declaration_of us x)
    by true more = refl
    by false more = more

pub ruleset uses = (names_of_places, declared_by_place)
