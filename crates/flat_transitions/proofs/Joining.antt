-- What is made of the names of a clause is the choices for them.
use Rattle.std.proofs.Common.{◌≡◌, ◌≢◌, ◌∙◌, ℕ, ◌^◌, ◌-◌, min, List, [], ◌∷◌, ◌++◌, map, refl, ap, sym, arith}
use Rattle.std.specs.List.{flat_map}
use Rattle.std.proofs.lemmas.List.{map-append}
use Rattle.estelle_tree.specs.declared.span.Span.{Span}
use Rattle.estelle_tree.specs.declared.tree.name.Name.{Name}
use Rattle.estelle_tree.specs.declared.tree.clause.AnyDom.{AnyDom}
use Rattle.estelle_tree.specs.declared.tree.clause.Clause.{Clause}
use Rattle.estelle_tree.specs.declared.tree.clause.Clause.TheVariants as clause
use Rattle.estelle_model.specs.declared.denoter.Denoter.{Denoter}
use Rattle.estelle_model.specs.Denoted.{ordinal_type}
use Rattle.estelle_model.specs.Meant.{Meanings}
use Rattle.estelle_model.specs.Transitions.{Choice, choices, names_of_domain}
use Rattle.flat_transitions.specs.declared.any_names.AnyName.{AnyName}
use Rattle.flat_transitions.specs.Choices.{any_name, choice_count, choices_from, joined, names_in, domain_names, grown_clause}
use Rattle.flat_transitions.specs.Counts.{domains_count}
use Rattle.flat_transitions.proofs.Numbered.{all_numbered}
use Rattle.flat_transitions.proofs.Counts.{domains_counted}
use Rattle.flat_transitions.proofs.Chosen.{joined_none}

module _ (known : Meanings) where
  names_are : (ds : List AnyDom) → flat_map (domain_names known) ds ≡ map any_name (names_in known ds)
  names_are [] = refl
  names_are (d ∷ ds) = ap (λ xs. domain_names known d ++ xs) (names_are ds) ∙ sym (map-append any_name (names_of_domain known d) (names_in known ds))

  pub count_is : (ds : List AnyDom) (names : List AnyName) (count : ℕ) → names ≡ flat_map (domain_names known) ds → count ≡ min (2 ^ 32 - 1) (domains_count known ds) → count ≢ 2 ^ 32 - 1 → count ≡ choice_count names
  count_is ds names count are is less =
      let whole : choice_count names ≡ domains_count known ds = ap choice_count (are ∙ names_are ds) ∙ domains_counted known ds in
      omega (arith, whole, is, less)

  all_choices : (ds : List AnyDom) (names : List AnyName) (count : ℕ) → names ≡ map any_name (names_in known ds) → count ≡ choice_count names → choices_from names 0 count ≡ choices known (names_in known ds)
  all_choices ds names count are is = ap (choices_from names 0) is ∙ ap (λ xs. choices_from xs 0 (choice_count xs)) are ∙ sym (all_numbered known (names_in known ds))

  pub all_joined : (ds : List AnyDom) (names : List AnyName) (count : ℕ) (before : List (List Choice)) → names ≡ flat_map (domain_names known) ds → count ≡ choice_count names
      → joined before (choices_from names 0 count) ≡ joined before (choices known (names_in known ds))
  all_joined ds names count before are is = ap (joined before) (all_choices ds names count (are ∙ names_are ds) is)

  named_alike : (t : Denoter) (xs : List Name) → map (λ x. any_name (x, t)) xs ≡ map any_name (map (λ x. (x, t)) xs)
  named_alike t [] = refl
  named_alike t (x ∷ xs) = ap (λ ys. any_name (x, t) ∷ ys) (named_alike t xs)

  -- the names of one domain, by its type
  pub domain_named : (d : AnyDom) (t : Denoter) → t ≡ ordinal_type known d.domain → map (λ x. any_name (x, t)) d.names.names ≡ domain_names known d
  domain_named d t is = named_alike t d.names.names ∙ ap (λ u. map any_name (map (λ x. (x, u)) d.names.names)) is

  -- a clause of another kind than `any` has no names
  pub nothing_chosen : (before : List (List Choice)) (c : Clause) → ((ds : List AnyDom) (span : Span) → c ≡ clause.Any ds span → ⊥) → before ≡ grown_clause known before c
  nothing_chosen before (clause.Any ds span) other = absurd (other ds span refl)
  nothing_chosen before (clause.From states span) other = joined_none before
  nothing_chosen before (clause.To state span) other = joined_none before
  nothing_chosen before (clause.When ip interaction params span) other = joined_none before
  nothing_chosen before (clause.Provided condition span) other = joined_none before
  nothing_chosen before (clause.Priority value span) other = joined_none before
  nothing_chosen before (clause.Delay low high span) other = joined_none before
