-- Choices of values for the names of `any` (ISO/IEC 9074: any clause), by their numbers.
use Rattle.std.specs.Prelude.{ℕ, zero, suc, ◌*◌, ◌/◌, ◌%◌, if◌then◌else◌, List, [], ◌∷◌, ◌++◌, map, ℤ, pos, ◌+ℤ◌}
use Rattle.std.specs.List.{flat_map}
use Rattle.pascal_values.specs.declared.value.Value.{Value}
use Rattle.pascal_values.specs.declared.value.Value.TheVariants as pascal
use Rattle.pascal_values.specs.Integers.{is_between}
use Rattle.pascal_values.specs.Shapes.{item_count}
use Rattle.estelle_tree.specs.declared.tree.name.Name.{Name}
use Rattle.estelle_tree.specs.declared.tree.clause.AnyDom.{AnyDom}
use Rattle.estelle_tree.specs.declared.tree.clause.Clause.{Clause}
use Rattle.estelle_model.specs.declared.denoter.Host.{Host}
use Rattle.estelle_model.specs.declared.denoter.Denoter.{Denoter}
use Rattle.estelle_model.specs.Types.{least, greatest, value_of, host_of, range_of}
use Rattle.estelle_model.specs.Meant.{Meanings}
use Rattle.estelle_model.specs.Definitions.{domains_of}
use Rattle.estelle_model.specs.Transitions.{Choice, choices, names_of_domain}
use Rattle.flat_transitions.specs.declared.any_names.AnyName.{AnyName}

-- ---- one name

-- a name with the ordinal type that is its domain
abbrev pub any_name : Name × Denoter → AnyName
any_name x = record { at = x.0.span.start; host = host_of x.1; low = (range_of x.1).0; high = (range_of x.1).1 }

-- the value of a host type with an ordinal; an ordinal that the type does not have counts as unset
abbrev pub chosen_value : Host → ℤ → Value
chosen_value h n = if is_between (least h) (greatest h) n then value_of h n else pascal.Unset

abbrev pub choice_of : AnyName → ℤ → Choice
choice_of x n = record { at = x.at; value = chosen_value x.host n; host = x.host }

-- ---- several names

-- how many choices there are: a product in unbounded numbers
abbrev pub choice_count : List AnyName → ℕ
choice_count [] = 1
choice_count (x ∷ xs) = item_count x.low x.high * choice_count xs

-- the choice with a number, counted from 0: the last name is the fastest
abbrev pub numbered_choice : List AnyName → ℕ → List Choice
numbered_choice [] k = []
numbered_choice (x ∷ xs) k = choice_of x (x.low +ℤ pos (k / choice_count xs)) ∷ numbered_choice xs (k % choice_count xs)

-- so many choices, from one with a number on
abbrev pub choices_from : List AnyName → ℕ → ℕ → List (List Choice)
choices_from xs k zero = []
choices_from xs k (suc n) = numbered_choice xs k ∷ choices_from xs (suc k) n

-- ---- the names on a way

-- each choice for the names before, with each one for more names
abbrev pub joined : List (List Choice) → List (List Choice) → List (List Choice)
joined before more = flat_map (λ chosen. map (λ c. chosen ++ c) more) before

module _ (known : Meanings) where
  abbrev pub names_in : List AnyDom → List (Name × Denoter)
  names_in = flat_map (names_of_domain known)

  -- those of one domain
  abbrev pub domain_names : AnyDom → List AnyName
  domain_names d = map any_name (names_of_domain known d)

  -- the choices behind one more clause
  abbrev pub grown_clause : List (List Choice) → Clause → List (List Choice)
  grown_clause before c = joined before (choices known (names_in (domains_of c)))
