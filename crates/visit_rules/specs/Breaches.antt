-- Tables of rules: what each visit of a tree breaks.
use Rattle.std.specs.Prelude.{ℕ, Bool, if◌then◌else◌, List, [], ◌∷◌, map, Option, Some}
use Rattle.std.specs.List.{flat_map}
use Rattle.estelle_tree.specs.declared.tree.name.Name.{Name}
use Rattle.estelle_tree.specs.declared.tree.specification.Spec.{Spec}
use Rattle.scope_rules.specs.declared.refusal.Breach.{Breach}
use Rattle.scope_rules.specs.Least.{breach, noted}
use Rattle.scope_rules.specs.NameRules.{IsOne}
use Rattle.tree_visits.specs.Visit.{Visit}
use Rattle.tree_visits.specs.Visits.{visits}

-- for each visit the breaches that it is
abbrev pub Rules : Type 0
Rules = Visit → List Breach

-- a breach of a tree: one of a visit
abbrev pub Broken : Rules → Spec → Breach → Type 0
Broken rules tree b = IsOne b (flat_map rules (visits tree))

-- each of these names breaks a rule
abbrev pub breaches_at : ℕ → List Name → List Breach
breaches_at number = map (λ x. breach number x.span)

-- breaches, where something is so
abbrev pub where_ : Bool → List Breach → List Breach
where_ test bs = if test then bs else []

-- the breach that is reported of one and of more
unfoldable pub noted_all : Option Breach → List Breach → Option Breach
noted_all first [] = first
noted_all first (b ∷ bs) = noted_all (noted first (Some b)) bs
