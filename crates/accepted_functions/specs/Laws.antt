-- Functions of accepted specifications.
use Rattle.std.specs.Prelude.{◌≡◌, ℕ, List}
use Rattle.estelle_tree.specs.declared.names.Use.{Use}
use Rattle.estelle_tree.specs.declared.token.Placed.{Placed}
use Rattle.estelle_tree.specs.declared.tree.specification.Spec.{Spec}
use Rattle.estelle_tree.specs.Lexed.{IsLexed, FollowOneAnother}
use Rattle.estelle_tree.specs.Spells.{Spells}
use Rattle.scope_rules.specs.NameRules.{names_of}
use Rattle.accepted_states.specs.Laws.{KeepsRules}
use Rattle.guards_seen.specs.Quiet.{IsQuiet}

-- in a specification that spells tokens whose spans follow one another, and that breaks no rule, functions are quiet, with the names that the rules say
abbrev pub AcceptedFunctionsAreQuiet : Type 0
AcceptedFunctionsAreQuiet = (spec : Spec) (names : List Use) (tokens : List Placed) (rest : ℕ) → Spells spec tokens → FollowOneAnother 0 tokens rest → names ≡ names_of spec → KeepsRules spec
    → IsQuiet (record { specification = spec; names = names })

-- so they are in one that was read from a text
abbrev pub ReadFunctionsAreQuiet : Type 0
ReadFunctionsAreQuiet = (spec : Spec) (names : List Use) (text : List ℕ) (tokens : List Placed) (rest : ℕ) → IsLexed text tokens rest → Spells spec tokens → names ≡ names_of spec → KeepsRules spec
    → IsQuiet (record { specification = spec; names = names })
