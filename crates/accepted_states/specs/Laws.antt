-- What accepted specifications have in common.
use Rattle.std.specs.Prelude.{◌≡◌, ℕ, List}
use Rattle.estelle_tree.specs.declared.names.Use.{Use}
use Rattle.estelle_tree.specs.declared.token.Placed.{Placed}
use Rattle.estelle_tree.specs.declared.tree.specification.Spec.{Spec}
use Rattle.estelle_tree.specs.Lexed.{IsLexed, FollowOneAnother}
use Rattle.estelle_tree.specs.Spells.{Spells}
use Rattle.estelle_model_legality.specs.Instances.{LeadsToStates}
use Rattle.scope_rules.specs.declared.refusal.Breach.{Breach}
use Rattle.scope_rules.specs.NameRules.{names_of}
use Rattle.spec_accept.specs.Rules.{RuleBroken}

-- no rule is broken
abbrev pub KeepsRules : Spec → Type 0
KeepsRules spec = (b : Breach) → RuleBroken spec b → ⊥

-- a specification that spells tokens whose spans follow one another, and that breaks no rule, leads to states of its own, with the names that the rules say
abbrev pub AcceptedLeadToStates : Type 0
AcceptedLeadToStates = (spec : Spec) (names : List Use) (tokens : List Placed) (rest : ℕ) → Spells spec tokens → FollowOneAnother 0 tokens rest → names ≡ names_of spec → KeepsRules spec
    → LeadsToStates (record { specification = spec; names = names })

-- so does one that was read from a text
abbrev pub ReadLeadToStates : Type 0
ReadLeadToStates = (spec : Spec) (names : List Use) (text : List ℕ) (tokens : List Placed) (rest : ℕ) → IsLexed text tokens rest → Spells spec tokens → names ≡ names_of spec → KeepsRules spec
    → LeadsToStates (record { specification = spec; names = names })
