-- The static rules of a specification.
use Rattle.std.specs.Prelude.{ℕ, List, ◌⊎◌, Option, Some, None, Result, Ok, Err}
use Rattle.estelle_tree.specs.declared.names.Names.{Names}
use Rattle.estelle_tree.specs.declared.token.Placed.{Placed}
use Rattle.estelle_tree.specs.declared.tree.specification.Spec.{Spec}
use Rattle.estelle_tree.specs.Lexed.{FollowOneAnother}
use Rattle.estelle_tree.specs.Spells.{Spells}
use Rattle.scope_rules.specs.declared.refusal.Breach.{Breach}
use Rattle.scope_rules.specs.declared.refusal.Refusal.{Refusal}
use Rattle.scope_rules.specs.declared.refusal.Refusal.TheVariants.{Rule, Memory}
use Rattle.scope_rules.specs.NameRules.{NameRuleBroken, names_of}
use Rattle.attribute_rules.specs.AttributeRules.{AttributeRuleBroken}
use Rattle.channel_roles.specs.ChannelRules.{ChannelRuleBroken}
use Rattle.transition_expand.specs.TransitionRules.{TransitionRuleBroken}
use Rattle.type_rules.specs.PascalRules.{PascalRuleBroken}

-- for each name in use the name in its declaration
abbrev pub names : Spec → Names
names spec = record { uses = names_of spec }

-- none of the rules 1 to 5 is broken
abbrev pub KeepsNames : Spec → Type 0
KeepsNames spec = (b : Breach) → NameRuleBroken spec b → ⊥

-- a rule from 10 on is broken, by what names mean
abbrev pub MeaningRuleBroken : Spec → Names → Breach → Type 0
MeaningRuleBroken spec names b = ((AttributeRuleBroken spec names b ⊎ ChannelRuleBroken spec names b) ⊎ TransitionRuleBroken spec names b) ⊎ PascalRuleBroken spec names b

-- a rule is broken; the rules from 10 on speak only of specifications whose names keep the rules 1 to 5
abbrev pub RuleBroken : Spec → Breach → Type 0
RuleBroken spec b = NameRuleBroken spec b ⊎ (KeepsNames spec × MeaningRuleBroken spec (names spec) b)

-- a tree that was read: it spells, with its spans, tokens of which none is empty, one behind another
pub record IsSpelled (spec : Spec) : Type 0 where
  pub tokens : List Placed
  pub rest : ℕ
  pub spells : Spells spec tokens
  pub follow : FollowOneAnother 0 tokens rest

-- the breach that a refusal tells; want of memory tells none
abbrev pub told : Result (Unit {0}) Refusal → Result (Option Breach) Refusal
told (Ok u) = Ok None
told (Err (Rule number span)) = Ok (Some (record { number = number; span = span }))
told (Err Memory) = Err Memory
