-- What holds of the tokens that a tree spells, and of its canonical text.
use Rattle.std.specs.Prelude.{◌≡◌, ℕ, List}
use Rattle.estelle_tree.specs.declared.token.Placed.{Placed}
use Rattle.estelle_tree.specs.declared.tree.specification.Spec.{Spec}
use Rattle.estelle_tree.specs.Lexed.{IsLexed, IsBlankFrom}
use Rattle.estelle_tree.specs.Spells.{Spells}
use Rattle.estelle_printer.specs.Canonical.{without_places, canonical}

-- a tree spells at most one list of tokens, their places aside
abbrev pub SpellsOneList : Type 0
SpellsOneList = (spec : Spec) (ts us : List Placed) → Spells spec ts → Spells spec us → without_places ts ≡ without_places us

-- a text is cut into these tokens, their places aside, and only blanks stand behind them
pub record IsReadAs (text : List ℕ) (tokens : List Placed) : Type 0 where
  pub lexed : List Placed
  pub rest : ℕ
  pub same : without_places lexed ≡ without_places tokens
  pub cut : IsLexed text lexed rest
  pub blank : IsBlankFrom text rest

-- the canonical text of the tokens that a tree spells is read as these tokens
abbrev pub CanonicalTextIsLexed : Type 0
CanonicalTextIsLexed = (spec : Spec) (tokens : List Placed) → Spells spec tokens → IsReadAs (canonical (without_places tokens)) tokens
