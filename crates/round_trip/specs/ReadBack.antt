-- The canonical text of a tree, lexed and spelled again.
use Rattle.std.specs.Prelude.{◌≡◌, ℕ, List}
use Rattle.estelle_tree.specs.declared.token.Placed.{Placed}
use Rattle.estelle_tree.specs.declared.tree.specification.Spec.{Spec}
use Rattle.estelle_tree.specs.Lexed.{IsLexed, IsBlankFrom}
use Rattle.estelle_tree.specs.Spells.{Spells}
use Rattle.estelle_printer.specs.Canonical.{without_places, IsCanonicalText}
use Rattle.round_trip.specs.Same.{Same}

-- A tree that is the same as the given one, spans aside, spells the tokens that the text is cut into, behind
-- which only blanks stand, and the text is its canonical text too.
pub record IsReadBack (spec : Spec) (text : List ℕ) (tokens : List Placed) (rest : ℕ) : Type 0 where
  pub read : Spec
  pub spells : Spells read tokens
  pub same : Same read spec
  pub blank : IsBlankFrom text rest
  pub canonical : IsCanonicalText read text

-- the text is the canonical text of a tree that spells some tokens
pub record IsPrinted (spec : Spec) (text : List ℕ) : Type 0 where
  pub tokens : List Placed
  pub spells : Spells spec tokens
  pub canonical : IsCanonicalText spec text

-- the canonical text of a tree is cut into tokens
abbrev pub PrintedIsLexed : Type 0
PrintedIsLexed = (spec : Spec) (text : List ℕ) → IsPrinted spec text → (tokens : List Placed) × (rest : ℕ) × IsLexed text tokens rest

-- whichever tokens it is cut into, the tree is read back from them
abbrev pub PrintedIsReadBack : Type 0
PrintedIsReadBack = (spec : Spec) (text : List ℕ) (tokens : List Placed) (rest : ℕ) → IsPrinted spec text → IsLexed text tokens rest → IsReadBack spec text tokens rest

-- and whatever tree is read from them is the same tree, spans aside
abbrev pub OnlyTheTreeIsReadBack : Type 0
OnlyTheTreeIsReadBack = (spec : Spec) (text : List ℕ) (tokens : List Placed) (rest : ℕ) → IsPrinted spec text → IsLexed text tokens rest → (read : Spec) → Spells read tokens → Same read spec

-- trees that are the same, spans aside, spell the same tokens, places aside
abbrev pub SameTreesSpellTheSame : Type 0
SameTreesSpellTheSame = (s t : Spec) (ts us : List Placed) → Same s t → Spells s ts → Spells t us → without_places ts ≡ without_places us
