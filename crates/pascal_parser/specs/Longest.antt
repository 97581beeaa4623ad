-- The longest piece that begins a node: it is the node's, or the call refuses behind it.
use Rattle.std.specs.Prelude.{◌≡◌, ℕ, ◌≤◌, List, length}
use Rattle.estelle_tree.specs.declared.token.Placed.{Placed}
use Rattle.estelle_tree.specs.Spelling.{Spelling}
use Rattle.estelle_tree.specs.Beginning.{Beginning}
use Rattle.pascal_parser.specs.declared.error.SyntaxError.{SyntaxError}
use Rattle.pascal_parser.specs.declared.error.SyntaxError.TheVariants.{At, Memory}
use Rattle.pascal_parser.specs.Places.{place}
use Rattle.pascal_parser.specs.Answers.{IsSpelled}

-- the tokens between the two places begin a node, and no more tokens do
pub record IsLongest (B : Beginning) (tokens : List Placed) (at to : ℕ) : Type 0 where
  pub inside : (at ≤ to) × (to ≤ length tokens)
  pub begins : B (place tokens at) (place tokens to)
  pub longest : (other : ℕ) → other ≤ length tokens → B (place tokens at) (place tokens other) → other ≤ to

-- the longest piece spells this node and no other
pub record IsExact {A : Type 0} (B : Beginning) (P : Spelling A) (tokens : List Placed) (at : ℕ) (found : A × ℕ) : Type 0 where
  pub longest : IsLongest B tokens at found.1
  pub spelled : IsSpelled P tokens at found
  pub only : (x : A) → IsSpelled P tokens at (x, found.1) → x ≡ found.0

-- the longest piece spells no node, and the place is the one behind it, unless memory ran out
abbrev pub IsRefused : {A : Type 0} → Beginning → Spelling A → List Placed → ℕ → SyntaxError → Type 0
IsRefused {A} B P tokens at (At p) = IsLongest B tokens at p × ((x : A) → IsSpelled P tokens at (x, p) → ⊥)
IsRefused B P tokens at Memory = Unit {0}
