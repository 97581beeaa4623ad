-- What the calls answer.
use Rattle.std.specs.Prelude.{◌≡◌, ℕ, ◌+◌, ◌≤◌, List, Result, Ok, Err}
use Rattle.estelle_tree.specs.declared.token.Placed.{Placed}
use Rattle.estelle_tree.specs.Input.{Input, left}
use Rattle.estelle_tree.specs.Spelling.{Spelling}
use Rattle.token_reader.specs.declared.error.ReadError.{ReadError}
use Rattle.token_reader.specs.declared.error.ReadError.TheVariants as read
use Rattle.token_reader.specs.Reader.{ReadResult}
use Rattle.pascal_parser.specs.declared.error.SyntaxError.{SyntaxError}
use Rattle.pascal_parser.specs.declared.error.SyntaxError.TheVariants.{At, Memory}
use Rattle.pascal_parser.specs.Places.{place}

-- the tokens between the two places spell the node
abbrev pub IsSpelled : {A : Type 0} → Spelling A → List Placed → ℕ → A × ℕ → Type 0
IsSpelled P tokens at found = P found.0 (place tokens at) (place tokens found.1)

-- it is this node and this place, unless memory ran out
abbrev pub IsAnswered : {A : Type 0} → A → ℕ → Result (A × ℕ) SyntaxError → Type 0
IsAnswered x to (Ok found) = (found.0 ≡ x) × (found.1 ≡ to)
IsAnswered x to (Err (At p)) = ⊥
IsAnswered x to (Err Memory) = Unit {0}

-- ---- by the parsers

-- at most so many tokens are left
abbrev pub Leaves : {A : Type 0} → ℕ → Result A ReadError → Input → Type 0
Leaves n (Ok x) j = left j ≤ n
Leaves n (Err (read.Refused l)) j = l ≤ n
Leaves n (Err read.Memory) j = Unit {0}

-- the same, with the number of tokens before the place in place of the number of those behind it
abbrev pub IsPlaced : {A : Type 0} → ℕ → Result A ReadError → Input → Result (A × ℕ) SyntaxError → Type 0
IsPlaced n (Ok x) j (Ok found) = (found.0 ≡ x) × (found.1 + left j ≡ n)
IsPlaced n (Ok x) j (Err e) = ⊥
IsPlaced n (Err (read.Refused l)) j (Err (At p)) = p + l ≡ n
IsPlaced n (Err (read.Refused l)) j (Ok found) = ⊥
IsPlaced n (Err (read.Refused l)) j (Err Memory) = ⊥
IsPlaced n (Err read.Memory) j (Err Memory) = Unit {0}
IsPlaced n (Err read.Memory) j (Err (At p)) = ⊥
IsPlaced n (Err read.Memory) j (Ok found) = ⊥

-- it answers what the parser does on a list of so many tokens, or memory fails
abbrev pub Answers : {A : Type 0} → ℕ → ReadResult A → Result (A × ℕ) SyntaxError → Type 0
Answers n o (Ok found) = (j : Input) × (o ≡ Ok (found.0, j)) × (found.1 + left j ≡ n)
Answers n o (Err (At p)) = (l : ℕ) × (o ≡ Err (read.Refused l)) × (p + l ≡ n)
Answers n o (Err Memory) = Unit {0}
