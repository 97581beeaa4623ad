-- What `parse` answers.
use Rattle.std.specs.Prelude.{◌≡◌, ◌<◌, ◌≤◌, ℕ, List, All, drop, length, Result, Ok, Err}
use Rattle.estelle_tree.specs.declared.token.Placed.{Placed}
use Rattle.estelle_tree.specs.declared.tree.specification.Spec.{Spec}
use Rattle.estelle_tree.specs.Input.{first_start}
use Rattle.estelle_tree.specs.Spells.{IsToken}
use Rattle.estelle_tree.specs.BeginsSpecification.{Begins}
use Rattle.estelle_parser.specs.declared.error.SyntaxError.{SyntaxError}
use Rattle.estelle_parser.specs.declared.error.SyntaxError.TheVariants.{At, Memory}

-- each has the form of a token
abbrev pub AreTokens : List Placed → Type 0
AreTokens tokens = All (λ (p : Placed). IsToken p.token) tokens

-- this tree, or want of memory
abbrev pub Gives : Spec → Result Spec SyntaxError → Type 0
Gives spec (Ok found) = found ≡ spec
Gives spec (Err Memory) = Unit {0}
Gives spec (Err (At place)) = ⊥

-- The first n tokens begin a sentence, and so do fewer; more begin none. So the token behind them is the first that is refused;
-- where n is the number of all, there is no such token.
pub record IsFirstRefused (tokens : List Placed) (n : ℕ) : Type 0 where
  pub inside : n ≤ length tokens
  pub before : (m : ℕ) → m ≤ n → Begins tokens m
  pub behind : (m : ℕ) → n < m → m ≤ length tokens → Begins tokens m → ⊥

-- the place is where that token starts; where there is none, it is the end of what was cut into tokens
abbrev pub IsRefusedAt : List Placed → ℕ → SyntaxError → Type 0
IsRefusedAt tokens rest Memory = Unit {0}
IsRefusedAt tokens rest (At place) = (n : ℕ) × (place ≡ first_start rest (drop n tokens)) × IsFirstRefused tokens n
