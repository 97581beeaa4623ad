-- Parsers that never go back.
use Rattle.std.specs.Prelude.{ℕ, suc, ◌<◌, Ok, Err}
use Rattle.estelle_tree.specs.Input.{Input, left}
use Rattle.token_reader.specs.declared.error.ReadError.TheVariants.{Refused, Memory}
use Rattle.token_reader.specs.Reader.{ReadResult, Parser}
use Rattle.syntax_forms.specs.Places.{Reach}

abbrev pub StopsBelow : {A : Type 0} → Input → ℕ → ReadResult A → Type 0
StopsBelow i n (Ok p) = Reach i p.1 × (left p.1 < n)
StopsBelow i n (Err (Refused l)) = l < n
StopsBelow i n (Err Memory) = ⊥

-- from the place on something is read, or a token is refused, and fewer than so many tokens are then left
pub record Below {A : Type 0} (i : Input) (n : ℕ) (o : ReadResult A) : Type 0 where
  pub fits : StopsBelow i n o

-- it stops where it begins, or further on
abbrev pub IsOnward : {A : Type 0} → Parser A → Type 0
IsOnward p = (i : Input) → Below i (suc (left i)) (p i)
