-- Where a parser stops: no piece that begins the form is longer than what it takes, and where it refuses, what
-- it has taken is such a piece.
use Rattle.std.specs.Prelude.{◌≡◌, ℕ, suc, ◌≤◌, Ok, Err}
use Rattle.estelle_tree.specs.Input.{Input, left}
use Rattle.estelle_tree.specs.Beginning.{Beginning}
use Rattle.token_reader.specs.declared.error.ReadError.TheVariants.{Refused, Memory}
use Rattle.token_reader.specs.Reader.{ReadResult}
use Rattle.syntax_forms.specs.Places.{Reach}
use Rattle.syntax_forms.specs.Onward.{Below}

-- how many tokens are left where it stops
abbrev pub stop : {A : Type 0} → ReadResult A → ℕ
stop (Ok p) = left p.1
stop (Err (Refused l)) = l
stop (Err Memory) = 0

-- a piece that begins the form, with so many tokens behind it
pub record Begun (B : Beginning) (i : Input) (l : ℕ) : Type 0 where
  pub at : Input
  pub reach : Reach i at
  pub begins : B i at
  pub count : left at ≡ l

-- of what a parser answers at a place
pub record Placed {A : Type 0} (B : Beginning) (i : Input) (o : ReadResult A) : Type 0 where
  -- it stops there or further on
  pub on : Below i (suc (left i)) o
  pub longest : (m : Input) → B i m → stop o ≤ left m
  pub begun : (l : ℕ) → o ≡ Err (Refused l) → Begun B i l
