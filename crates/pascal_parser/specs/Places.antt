-- Places in a list of tokens, by number.
use Rattle.std.specs.Prelude.{ℕ, List}
use Rattle.estelle_tree.specs.declared.token.Placed.{Placed}
use Rattle.estelle_tree.specs.Input.{Input, input, skip}

-- the place after so many tokens
abbrev pub place : List Placed → ℕ → Input
place tokens n = skip n (input tokens 0)
