-- The states of a `from` clause.
use Rattle.std.specs.Prelude.{ℕ, List, [], Option, Some, None}

-- no clause stands for every state, as no state does
abbrev pub states_of : Option (List ℕ) → List ℕ
states_of None = []
states_of (Some states) = states
