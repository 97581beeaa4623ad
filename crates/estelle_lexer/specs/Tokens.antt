-- What the lexer answers.
use Rattle.std.specs.Prelude.{◌≡◌, ◌<◌, ℕ, List, Result, Ok, Err}
use Rattle.estelle_tree.specs.declared.token.Placed.{Placed}
use Rattle.estelle_tree.specs.Lexed.{IsLexicalErrorAt}
use Rattle.estelle_tree.specs.Spells.{IsToken}
use Rattle.estelle_lexer.specs.declared.error.LexError.{LexError}
use Rattle.estelle_lexer.specs.declared.error.LexError.TheVariants.{At, Memory}
use Rattle.estelle_lexer.specs.declared.list.Tokens.{Tokens}

-- the place of the error is the first at which nothing begins, unless memory ran out
abbrev pub IsRefused : List ℕ → LexError → Type 0
IsRefused bytes Memory = Unit {0}
IsRefused bytes (At place) = IsLexicalErrorAt bytes place

-- the place of the error is below this one
abbrev pub IsBelow : ℕ → LexError → Type 0
IsBelow limit Memory = Unit {0}
IsBelow limit (At place) = place < limit

-- these tokens and this place, or want of memory
abbrev pub Gives : List Placed → ℕ → Result Tokens LexError → Type 0
Gives items rest (Ok found) = (found.items ≡ items) × (found.rest ≡ rest)
Gives items rest (Err Memory) = Unit {0}
Gives items rest (Err (At place)) = ⊥

-- an error at this place, or want of memory
abbrev pub Refuses : ℕ → Result Tokens LexError → Type 0
Refuses place (Ok found) = ⊥
Refuses place (Err Memory) = Unit {0}
Refuses place (Err (At at)) = at ≡ place

-- it has the form of a token
abbrev pub IsPlacedToken : Placed → Type 0
IsPlacedToken p = IsToken p.token
