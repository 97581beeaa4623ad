-- How tokens are written, and the canonical text of a list of them.
use Rattle.std.specs.Prelude.{◌≡◌, ℕ, if◌then◌else◌, ◌==◌, List, [], ◌∷◌, ◌++◌, map, codes}
use Rattle.std.specs.Fmt.{signed_decimal}
use Rattle.estelle_tree.specs.declared.token.Token.{Token}
use Rattle.estelle_tree.specs.declared.token.Token.TheVariants as token
use Rattle.estelle_tree.specs.declared.token.Symbol.{Symbol}
use Rattle.estelle_tree.specs.declared.token.Symbol.TheVariants as symbol
use Rattle.estelle_tree.specs.declared.token.Placed.{Placed}
use Rattle.estelle_tree.specs.declared.tree.specification.Spec.{Spec}
use Rattle.estelle_tree.specs.Spells.{Spells}

-- how a special symbol is written
abbrev pub symbol_text : Symbol → List ℕ
symbol_text symbol.Plus = codes "+"
symbol_text symbol.Minus = codes "-"
symbol_text symbol.Star = codes "*"
symbol_text symbol.Equal = codes "="
symbol_text symbol.NotEqual = codes "<>"
symbol_text symbol.Less = codes "<"
symbol_text symbol.AtMost = codes "<="
symbol_text symbol.Greater = codes ">"
symbol_text symbol.AtLeast = codes ">="
symbol_text symbol.OpenParenthesis = codes "("
symbol_text symbol.CloseParenthesis = codes ")"
symbol_text symbol.OpenBracket = codes "["
symbol_text symbol.CloseBracket = codes "]"
symbol_text symbol.Dot = codes "."
symbol_text symbol.Dots = codes ".."
symbol_text symbol.Comma = codes ","
symbol_text symbol.Semicolon = codes ";"
symbol_text symbol.Colon = codes ":"
symbol_text symbol.Becomes = codes ":="

-- a character between apostrophes; an apostrophe itself is written twice there
abbrev pub char_text : ℕ → List ℕ
char_text c = if c == 39 then codes "''''" else 39 ∷ c ∷ 39 ∷ []

-- how a token is written: a word as it is, a number in decimal
abbrev pub written : Token → List ℕ
written (token.Word w) = w
written (token.Number n) = signed_decimal n
written (token.Char c) = char_text c
written (token.Symbol s) = symbol_text s

abbrev pub line_feed : ℕ
line_feed = 10

abbrev pub space : ℕ
space = 32

-- what stands between a token and the next one: a line feed after each `;`, and else a space
abbrev pub gap_after : Token → ℕ
gap_after (token.Symbol symbol.Semicolon) = line_feed
gap_after _ = space

-- the canonical text: the tokens with these between them, and a line feed after the last one
abbrev pub canonical : List Token → List ℕ
canonical [] = []
canonical (t ∷ []) = written t ++ line_feed ∷ []
canonical (t ∷ u ∷ ts) = written t ++ gap_after t ∷ canonical (u ∷ ts)

-- tokens without their places
abbrev pub without_places : List Placed → List Token
without_places = map (λ p. p.token)

-- the text is the canonical text of the tokens that the tree spells
abbrev pub IsCanonicalText : Spec → List ℕ → Type 0
IsCanonicalText spec text = (tokens : List Placed) → Spells spec tokens → text ≡ canonical (without_places tokens)
