-- The terminals of the grammar, and which one a token is.
use Rattle.std.specs.Prelude.{ℕ, Bool, true, false, if◌then◌else◌, List, [], ◌∷◌, map}
use Rattle.std.specs.Str.{bytes_eq}
use Rattle.estelle_tree.specs.declared.token.Token.{Token}
use Rattle.estelle_tree.specs.declared.token.Token.TheVariants as token
use Rattle.estelle_tree.specs.declared.token.Symbol.{Symbol}
use Rattle.estelle_tree.specs.declared.token.Symbol.TheVariants as symbol
use Rattle.estelle_tree.specs.declared.kind.Kind.{Kind}
use Rattle.estelle_tree.specs.declared.kind.Kind.TheVariants as kind
use Rattle.estelle_tree.specs.declared.kind.TheConstants.{RESERVED}

-- a special symbol is a terminal of its own
abbrev pub kind_of_symbol : Symbol → Kind
kind_of_symbol symbol.Plus = kind.Plus
kind_of_symbol symbol.Minus = kind.Minus
kind_of_symbol symbol.Star = kind.Star
kind_of_symbol symbol.Equal = kind.Equal
kind_of_symbol symbol.NotEqual = kind.NotEqual
kind_of_symbol symbol.Less = kind.Less
kind_of_symbol symbol.AtMost = kind.AtMost
kind_of_symbol symbol.Greater = kind.Greater
kind_of_symbol symbol.AtLeast = kind.AtLeast
kind_of_symbol symbol.OpenParenthesis = kind.OpenParenthesis
kind_of_symbol symbol.CloseParenthesis = kind.CloseParenthesis
kind_of_symbol symbol.OpenBracket = kind.OpenBracket
kind_of_symbol symbol.CloseBracket = kind.CloseBracket
kind_of_symbol symbol.Dot = kind.Dot
kind_of_symbol symbol.Dots = kind.Dots
kind_of_symbol symbol.Comma = kind.Comma
kind_of_symbol symbol.Semicolon = kind.Semicolon
kind_of_symbol symbol.Colon = kind.Colon
kind_of_symbol symbol.Becomes = kind.Becomes

abbrev pub lookup : List (List ℕ × Kind) → List ℕ → Kind
lookup [] word = kind.Name
lookup (k ∷ ks) word = if bytes_eq k.0 word then k.1 else lookup ks word

-- a reserved word is a terminal of its own, and any other word is a name
unfoldable pub kind_of_word : List ℕ → Kind
kind_of_word = lookup (map (λ k. (k.0.now, k.1)) RESERVED)

abbrev pub is_name : Kind → Bool
is_name kind.Name = true
is_name _ = false

-- a word that is not reserved
unfoldable pub is_identifier : List ℕ → Bool
is_identifier word = is_name (kind_of_word word)

abbrev pub kind_of : Token → Kind
kind_of (token.Word w) = kind_of_word w
kind_of (token.Number n) = kind.Number
kind_of (token.Char c) = kind.Char
kind_of (token.Symbol s) = kind_of_symbol s
