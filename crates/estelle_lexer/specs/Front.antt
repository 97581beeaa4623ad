-- What stands at the front of a text, by tests from left to right.
use Rattle.std.specs.Prelude.{ℕ, ◌+◌, ◌-◌, ◌*◌, min, Bool, true, false, ◌&&◌, if◌then◌else◌, ◌==◌, nat_lt, nat_le, List, [], ◌∷◌, Option, Some, None, pos}
use Rattle.std.specs.Char.{is_ascii_digit, is_ascii_alphabetic}
use denote.Bor.{Bor}
use Rattle.estelle_tree.specs.declared.token.Symbol.{Symbol}
use Rattle.estelle_tree.specs.declared.token.Symbol.TheVariants as symbols
use Rattle.estelle_tree.specs.Lexed.{is_blank, is_word_byte, first_is, number_limit}
use Rattle.estelle_lexer.specs.declared.front.Piece.{Piece}
use Rattle.estelle_lexer.specs.declared.front.Piece.TheVariants as piece

-- what stands at the front, and the text after it
abbrev pub Cut : Type 0
Cut = Option (Piece × List ℕ)

-- an answer of the code, with the bytes in place of where they lie
abbrev pub now_of : Option (Bor (List ℕ)) → Option (List ℕ)
now_of None = None
now_of (Some r) = Some r.now

abbrev pub seen : Option (Piece × Bor (List ℕ)) → Cut
seen None = None
seen (Some x) = Some (x.0, x.1.now)

abbrev pub tail : List ℕ → List ℕ
tail [] = []
tail (b ∷ text) = text

-- this byte stands first
abbrev pub next_is : ℕ → List ℕ → Bool
next_is b = first_is (λ c. c == b)

-- the text after the bytes at its front that pass the test
abbrev pub past : (ℕ → Bool) → List ℕ → List ℕ
past p [] = []
past p (b ∷ text) = if p b then past p text else b ∷ text

-- the value of the digits at the front, going on from n, and no more than the limit
abbrev pub capped : ℕ → List ℕ → ℕ
capped n [] = n
capped n (b ∷ text) = if is_ascii_digit b then capped (min (10 * n + (b - 48)) number_limit) text else n

-- the text after the first `}` or `*)`
abbrev pub after_comment : List ℕ → Option (List ℕ)
after_comment [] = None
after_comment (b ∷ text) = if b == 125 then Some text else (if b == 42 && next_is 41 text then Some (tail text) else after_comment text)

-- the symbol that begins with this byte, and whether it takes the next one too
abbrev pub symbol : ℕ → List ℕ → Option (Symbol × Bool)
symbol b rest =
    if b == 43 then Some (symbols.Plus, false)
    else (if b == 45 then Some (symbols.Minus, false)
    else (if b == 42 then Some (symbols.Star, false)
    else (if b == 61 then Some (symbols.Equal, false)
    else (if b == 60 then (if next_is 62 rest then Some (symbols.NotEqual, true) else (if next_is 61 rest then Some (symbols.AtMost, true) else Some (symbols.Less, false)))
    else (if b == 62 then (if next_is 61 rest then Some (symbols.AtLeast, true) else Some (symbols.Greater, false))
    else (if b == 40 then (if next_is 46 rest then Some (symbols.OpenBracket, true) else Some (symbols.OpenParenthesis, false))
    else (if b == 41 then Some (symbols.CloseParenthesis, false)
    else (if b == 91 then Some (symbols.OpenBracket, false)
    else (if b == 93 then Some (symbols.CloseBracket, false)
    else (if b == 46 then (if next_is 46 rest then Some (symbols.Dots, true) else (if next_is 41 rest then Some (symbols.CloseBracket, true) else Some (symbols.Dot, false)))
    else (if b == 44 then Some (symbols.Comma, false)
    else (if b == 59 then Some (symbols.Semicolon, false)
    else (if b == 58 then (if next_is 61 rest then Some (symbols.Becomes, true) else Some (symbols.Colon, false)) else None)))))))))))))

abbrev pub cut_comment : Option (List ℕ) → Cut
cut_comment None = None
cut_comment (Some after) = Some (piece.Separator, after)

abbrev pub cut_number : List ℕ → Cut
cut_number text = if nat_lt (capped 0 text) number_limit then Some (piece.Number (pos (capped 0 text)), past is_ascii_digit text) else None

-- after the quote
abbrev pub cut_char : List ℕ → Cut
cut_char (c ∷ d ∷ text) =
    if c == 39 then (if d == 39 && next_is 39 text then Some (piece.Char 39, tail text) else None)
    else (if d == 39 && nat_le 32 c && nat_le c 126 then Some (piece.Char c, text) else None)
cut_char _ = None

abbrev pub symbol_then : List ℕ → Option (Symbol × Bool) → Cut
symbol_then rest None = None
symbol_then rest (Some x) = Some (piece.Symbol x.0, if x.1 then tail rest else rest)

abbrev pub cut_symbol : ℕ → List ℕ → Cut
cut_symbol b rest = symbol_then rest (symbol b rest)

unfoldable pub cut : List ℕ → Cut
cut [] = None
cut (b ∷ rest) =
    if is_blank b then Some (piece.Separator, rest)
    else (if is_ascii_alphabetic b then Some (piece.Word, past is_word_byte (b ∷ rest))
    else (if is_ascii_digit b then cut_number (b ∷ rest)
    else (if b == 123 then cut_comment (after_comment rest)
    else (if b == 40 && next_is 42 rest then cut_comment (after_comment (tail rest))
    else (if b == 39 then cut_char rest
    else cut_symbol b rest)))))
