-- How a text is cut into tokens (ISO 7185, 6.1), by cases on what stands first in it, each time the longest.
-- `run` are the bytes that are taken from the front of the text, and `after` is what follows them.
use Rattle.std.specs.Prelude.{◌≡◌, ◌≢◌, ℕ, ◌+◌, ◌-◌, ◌*◌, ◌^◌, ◌<◌, ◌≤◌, Bool, true, false, ◌&&◌, ◌||◌, ◌==◌, List, [], ◌∷◌, ◌++◌, length, map, fold, drop, ℤ, pos, ◌⊎◌, codes}
use Rattle.std.specs.List.{list_all}
use Rattle.std.specs.Char.{is_ascii_digit, is_ascii_alphabetic, to_ascii_lowercase}
use Rattle.std.specs.Str.{bytes_eq}
use Rattle.estelle_tree.specs.declared.token.Placed.{Placed}
use Rattle.estelle_tree.specs.declared.token.Token.{Token}
use Rattle.estelle_tree.specs.declared.token.Token.TheVariants as token
use Rattle.estelle_tree.specs.declared.token.Symbol.{Symbol}
use Rattle.estelle_tree.specs.declared.token.Symbol.TheVariants as symbol

-- ---- separators (6.1.8)

-- space, tab, line feed and carriage return
abbrev pub is_blank : ℕ → Bool
is_blank b = b == 32 || b == 9 || b == 10 || b == 13

-- there is a first byte, and it passes the test
abbrev pub first_is : (ℕ → Bool) → List ℕ → Bool
first_is p [] = false
first_is p (b ∷ text) = p b

-- `}` or `*)` stands first in the text
abbrev pub closes_comment : List ℕ → Bool
closes_comment [] = false
closes_comment (b ∷ text) = b == 125 || (b == 42 && first_is (λ c. c == 41) text)

-- what follows the opening mark of a comment: any bytes, and then the first `}` or `*)`
pub data IsCommentBody : List ℕ → Type 0 where
  brace : IsCommentBody (codes "}")
  star : IsCommentBody (codes "*)")
  more : (b : ℕ) (body : List ℕ) → closes_comment (b ∷ body) ≡ false → IsCommentBody body → IsCommentBody (b ∷ body)

-- a blank or a comment; the opening mark of a comment is `{` or `(*`, whichever the closing one is
pub data IsSeparator : List ℕ → Type 0 where
  blank : (b : ℕ) → is_blank b ≡ true → IsSeparator (b ∷ [])
  brace : (body : List ℕ) → IsCommentBody body → IsSeparator (codes "{" ++ body)
  star : (body : List ℕ) → IsCommentBody body → IsSeparator (codes "(*" ++ body)

-- ---- tokens

-- a letter, a digit or `_`
abbrev pub is_word_byte : ℕ → Bool
is_word_byte b = is_ascii_alphabetic b || is_ascii_digit b || b == 95

-- a letter, then letters, digits and `_`, as many as stand there; capitals are read as small letters (6.1.3)
pub record IsWordToken (word run after : List ℕ) : Type 0 where
  pub letter : first_is is_ascii_alphabetic run ≡ true
  pub all : list_all is_word_byte run ≡ true
  pub longest : first_is is_word_byte after ≡ false
  pub lower : word ≡ map to_ascii_lowercase run

-- the number that decimal digits stand for
unfoldable pub decimal : List ℕ → ℕ
decimal = fold (λ n b. 10 * n + (b - 48)) 0

-- one more than the largest number, `maxint`
abbrev pub number_limit : ℕ
number_limit = 2 ^ 63

-- digits, as many as stand there (6.1.5)
pub record IsNumberToken (n : ℤ) (run after : List ℕ) : Type 0 where
  pub digit : first_is is_ascii_digit run ≡ true
  pub all : list_all is_ascii_digit run ≡ true
  pub longest : first_is is_ascii_digit after ≡ false
  pub fits : decimal run < number_limit
  pub value : n ≡ pos (decimal run)

abbrev pub apostrophe : ℕ
apostrophe = 39

-- one printable character between apostrophes; an apostrophe itself is written twice there (6.1.7)
pub data IsCharToken : ℕ → List ℕ → Type 0 where
  image : IsCharToken apostrophe (codes "''''")
  printable : (c : ℕ) → c ≢ apostrophe → 32 ≤ c → c ≤ 126 → IsCharToken c (codes "'" ++ c ∷ codes "'")

-- none of the bytes follows
abbrev pub NoneFollows : List ℕ → List ℕ → Type 0
NoneFollows [] after = Unit {0}
NoneFollows (c ∷ others) after = (first_is (λ b. b == c) after ≡ false) × NoneFollows others after

-- these bytes, where none of the others follows
abbrev pub IsLexeme : List ℕ → List ℕ → List ℕ → List ℕ → Type 0
IsLexeme bytes others run after = (run ≡ bytes) × NoneFollows others after

-- the special symbols (6.1.2, and 6.1.9 for the brackets): the longest that stands there, and `(*` is none
abbrev pub IsSymbolToken : Symbol → List ℕ → List ℕ → Type 0
IsSymbolToken symbol.Plus = IsLexeme (codes "+") []
IsSymbolToken symbol.Minus = IsLexeme (codes "-") []
IsSymbolToken symbol.Star = IsLexeme (codes "*") []
IsSymbolToken symbol.Equal = IsLexeme (codes "=") []
IsSymbolToken symbol.NotEqual = IsLexeme (codes "<>") []
IsSymbolToken symbol.Less = IsLexeme (codes "<") (codes ">=")
IsSymbolToken symbol.AtMost = IsLexeme (codes "<=") []
IsSymbolToken symbol.Greater = IsLexeme (codes ">") (codes "=")
IsSymbolToken symbol.AtLeast = IsLexeme (codes ">=") []
IsSymbolToken symbol.OpenParenthesis = IsLexeme (codes "(") (codes "*.")
IsSymbolToken symbol.CloseParenthesis = IsLexeme (codes ")") []
IsSymbolToken symbol.OpenBracket = λ run after. IsLexeme (codes "[") [] run after ⊎ IsLexeme (codes "(.") [] run after
IsSymbolToken symbol.CloseBracket = λ run after. IsLexeme (codes "]") [] run after ⊎ IsLexeme (codes ".)") [] run after
IsSymbolToken symbol.Dot = IsLexeme (codes ".") (codes ".)")
IsSymbolToken symbol.Dots = IsLexeme (codes "..") []
IsSymbolToken symbol.Comma = IsLexeme (codes ",") []
IsSymbolToken symbol.Semicolon = IsLexeme (codes ";") []
IsSymbolToken symbol.Colon = IsLexeme (codes ":") (codes "=")
IsSymbolToken symbol.Becomes = IsLexeme (codes ":=") []

-- the bytes are this token, where what is given follows them
abbrev pub IsToken : Token → List ℕ → List ℕ → Type 0
IsToken (token.Word w) = IsWordToken w
IsToken (token.Number n) = IsNumberToken n
IsToken (token.Char c) = λ run after. IsCharToken c run
IsToken (token.Symbol s) = IsSymbolToken s

-- ---- texts

abbrev pub is_end : Token → Bool
is_end (token.Word w) = bytes_eq w (codes "end")
is_end _ = false

abbrev pub is_dot : Token → Bool
is_dot (token.Symbol symbol.Dot) = true
is_dot _ = false

-- a token whose first byte has this place
abbrev pub placed : ℕ → Token → List ℕ → Placed
placed at t run = record { token = t; span = record { start = at; end = at + length run } }

-- The tokens of the text that begins at a place, and the place after them: all up to a `.` that follows the word `end`
-- as the next token, or up to the end of the text. The flag says whether the token before is `end`.
pub data Lexed : Bool → ℕ → List ℕ → List Placed → ℕ → Type 0 where
  done : (after_end : Bool) (at : ℕ) → Lexed after_end at [] [] at
  separator : (after_end : Bool) (at : ℕ) (run after : List ℕ) (tokens : List Placed) (rest : ℕ)
      → IsSeparator run → Lexed after_end (at + length run) after tokens rest
      → Lexed after_end at (run ++ after) tokens rest
  item : (after_end : Bool) (at : ℕ) (t : Token) (run after : List ℕ) (tokens : List Placed) (rest : ℕ)
      → IsToken t run after → (after_end && is_dot t) ≡ false → Lexed (is_end t) (at + length run) after tokens rest
      → Lexed after_end at (run ++ after) (placed at t run ∷ tokens) rest
  last : (after_end : Bool) (at : ℕ) (t : Token) (run after : List ℕ)
      → IsToken t run after → (after_end && is_dot t) ≡ true
      → Lexed after_end at (run ++ after) (placed at t run ∷ []) (at + length run)

-- something stands there, and neither a separator nor a token begins with it
pub record NothingBegins (text : List ℕ) : Type 0 where
  pub some : text ≢ []
  pub no_separator : (run after : List ℕ) → text ≡ run ++ after → IsSeparator run → ⊥
  pub no_token : (t : Token) (run after : List ℕ) → text ≡ run ++ after → IsToken t run after → ⊥

-- The text that begins at the first place is cut into separators and tokens as far as the second, and there nothing begins.
pub data LexicalError : Bool → ℕ → List ℕ → ℕ → Type 0 where
  here : (after_end : Bool) (at : ℕ) (text : List ℕ) → NothingBegins text → LexicalError after_end at text at
  separator : (after_end : Bool) (at : ℕ) (run after : List ℕ) (place : ℕ)
      → IsSeparator run → LexicalError after_end (at + length run) after place
      → LexicalError after_end at (run ++ after) place
  item : (after_end : Bool) (at : ℕ) (t : Token) (run after : List ℕ) (place : ℕ)
      → IsToken t run after → (after_end && is_dot t) ≡ false → LexicalError (is_end t) (at + length run) after place
      → LexicalError after_end at (run ++ after) place

-- only separators
pub data IsBlank : List ℕ → Type 0 where
  none : IsBlank []
  separator : (run after : List ℕ) → IsSeparator run → IsBlank after → IsBlank (run ++ after)

-- Of the text that begins at the first place only separators stand before the second, and there something else stands,
-- or a comment begins that is not closed.
pub data FirstOther : ℕ → List ℕ → ℕ → Type 0 where
  here : (at : ℕ) (text : List ℕ) → text ≢ [] → ((run after : List ℕ) → text ≡ run ++ after → IsSeparator run → ⊥) → FirstOther at text at
  separator : (at : ℕ) (run after : List ℕ) (place : ℕ)
      → IsSeparator run → FirstOther (at + length run) after place
      → FirstOther at (run ++ after) place

-- ---- whole inputs

-- the input is cut into these tokens; the place is the one after the `.` that follows `end`, or the input's length
abbrev pub IsLexed : List ℕ → List Placed → ℕ → Type 0
IsLexed bytes tokens rest = Lexed false 0 bytes tokens rest

-- the first byte of the input at which no token, blank or comment begins
abbrev pub IsLexicalErrorAt : List ℕ → ℕ → Type 0
IsLexicalErrorAt bytes place = LexicalError false 0 bytes place

-- only blanks and comments stand from the place on
abbrev pub IsBlankFrom : List ℕ → ℕ → Type 0
IsBlankFrom bytes at = IsBlank (drop at bytes)

-- the second place has the first byte, from the first place on, that belongs to no blank or closed comment
abbrev pub IsFirstOther : List ℕ → ℕ → ℕ → Type 0
IsFirstOther bytes at place = FirstOther at (drop at bytes) place

-- Between two places stand tokens none of which is empty, and none of which begins before the end of the one before it.
abbrev pub FollowOneAnother : ℕ → List Placed → ℕ → Type 0
FollowOneAnother from [] to = from ≤ to
FollowOneAnother from (t ∷ tokens) to = (from ≤ t.span.start) × (t.span.start < t.span.end) × FollowOneAnother t.span.end tokens to
