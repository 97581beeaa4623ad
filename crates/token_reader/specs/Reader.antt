-- Parsers from left to right: from a place to what was read and the place after it.
use Rattle.std.specs.Prelude.{◌≡◌, ◌≢◌, ℕ, ◌==◌, Bool, if◌then◌else◌, Option, Some, Result, Ok, Err, ℤ}
use denote.Enum.Bare.{sameb}
use Rattle.estelle_tree.specs.contracts.kind.Kind.{the_type}
use Rattle.estelle_tree.specs.declared.span.Span.{Span}
use Rattle.estelle_tree.specs.declared.token.Token.{Token}
use Rattle.estelle_tree.specs.declared.token.Token.TheVariants as token
use Rattle.estelle_tree.specs.declared.kind.Kind.{Kind}
use Rattle.estelle_tree.specs.declared.kind.Kind.TheVariants as k
use Rattle.estelle_tree.specs.declared.tree.name.Name.{Name}
use Rattle.estelle_tree.specs.Input.{Input, kind, start, next, token_at, left, between}
use Rattle.estelle_tree.specs.Spans.{nowhere}
use Rattle.token_reader.specs.declared.error.ReadError.{ReadError}
use Rattle.token_reader.specs.declared.error.ReadError.TheVariants.{Refused, Memory}

abbrev pub ReadResult : Type 0 → Type 0
ReadResult A = Result (A × Input) ReadError

abbrev pub Parser : Type 0 → Type 0
Parser A = Input → ReadResult A

-- what a function that parses ensures: it answers what the parser does, or memory fails
abbrev pub Reads : {A : Type 0} → ReadResult A → Result A ReadError → Input → Type 0
Reads outcome (Ok a) new = outcome ≡ Ok (a, new)
Reads outcome (Err e) new = e ≢ Memory → outcome ≡ Err e

abbrev pub and_then : {A B : Type 0} → ReadResult A → (A → Parser B) → ReadResult B
and_then (Ok p) f = f p.0 p.1
and_then (Err e) f = Err e

infixl 10 ◌>>=◌
abbrev pub ◌>>=◌ : {A B : Type 0} → Parser A → (A → Parser B) → Parser B
p >>= f = λ i. and_then (p i) f

infixl 10 ◌>>◌
abbrev pub ◌>>◌ : {A B : Type 0} → Parser A → Parser B → Parser B
p >> q = p >>= (λ _. q)

abbrev pub pure : {A : Type 0} → A → Parser A
pure a = λ i. Ok (a, i)

-- no form goes on with the next token
unfoldable pub refusal : Input → ReadError
refusal i = Refused (left i)

abbrev pub refuse : {A : Type 0} → Parser A
refuse = λ i. Err (refusal i)

-- the next kind, the one after it, where the next token starts, and how many are left
abbrev pub peek : Parser Kind
peek = λ i. Ok (kind i, i)

abbrev pub peek_second : Parser Kind
peek_second = λ i. Ok (kind (next i), i)

abbrev pub here : Parser ℕ
here = λ i. Ok (start i, i)

abbrev pub remaining : Parser ℕ
remaining = λ i. Ok (left i, i)

-- from there to the end of the last token taken
abbrev pub span_since : ℕ → Input → Span
span_since from i = record { start = from; end = i.end }

abbrev pub since : ℕ → Parser Span
since from = λ i. Ok (span_since from i, i)

-- the same, and 0..0 where none was taken
abbrev pub span_over : ℕ → ℕ → Input → Span
span_over from before i = if before == left i then nowhere else span_since from i

abbrev pub since_over : ℕ → ℕ → Parser Span
since_over from before = λ i. Ok (span_over from before i, i)

abbrev pub take : Parser (Unit {0})
take = λ i. Ok (tt, next i)

unfoldable pub sees : Kind → Input → Bool
sees k i = sameb the_type (kind i) k

unfoldable pub after : Kind → Input → Input
after k i = if sees k i then next i else i

-- takes a token of this kind, if it comes next
abbrev pub eat : Kind → Parser Bool
eat k = λ i. Ok (sees k i, after k i)

-- takes a token of this kind, and refuses another
unfoldable pub expect : Kind → Parser (Unit {0})
expect k = λ i. if sees k i then Ok (tt, next i) else refuse i

abbrev pub number_in : Option Token → Parser ℤ
number_in (Some (token.Number n)) i = Ok (n, next i)
number_in _ i = refuse i

unfoldable pub number : Parser ℤ
number i = number_in (token_at i) i

abbrev pub char_in : Option Token → Parser ℕ
char_in (Some (token.Char c)) i = Ok (c, next i)
char_in _ i = refuse i

unfoldable pub char : Parser ℕ
char i = char_in (token_at i) i

abbrev pub name_in : Option Token → Parser Name
name_in (Some (token.Word w)) i = Ok (record { word = w; span = between i (next i) }, next i)
name_in _ i = refuse i

unfoldable pub name : Parser Name
name i = if sees k.Name i then name_in (token_at i) i else refuse i
