-- A terminal that has but one token is spelled by that one.
use Rattle.std.proofs.Common.{◌≡◌, ℕ, Bool, true, false, if◌then◌else◌, List, [], ◌∷◌, map, refl, sym, ap, ◌∙◌, rules}
use Rattle.std.specs.List.{AllByRecursion}
use Rattle.std.specs.Str.{bytes_eq}
use Rattle.std.proofs.lemmas.Slice.Eq.{bytes_eq-Decides}
use Rattle.estelle_tree.specs.declared.token.Token.{Token}
use Rattle.estelle_tree.specs.declared.token.Token.TheVariants as token
use Rattle.estelle_tree.specs.declared.token.Symbol.{Symbol}
use Rattle.estelle_tree.specs.declared.token.Symbol.TheVariants as symbol
use Rattle.estelle_tree.specs.declared.kind.Kind.{Kind}
use Rattle.estelle_tree.specs.declared.kind.Kind.TheVariants as k
use Rattle.estelle_tree.specs.declared.kind.TheConstants.{RESERVED}
use Rattle.estelle_tree.specs.Kind.{kind_of, kind_of_word, kind_of_symbol, lookup}
use Rattle.estelle_tree.specs.Lexed.{is_dot}
use Rattle.estelle_printer.specs.Terminals.{terminal}

-- whether the terminal has but one token
abbrev pub has_one : Kind → Bool
has_one k.Name = false
has_one k.Number = false
has_one k.Char = false
has_one k.Nothing = false
has_one _ = true

-- and is not the dot
abbrev pub is_plain : Kind → Bool
is_plain k.Dot = false
is_plain k.Name = false
is_plain k.Number = false
is_plain k.Char = false
is_plain k.Nothing = false
is_plain _ = true

pub plain_one : (k : Kind) → is_plain k ≡ true → has_one k ≡ true
plain_one k.Name e = absurd (cc)
plain_one k.Number e = absurd (cc)
plain_one k.Char e = absurd (cc)
plain_one k.Nothing e = absurd (cc)
plain_one _ e = refl

pub plain_no_dot : (k : Kind) → is_plain k ≡ true → is_dot (terminal k) ≡ false
plain_no_dot k.Dot e = absurd (cc)
plain_no_dot _ e = refl

-- the table agrees with the tokens
abbrev Agrees : List ℕ × Kind → Type 0
Agrees e = terminal e.1 ≡ token.Word e.0

table_agrees : AllByRecursion Agrees (map (λ k. (k.0.now, k.1)) RESERVED)
table_agrees = search rules

found : (table : List (List ℕ × Kind)) (w : List ℕ) → AllByRecursion Agrees table → has_one (lookup table w) ≡ true → token.Word w ≡ terminal (lookup table w)
found [] w all one = absurd (cc)
found (e ∷ es) w all one = by (found es w all.1) (bytes_eq e.0 w) refl one
  where
    by : (has_one (lookup es w) ≡ true → token.Word w ≡ terminal (lookup es w)) → (b : Bool) → bytes_eq e.0 w ≡ b → has_one (if b then e.1 else lookup es w) ≡ true → token.Word w ≡ terminal (if b then e.1 else lookup es w)
    by rest true same one = ap token.Word (sym ((bytes_eq-Decides e.0 w).0 same)) ∙ sym all.0
    by rest false same one = rest one

word_terminal : (w : List ℕ) → has_one (kind_of_word w) ≡ true → token.Word w ≡ terminal (kind_of_word w)
unfolding kind_of_word
word_terminal w one = found (map (λ k. (k.0.now, k.1)) RESERVED) w table_agrees one

symbol_terminal : (s : Symbol) → token.Symbol s ≡ terminal (kind_of_symbol s)
symbol_terminal symbol.Plus = refl
symbol_terminal _ = refl

-- a token of such a terminal is its one token
pub token_terminal : (t : Token) → has_one (kind_of t) ≡ true → t ≡ terminal (kind_of t)
token_terminal (token.Word w) one = word_terminal w one
token_terminal (token.Number n) one = absurd (cc)
token_terminal (token.Char c) one = absurd (cc)
token_terminal (token.Symbol s) one = symbol_terminal s
