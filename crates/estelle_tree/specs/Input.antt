-- A place in a list of tokens.
use Rattle.std.specs.Prelude.{ℕ, zero, suc, if◌then◌else◌, ◌==◌, List, [], ◌∷◌, length, Option, Some, None}
use Rattle.estelle_tree.specs.declared.span.Span.{Span}
use Rattle.estelle_tree.specs.declared.token.Token.{Token}
use Rattle.estelle_tree.specs.declared.token.Placed.{Placed}
use Rattle.estelle_tree.specs.declared.kind.Kind.{Kind}
use Rattle.estelle_tree.specs.declared.kind.Kind.TheVariants.{Nothing}
use Rattle.estelle_tree.specs.Kind.{kind_of}
use Rattle.estelle_tree.specs.Spans.{nowhere}

pub record Input : Type 0 where
  -- the tokens from here on
  pub tokens : List Placed
  -- where the token before ends
  pub end : ℕ

abbrev pub input : List Placed → ℕ → Input
input tokens end = record { tokens = tokens; end = end }

abbrev pub first_kind : List Placed → Kind
first_kind [] = Nothing
first_kind (p ∷ ps) = kind_of p.token

abbrev pub first_token : List Placed → Option Token
first_token [] = None
first_token (p ∷ ps) = Some p.token

abbrev pub first_start : ℕ → List Placed → ℕ
first_start end [] = end
first_start end (p ∷ ps) = p.span.start

abbrev pub after_first : ℕ → List Placed → Input
after_first end [] = input [] end
after_first end (p ∷ ps) = input ps p.span.end

-- the next token's kind, the token itself, where it starts, and the place after it
unfoldable pub kind : Input → Kind
kind i = first_kind i.tokens

unfoldable pub token_at : Input → Option Token
token_at i = first_token i.tokens

unfoldable pub start : Input → ℕ
start i = first_start i.end i.tokens

unfoldable pub next : Input → Input
next i = after_first i.end i.tokens

-- the place after so many tokens
abbrev pub skip : ℕ → Input → Input
skip zero i = i
skip (suc n) i = skip n (next i)

-- how many tokens come
unfoldable pub left : Input → ℕ
left i = length i.tokens

-- from the first token at one place to the last one before the other
unfoldable pub between : Input → Input → Span
between i j = record { start = start i; end = j.end }

-- the same, and 0..0 where no token stands between them
unfoldable pub over : Input → Input → Span
over i j = if left i == left j then nowhere else between i j
