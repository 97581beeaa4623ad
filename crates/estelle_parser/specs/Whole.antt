-- A specification, read from left to right.
use Rattle.std.specs.Prelude.{ℕ, ◌==◌, ◌-◌, if◌then◌else◌, List, length, drop}
use Rattle.estelle_tree.specs.declared.kind.Kind.TheVariants as k
use Rattle.estelle_tree.specs.declared.token.Placed.{Placed}
use Rattle.estelle_tree.specs.declared.tree.specification.Spec.{Spec}
use Rattle.estelle_tree.specs.Input.{left, first_start}
use Rattle.token_reader.specs.Reader.{Parser, ◌>>=◌, ◌>>◌, pure, refuse, here, since, expect, name}
use Rattle.token_reader.specs.Lists.{optional}
use Rattle.declaration_parser.specs.Attributes.{begins_sys_attr, sys_attr, heads}
use Rattle.estelle_parser.specs.Bodies.{parts}

-- the end of the tokens
unfoldable pub finish : Parser (Unit {0})
finish = λ i. if left i == 0 then pure tt i else refuse i

-- Spec = specification NAME [SysAttr] ";" {Head} Parts end "."
unfoldable pub specification : ℕ → Parser Spec
specification room = do
  from ← here
  expect k.Specification
  n ← name
  a ← optional begins_sys_attr sys_attr
  expect k.Semicolon
  hs ← heads
  ps ← parts room
  expect k.End
  expect k.Dot
  span ← since from
  pure (record { name = n; attr = a; heads = hs; parts = ps; span = span })

-- a specification, and nothing behind it
unfoldable pub whole : ℕ → Parser Spec
whole room = do
  s ← specification room
  finish
  pure s

-- where the token starts with which so many are left; with none left, the end of the input
abbrev pub place_of : List Placed → ℕ → ℕ → ℕ
place_of tokens rest left = first_start rest (drop (length tokens - left) tokens)
