-- The tokens of the ring's text.
use Rattle.std.proofs.Common.{ℕ, ◌+◌, ◌-◌, List, [], ◌∷◌, ◌++◌}
use Rattle.std.specs.Prelude.{codes}
use lib.IntN.{pos}
use Rattle.estelle_tree.specs.declared.token.Token.{Token}
use Rattle.estelle_tree.specs.declared.token.Token.TheVariants as token
use Rattle.estelle_tree.specs.declared.kind.Kind.TheVariants as k
use Rattle.estelle_printer.specs.Forms.{Tokens}
use Rattle.estelle_printer.specs.Terminals.{terminal}
use Rattle.spec_maker.specs.Ring.{each, station}

abbrev pub word : List ℕ → Token
word = token.Word

abbrev pub number : ℕ → Token
number n = token.Number (pos n)

abbrev pub opens : Token
opens = terminal k.OpenParenthesis

abbrev pub closes : Token
closes = terminal k.CloseParenthesis

abbrev pub comma : Token
comma = terminal k.Comma

abbrev pub colon : Token
colon = terminal k.Colon

abbrev pub semicolon : Token
semicolon = terminal k.Semicolon

abbrev pub dot : Token
dot = terminal k.Dot

abbrev pub integer : Token
integer = word (codes "integer")

abbrev pub heading : Tokens
heading = terminal k.Specification ∷ word (codes "ring") ∷ semicolon ∷ terminal k.Default ∷ terminal k.Individual ∷ terminal k.Queue ∷ semicolon ∷ []

abbrev pub channel_tokens : Tokens
channel_tokens =
    terminal k.Channel ∷ word (codes "link") ∷ opens ∷ word (codes "giver") ∷ comma ∷ word (codes "taker") ∷ closes ∷ semicolon
    ∷ terminal k.By ∷ word (codes "giver") ∷ colon ∷ word (codes "token") ∷ opens ∷ word (codes "hops") ∷ colon ∷ integer ∷ closes ∷ semicolon ∷ []

abbrev pub header_tokens : Tokens
header_tokens =
    terminal k.Module ∷ word (codes "station") ∷ terminal k.Systemprocess ∷ opens ∷ word (codes "mark") ∷ colon ∷ integer ∷ closes ∷ semicolon
    ∷ terminal k.Ip ∷ word (codes "left") ∷ colon ∷ word (codes "link") ∷ opens ∷ word (codes "taker") ∷ closes ∷ semicolon
    ∷ word (codes "right") ∷ colon ∷ word (codes "link") ∷ opens ∷ word (codes "giver") ∷ closes ∷ semicolon
    ∷ terminal k.End ∷ semicolon ∷ []

-- `output right.token`
abbrev pub output_tokens : Tokens
output_tokens = terminal k.Output ∷ word (codes "right") ∷ dot ∷ word (codes "token") ∷ []

-- from fresh to here begin output right.token(0) end;
abbrev pub first_tokens : Tokens
first_tokens = terminal k.From ∷ word (codes "fresh") ∷ terminal k.To ∷ word (codes "here") ∷ terminal k.Begin ∷ output_tokens ++ opens ∷ number 0 ∷ closes ∷ terminal k.End ∷ semicolon ∷ []

-- from here to here when left.token begin sum := hops; output right.token(hops + 1) end;
abbrev pub second_tokens : Tokens
second_tokens =
    terminal k.From ∷ word (codes "here") ∷ terminal k.To ∷ word (codes "here") ∷ terminal k.When ∷ word (codes "left") ∷ dot ∷ word (codes "token")
    ∷ terminal k.Begin ∷ word (codes "sum") ∷ terminal k.Becomes ∷ word (codes "hops") ∷ semicolon
    ∷ output_tokens ++ opens ∷ word (codes "hops") ∷ terminal k.Plus ∷ number 1 ∷ closes ∷ terminal k.End ∷ semicolon ∷ []

abbrev pub body_tokens : Tokens
body_tokens =
    terminal k.Body ∷ word (codes "go") ∷ terminal k.For ∷ word (codes "station") ∷ semicolon
    ∷ terminal k.Var ∷ word (codes "sum") ∷ colon ∷ integer ∷ semicolon
    ∷ terminal k.State ∷ word (codes "fresh") ∷ comma ∷ word (codes "here") ∷ semicolon
    ∷ terminal k.Initialize ∷ terminal k.To ∷ word (codes "fresh") ∷ terminal k.Begin ∷ word (codes "sum") ∷ terminal k.Becomes ∷ word (codes "mark") ∷ terminal k.End ∷ semicolon
    ∷ terminal k.Trans ∷ first_tokens ++ (second_tokens ++ terminal k.End ∷ semicolon ∷ [])

abbrev pub common_tokens : Tokens
common_tokens = heading ++ (channel_tokens ++ (header_tokens ++ body_tokens))

-- a module variable and a comma
abbrev pub variable_tokens : ℕ → Tokens
variable_tokens i = word (station i) ∷ comma ∷ []

abbrev pub start_tokens : ℕ → Tokens
start_tokens i = terminal k.Init ∷ word (station i) ∷ terminal k.With ∷ word (codes "go") ∷ opens ∷ number i ∷ closes ∷ semicolon ∷ []

abbrev pub link_tokens : ℕ → ℕ → Tokens
link_tokens i j = terminal k.Connect ∷ word (station i) ∷ dot ∷ word (codes "right") ∷ terminal k.To ∷ word (station j) ∷ dot ∷ word (codes "left") ∷ []

-- a station's link to the next one and a semicolon
abbrev pub next_tokens : ℕ → Tokens
next_tokens i = link_tokens i (i + 1) ++ semicolon ∷ []

-- behind the module variables with their commas, up to the statements: the last of the variables is n's
abbrev pub middle_tokens : ℕ → Tokens
middle_tokens n = word (station n) ∷ colon ∷ word (codes "station") ∷ semicolon ∷ terminal k.Initialize ∷ terminal k.Begin ∷ []

-- from the last statement on
abbrev pub last_tokens : ℕ → Tokens
last_tokens n = link_tokens n 1 ++ terminal k.End ∷ semicolon ∷ terminal k.End ∷ []

-- what has so many parts that depend on how many stations there are
abbrev pub joined_parts : Tokens → Tokens → Tokens → Tokens → Tokens → Tokens → Tokens
joined_parts a b c d e f = a ++ (terminal k.Modvar ∷ (b ++ (c ++ (d ++ (e ++ f)))))

-- these tokens, and those behind the last `end`
abbrev pub tokens_before : ℕ → Tokens → Tokens
tokens_before n us = joined_parts common_tokens (each variable_tokens (n - 1)) (middle_tokens n) (each start_tokens n) (each next_tokens (n - 1)) (last_tokens n ++ us)

abbrev pub ring_tokens : ℕ → Tokens
ring_tokens n = tokens_before n (dot ∷ [])
