use Rattle.std.proofs.Common.{◌≡◌, ◌+◌, ◌-◌, length}
use Rattle.estelle_lexer.specs.Lex.{lex, lex_from}
use Rattle.estelle_lexer.proofs.lex.lex.Given as goal

abbrev pub invariant-loop-turn : goal.invariant-loop-turn
invariant-loop-turn l = record {
  same : lex l.bytes ≡ lex_from (l.total - l._turn) l.after_end l.at l.items l.text;
  place : l.at + length l.text ≡ l.total;
  total : l.total ≡ length l.bytes;
}
