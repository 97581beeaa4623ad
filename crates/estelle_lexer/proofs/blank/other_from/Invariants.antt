use Rattle.std.proofs.Common.{◌≡◌, ◌<◌, ◌+◌, ◌-◌, ◌^◌, length}
use Rattle.estelle_lexer.specs.Blank.{other_from}
use Rattle.estelle_lexer.proofs.blank.other_from.Given as goal

abbrev pub invariant-loop-turn : goal.invariant-loop-turn
invariant-loop-turn l = record {
  same : other_from (length l.initial.text) l.initial.at l.initial.text ≡ other_from (l.total - l._turn) l.at l.text;
  place : l.at + length l.text < 2 ^ 31;
  total : l.total ≡ length l.initial.text;
}
