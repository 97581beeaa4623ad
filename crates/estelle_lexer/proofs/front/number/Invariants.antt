use Rattle.std.proofs.Common.{◌≡◌, ◌≤◌, ◌^◌, length}
use Rattle.std.specs.Char.{is_ascii_digit}
use Rattle.estelle_lexer.specs.Front.{past, capped}
use Rattle.estelle_lexer.proofs.front.number.Given as goal

abbrev pub invariant-loop-text : goal.invariant-loop-text
invariant-loop-text l = record {
  small : l.n ≤ 2 ^ 63;
  value : capped l.n l.text ≡ capped 0 l.initial.text;
  after : past is_ascii_digit l.text ≡ past is_ascii_digit l.initial.text;
}

abbrev pub decreases-loop-text : goal.decreases-loop-text
decreases-loop-text l = length l.text
