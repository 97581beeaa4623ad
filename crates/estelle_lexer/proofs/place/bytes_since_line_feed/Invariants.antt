use Rattle.std.proofs.Common.{◌≡◌, ◌==◌, ◌≤◌, not, take}
use Rattle.std.specs.List.{suffix_len}
use Rattle.estelle_lexer.proofs.place.bytes_since_line_feed.Given as goal

abbrev pub invariant-loop-b : goal.invariant-loop-b
invariant-loop-b l = record {
  so_far : l.count ≡ suffix_len (λ b. not (b == 10)) (take l.b-index l.text);
  within : l.count ≤ l.b-index;
}
