use Rattle.std.proofs.Common.{◌≡◌, ◌+◌, drop}
use Rattle.estelle_cli.specs.Input.{behind_line}
use Rattle.estelle_cli.proofs.input.behind_line.Given as goal

-- from here on the search goes as it does from the beginning
abbrev pub invariant-loop-byte : goal.invariant-loop-byte
invariant-loop-byte l = record {
  place : l.at ≡ l.rest + l.byte-index;
  same : behind_line l.at (drop l.byte-index l.line) ≡ behind_line l.rest l.line;
}
