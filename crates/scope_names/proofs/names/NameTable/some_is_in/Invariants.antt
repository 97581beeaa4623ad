use Rattle.std.proofs.Common.{◌≡◌, drop}
use Rattle.scope_names.specs.Common.{shares}
use Rattle.scope_names.proofs.names.NameTable.some_is_in.Given as goal

abbrev pub invariant-loop-i : goal.invariant-loop-i
invariant-loop-i l = shares (drop l.i l.self) l.others l.without ≡ shares l.self l.others l.without
