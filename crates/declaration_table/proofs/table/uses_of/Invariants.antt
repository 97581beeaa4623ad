use Rattle.std.proofs.Common.{◌≡◌, [], take}
use Rattle.std.specs.Prelude.{fold}
use Rattle.type_rules.specs.Meanings.{with_use}
use Rattle.declaration_table.proofs.table.uses_of.Given as goal

abbrev pub invariant-loop-used : goal.invariant-loop-used
invariant-loop-used l = l.uses.entries ≡ fold with_use [] (take l.used-index l.names)
