use Rattle.std.proofs.Common.{◌≡◌, drop}
use Rattle.module_table.specs.Known.{is_among}
use Rattle.module_table.proofs.declaring.is_among.Given as goal

abbrev pub invariant-loop-name : goal.invariant-loop-name
invariant-loop-name l = is_among l.names (drop l.name-index l.roles) l.role ≡ is_among l.names l.roles l.role
