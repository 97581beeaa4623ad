use Rattle.std.proofs.Common.{◌≡◌, ◌++◌, take}
use Rattle.std.specs.List.{flat_map}
use Rattle.meaning_table.specs.Known.{meanings_of}
use Rattle.body_program.specs.Own.{headers_at}
use Rattle.body_program.proofs.own.push_headers.Given as goal

abbrev pub invariant-loop-modvar : goal.invariant-loop-modvar
invariant-loop-modvar l = l.out ≡ l.initial.out ++ flat_map (headers_at (meanings_of l.table)) (take l.modvar-index l.modvars)
