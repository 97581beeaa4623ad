use Rattle.std.proofs.Common.{◌≡◌, take}
use Rattle.std.specs.List.{flat_map}
use Rattle.meaning_table.specs.Known.{meanings_of}
use Rattle.body_program.specs.Own.{headers_in}
use Rattle.body_program.proofs.own.module_headers.Given as goal

abbrev pub invariant-loop-decl : goal.invariant-loop-decl
invariant-loop-decl l = l.headers ≡ flat_map (headers_in (meanings_of l.table)) (take l.decl-index l.decls)
