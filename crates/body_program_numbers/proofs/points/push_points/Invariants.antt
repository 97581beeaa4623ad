use Rattle.std.proofs.Common.{◌≡◌, ◌++◌, take}
use Rattle.std.specs.List.{flat_map}
use Rattle.meaning_table.specs.Known.{meanings_of}
use Rattle.body_program_numbers.specs.Numbering.{points_of}
use Rattle.body_program_numbers.proofs.points.push_points.Given as goal

abbrev pub invariant-loop-decl : goal.invariant-loop-decl
invariant-loop-decl l = l.out ≡ l.initial.out ++ flat_map (points_of (meanings_of l.table) l.channels) (take l.decl-index l.decls)
