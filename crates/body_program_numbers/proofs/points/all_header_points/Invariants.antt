use Rattle.std.proofs.Common.{◌≡◌, take, map}
use Rattle.meaning_table.specs.Known.{meanings_of}
use Rattle.body_program_numbers.specs.Numbering.{header_points}
use Rattle.body_program_numbers.specs.Found.{headers}
use Rattle.body_program_numbers.proofs.points.all_header_points.Given as goal

abbrev pub invariant-loop-header : goal.invariant-loop-header
invariant-loop-header l = l.points ≡ map (header_points (meanings_of l.table) l.channels) (headers (take l.header-index l.headers))
