use Rattle.std.proofs.Common.{◌≡◌, take, map}
use Rattle.body_program_numbers.specs.Found.{headers}
use Rattle.body_program_numbers.specs.Numbering.{place_of_header}
use Rattle.body_program_numbers.proofs.lists.header_places.Given as goal

abbrev pub invariant-loop-header : goal.invariant-loop-header
invariant-loop-header l = l.places ≡ map place_of_header (headers (take l.header-index l.headers))
