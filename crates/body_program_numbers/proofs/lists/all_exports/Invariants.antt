use Rattle.std.proofs.Common.{◌≡◌, take, map}
use Rattle.body_program_numbers.specs.Found.{headers}
use Rattle.body_program_numbers.specs.Numbering.{exports_in}
use Rattle.body_program_numbers.proofs.lists.all_exports.Given as goal

abbrev pub invariant-loop-header : goal.invariant-loop-header
invariant-loop-header l = l.exports ≡ map (exports_in l.table.declared) (headers (take l.header-index l.headers))
