use Rattle.std.proofs.Common.{◌≡◌, take, flat_map}
use Rattle.body_code.specs.Listing.{unit_lines}
use Rattle.body_code.proofs.lines.listing.Given as goal

abbrev pub invariant-loop-unit : goal.invariant-loop-unit
invariant-loop-unit l = l.out.items ≡ flat_map unit_lines (take l.unit-index l.unit-items)
