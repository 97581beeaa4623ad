use Rattle.std.proofs.Common.{◌-◌, length}
use Rattle.std.specs.Fmt.{decimal}
use Rattle.pascal_values.specs.Steps.{IsOrdinal}
use Rattle.pascal_values.proofs.ListingLemmas.{IsRead}
use Rattle.pascal_values.proofs.ordinals.ordinals.Given as goal

abbrev pub invariant-loop-n : goal.invariant-loop-n
invariant-loop-n l = IsRead decimal IsOrdinal 93 l.bytes l.at l.ordinals.items l.place

abbrev pub decreases-loop-n : goal.decreases-loop-n
decreases-loop-n l = length l.bytes - l.place
