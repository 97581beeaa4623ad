use Rattle.std.proofs.Common.{◌+◌, ◌*◌, ◌-◌, length}
use Rattle.pascal_values.specs.Texts.{text, HasForm}
use Rattle.pascal_values.proofs.ListingLemmas.{IsRead}
use Rattle.pascal_values.proofs.nesting.+read.Given as goal

abbrev pub decreases-read_at : goal.decreases-read_at
decreases-read_at l = 4 * l.depth + 3

abbrev pub decreases-read_array : goal.decreases-read_array
decreases-read_array l = 4 * l.depth + 2

abbrev pub decreases-read_fields : goal.decreases-read_fields
decreases-read_fields l = 4 * l.depth + 2

abbrev pub decreases-read_parts : goal.decreases-read_parts
decreases-read_parts l = 4 * l.depth + 5

abbrev pub decreases-read_part : goal.decreases-read_part
decreases-read_part l = 4 * l.depth + 4

abbrev pub invariant-read_parts-items : goal.invariant-read_parts-items
invariant-read_parts-items l = IsRead text (HasForm l.depth) l.close l.bytes l.at l.parts l.place

abbrev pub decreases-read_parts-items : goal.decreases-read_parts-items
decreases-read_parts-items l = length l.bytes - l.place
