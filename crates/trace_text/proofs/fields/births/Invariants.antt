use Rattle.std.proofs.Common.{◌-◌, length}
use Rattle.trace_text.proofs.PathLemmas.{BirthsRead}
use Rattle.trace_text.proofs.fields.births.Given as goal

abbrev pub invariant-births : goal.invariant-births
invariant-births l = BirthsRead l.bytes l.at l.numbers.items l.place

abbrev pub decreases-births : goal.decreases-births
decreases-births l = length l.bytes - l.place
