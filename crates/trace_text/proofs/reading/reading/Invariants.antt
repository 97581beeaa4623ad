use Rattle.std.proofs.Common.{◌-◌, length}
use Rattle.trace_text.proofs.TraceLemmas.{IsReadTo}
use Rattle.trace_text.proofs.reading.reading.Given as goal

abbrev pub invariant-lines : goal.invariant-lines
invariant-lines l = IsReadTo l.bytes l.place l.number l.stage

abbrev pub decreases-lines : goal.decreases-lines
decreases-lines l = length l.bytes - l.place
