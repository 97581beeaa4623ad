use Rattle.std.proofs.Common.{◌-◌, length}
use Rattle.estelle_model.specs.Trace.{pair_text}
use Rattle.trace_text.specs.Forms.{IsPair}
use Rattle.trace_text.proofs.ListLemmas.{IsRead}
use Rattle.trace_text.proofs.takes.pairs.Given as goal

abbrev pub invariant-pairs : goal.invariant-pairs
invariant-pairs l = IsRead pair_text IsPair 32 10 l.bytes l.at l.pairs l.place

abbrev pub decreases-pairs : goal.decreases-pairs
decreases-pairs l = length l.bytes - l.place
