use Rattle.std.proofs.Common.{◌-◌, length}
use Rattle.pascal_values.specs.Texts.{text, IsReadable}
use Rattle.trace_text.proofs.ListLemmas.{IsRead}
use Rattle.trace_text.proofs.parameters.values.Given as goal

abbrev pub invariant-values : goal.invariant-values
invariant-values l = IsRead text IsReadable 44 41 l.bytes l.at l.values l.place

abbrev pub decreases-values : goal.decreases-values
decreases-values l = length l.bytes - l.place
