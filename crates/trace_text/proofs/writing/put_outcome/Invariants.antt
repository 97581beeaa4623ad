use Rattle.std.proofs.Common.{◌≡◌, ◌++◌, take}
use Rattle.std.specs.List.{flat_map}
use Rattle.estelle_model.specs.Trace.{out_line, drop_line}
use Rattle.trace_text.proofs.writing.put_outcome.Given as goal

abbrev pub invariant-loop-out : goal.invariant-loop-out
invariant-loop-out l = l.into.items ≡ l.initial.into.items ++ flat_map out_line (take l.out-index l.outs)

abbrev pub invariant-loop-number : goal.invariant-loop-number
invariant-loop-number l = l.into.items ≡ l.initial.into.items ++ flat_map drop_line (take l.number-index l.drops)
