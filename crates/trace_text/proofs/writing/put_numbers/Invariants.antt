use Rattle.std.proofs.Common.{◌≡◌, ◌++◌, take}
use Rattle.estelle_model.specs.Trace as trace
use Rattle.trace_text.proofs.writing.put_numbers.Given as goal

abbrev pub invariant-loop-number : goal.invariant-loop-number
invariant-loop-number l = l.out.items ≡ l.fn.out.items ++ trace.numbers_text (take l.number-index l.numbers)
