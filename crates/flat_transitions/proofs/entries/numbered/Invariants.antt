use Rattle.std.proofs.Common.{◌≡◌, take}
use Rattle.flat_transitions.specs.FlatList.{numbered_from}
use Rattle.flat_transitions.proofs.entries.numbered.Given as goal

abbrev pub invariant-loop-number : goal.invariant-loop-number
invariant-loop-number l = l.shown ≡ numbered_from 1 (take l.number l.transitions)
