use Rattle.std.proofs.Common.{◌≡◌, ◌^◌, ◌-◌, ◌+◌, min, take}
use Rattle.std.specs.Prelude.{fold}
use Rattle.flat_transitions.specs.Counts.{count_body}
use Rattle.meaning_table.specs.Known.{meanings_of}
use Rattle.flat_transitions.proofs.counting.count.Given as goal

abbrev pub invariant-loop-trans : goal.invariant-loop-trans
invariant-loop-trans l = l.count ≡ min (2 ^ 32 - 1) (fold (λ n t. n + count_body (meanings_of l.table) t.body) 0 (take l.trans-index l.transitions))
