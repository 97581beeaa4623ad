use Rattle.std.proofs.Common.{◌≡◌, ◌^◌, ◌-◌, ◌+◌, min, take}
use Rattle.std.specs.Prelude.{fold}
use Rattle.flat_transitions.specs.Counts.{count_group}
use Rattle.meaning_table.specs.Known.{meanings_of}
use Rattle.flat_transitions.proofs.counting.+groups.Given as goal

abbrev pub invariant-groups-loop-inner : goal.invariant-groups-loop-inner
invariant-groups-loop-inner l = l.count ≡ min (2 ^ 32 - 1) (fold (λ n g. n + count_group (meanings_of l.table) g) 0 (take l.inner-index l.groups))
