use Rattle.std.proofs.Common.{◌≡◌, ◌^◌, ◌-◌, ◌*◌, min, take}
use Rattle.std.specs.Prelude.{fold}
use Rattle.flat_transitions.specs.Counts.{domain_count}
use Rattle.meaning_table.specs.Known.{meanings_of}
use Rattle.flat_transitions.proofs.counting.variants_of.Given as goal

abbrev pub invariant-loop-domain : goal.invariant-loop-domain
invariant-loop-domain l = l.count ≡ min (2 ^ 32 - 1) (fold (λ n d. n * domain_count (meanings_of l.table) d) 1 (take l.domain-index l.domains))
