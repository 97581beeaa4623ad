use Rattle.std.proofs.Common.{◌≡◌, ◌++◌, take}
use Rattle.std.specs.List.{flat_map}
use Rattle.transition_expand.specs.Domains.{any_domains}
use Rattle.transition_expand.proofs.domains.put_each.Given as goal

abbrev pub invariant-loop-any : goal.invariant-loop-any
invariant-loop-any l = l.domains ≡ l.initial.domains ++ flat_map (any_domains l.types) (take l.any-index l.anys)
