use Rattle.std.proofs.Common.{◌≡◌, ◌++◌, map, take}
use Rattle.transition_expand.specs.Domains.{domain_at}
use Rattle.transition_expand.proofs.domains.put_names.Given as goal

abbrev pub invariant-loop-name : goal.invariant-loop-name
invariant-loop-name l = l.domains ≡ l.initial.domains ++ map (domain_at l.domain) (take l.name-index l.names)
