use Rattle.std.proofs.Common.{◌≡◌, take}
use Rattle.visit_rules.specs.Breaches.{breaches_at, noted_all}
use Rattle.visit_rules.proofs.noting.noted_each.Given as goal

abbrev pub invariant-loop-name : goal.invariant-loop-name
invariant-loop-name l = l.all ≡ noted_all l.initial.all (breaches_at l.number (take l.name-index l.names))
