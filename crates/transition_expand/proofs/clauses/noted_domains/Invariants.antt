use Rattle.std.proofs.Common.{◌≡◌, take}
use Rattle.std.specs.List.{flat_map}
use Rattle.visit_rules.specs.Breaches.{noted_all}
use Rattle.transition_expand.specs.TransitionRules.{wrong_domain}
use Rattle.transition_expand.proofs.clauses.noted_domains.Given as goal

abbrev pub invariant-loop-any : goal.invariant-loop-any
invariant-loop-any l = l.all ≡ noted_all l.initial.all (flat_map (wrong_domain l.types) (take l.any-index l.anys))
