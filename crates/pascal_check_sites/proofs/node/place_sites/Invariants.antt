use Rattle.std.proofs.Common.{◌≡◌, ◌++◌, take}
use Rattle.type_rules.specs.SpecificationSites.{placed}
use Rattle.pascal_check_sites.proofs.node.place_sites.Given as goal

abbrev pub invariant-loop-site : goal.invariant-loop-site
invariant-loop-site l = l.out ≡ l.initial.out ++ placed l.place (take l.site-index l.sites)
