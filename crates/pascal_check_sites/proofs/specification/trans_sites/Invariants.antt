use Rattle.std.proofs.Common.{◌≡◌, ◌++◌, take}
use Rattle.std.specs.List.{flat_map}
use Rattle.type_rules.specs.SpecificationSites.{placed, in_body, trans_body}
use Rattle.pascal_check_sites.proofs.specification.trans_sites.Given as goal

abbrev pub invariant-loop-trans : goal.invariant-loop-trans
invariant-loop-trans l = l.out ≡ l.initial.out ++ flat_map (λ x. placed (in_body l.at) ((trans_body x.body).sites l.table)) (take l.trans-index l.transitions)
