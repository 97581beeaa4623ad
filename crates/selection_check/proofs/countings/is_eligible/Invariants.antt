use Rattle.std.proofs.Common.{◌≡◌, drop}
use Rattle.std.specs.Prelude.{not, ◌==◌, ◌&&◌}
use Rattle.std.specs.List.{list_any}
use Rattle.selection_check.specs.Countings as spec
use Rattle.selection_check.proofs.countings.is_eligible.Given as goal

abbrev pub invariant-loop-one : goal.invariant-loop-one
invariant-loop-one l = list_any (λ c. (c.trans == l.trans) && not (spec.is_below c.priority l.transitions)) (drop l.one-index l.transitions) ≡ spec.is_eligible l.trans l.transitions
