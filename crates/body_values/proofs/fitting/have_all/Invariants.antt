use Rattle.std.proofs.Common.{◌≡◌, take, true}
use Rattle.std.specs.List.{list_all}
use Rattle.pascal_values.specs.Shapes.{has_ordinal}
use Rattle.body_values.proofs.fitting.have_all.Given as goal

abbrev pub invariant-loop-n : goal.invariant-loop-n
invariant-loop-n l = list_all (has_ordinal l.low l.high) (take l.n-index l.ordinals) ≡ true
