use Rattle.std.proofs.Common.{◌≡◌, take, false}
use Rattle.std.specs.List.{list_any}
use Rattle.estelle_tree.specs.Paths.{is_inside}
use Rattle.situation.proofs.systems.lies_in.Given as goal

abbrev pub invariant-loop-path : goal.invariant-loop-path
invariant-loop-path l = list_any (is_inside l.system) (take l.path-index l.paths) ≡ false
