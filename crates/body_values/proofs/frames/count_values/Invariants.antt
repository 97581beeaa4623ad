use Rattle.std.proofs.Common.{◌≡◌, ◌≤◌, length, take}
use Rattle.estelle_model.specs.Meant.{value_types}
use Rattle.body_values.proofs.frames.count_values.Given as goal

abbrev pub invariant-loop-parameter : goal.invariant-loop-parameter
invariant-loop-parameter l = (l.count ≡ length (value_types (take l.parameter-index l.parameters))) × (l.count ≤ l.parameter-index)
