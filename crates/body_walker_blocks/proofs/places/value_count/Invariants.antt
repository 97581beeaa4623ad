use Rattle.std.proofs.Common.{◌≡◌, ◌+◌, ◌≤◌, drop}
use Rattle.body_walker_blocks.specs.Accesses as spec
use Rattle.body_walker_blocks.proofs.places.value_count.Given as goal

-- as many are counted as lie before the parameters that are left
abbrev pub invariant-loop-parameter : goal.invariant-loop-parameter
invariant-loop-parameter l = (l.count + spec.value_count (drop l.parameter-index l.parameters) ≡ spec.value_count l.parameters) × l.count ≤ l.parameter-index
