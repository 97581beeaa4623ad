use Rattle.std.proofs.Common.{◌≡◌, take, map}
use Rattle.std.specs.Prelude.{flat_map}
use Rattle.situation.specs.Systems.{kept_part}
use Rattle.situation.proofs.systems.all_systems.Given as goal

abbrev pub invariant-loop-part : goal.invariant-loop-part
invariant-loop-part l = l.systems.items ≡ flat_map (kept_part l.state.program.now) (take l.part-index (map (λ r. r.now) l.part-items))
