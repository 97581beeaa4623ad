use Rattle.std.proofs.Common.{◌≡◌, ◌≤◌, take}
use Rattle.std.specs.Prelude.{All}
use Rattle.std.specs.List.{list_any}
use Rattle.effect_log.specs.Rooms.{outputs_in, links_in, instances_in, points_in, depth_of, removes}
use Rattle.effect_log.proofs.needs.Needs.of.Given as goal

abbrev pub invariant-loop-effect : goal.invariant-loop-effect
invariant-loop-effect l = record {
  outputs : l.needs.outputs ≡ outputs_in (take l.effect-index l.effects);
  links : l.needs.links ≡ links_in (take l.effect-index l.effects);
  instances : l.needs.instances ≡ instances_in (take l.effect-index l.effects);
  points : l.needs.points ≡ points_in (take l.effect-index l.effects);
  widest : l.widest ≤ l.needs.widest;
  depths : All (λ e. depth_of e ≤ l.needs.widest) (take l.effect-index l.effects);
  removes : l.needs.removes ≡ list_any removes (take l.effect-index l.effects);
}
