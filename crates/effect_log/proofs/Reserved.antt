-- What was reserved is the room that the effects need.
use Rattle.std.proofs.Common.{◌≡◌, ℕ, ◌+◌, ◌≤◌, List, length, Result, Ok, Err, sym, subst, ◌∙◌, arith}
use Rattle.std.specs.Prelude.{if◌then◌else◌, All, IsSome, OnOk}
use Rattle.std.specs.List.{list_any}
use Rattle.std.specs.FinMap as map
use Rattle.estelle_tree.specs.Paths.{Path}
use Rattle.module_tree.specs.Trees.{instance_at}
use Rattle.estelle_model.specs.declared.effect.Effect.{Effect}
use Rattle.effect_log.specs.declared.shared.Shared.{Shared}
use Rattle.effect_log.specs.declared.notes.Notes.{Notes}
use Rattle.effect_log.specs.declared.needs.Needs.{Needs}
use Rattle.effect_log.specs.Rooms.{outputs_in, links_in, instances_in, points_in, drops_in, depth_of, removes, waiting_in, HasRoomForAll, SeesTheSame}
use Rattle.effect_log.specs.Reserving.{StoresHaveRoom, NotesHaveRoom}

pub on-ok : {A E : Type 0} (r : Result A E) (P Q : Type 0) → (P → Q) → OnOk r P → OnOk r Q
on-ok (Ok a) P Q f h = f h
on-ok (Err e) P Q f h = h

-- what the effects need, as it was counted
pub record Counts (effects : List Effect) (depth : ℕ) (needs : Needs) : Type 0 where
  pub outputs : needs.outputs ≡ outputs_in effects
  pub links : needs.links ≡ links_in effects
  pub instances : needs.instances ≡ instances_in effects
  pub points : needs.points ≡ points_in effects
  pub widest : depth ≤ needs.widest
  pub depths : All (λ e. depth_of e ≤ needs.widest) effects
  pub removes : needs.removes ≡ list_any removes effects

module _ (effects : List Effect) (depth most : ℕ) (needs : Needs) (old new : Shared) (notes : Notes) where
  pub reserved : Counts effects depth needs → most ≡ (if needs.removes then waiting_in old.queues.queues + needs.outputs else 0) → ((p : Path) → IsSome (instance_at old.tree p) → length p ≤ depth)
      → SeesTheSame old new → StoresHaveRoom needs new → NotesHaveRoom needs most (length effects) notes → HasRoomForAll effects new notes
  reserved c most_is bound same stores noted = record {
    room = record {
      instances = omega (arith, c.instances, stores.instances);
      links = omega (arith, c.links, stores.links);
      items = omega (arith, c.outputs, stores.items);
      points = omega (arith, c.points, stores.points);
      outs = omega (arith, c.outputs, noted.outs);
      drops = omega (arith, drops, noted.drops);
      arrivals = omega (arith, c.outputs, noted.arrivals);
      rooms = omega (arith, c.outputs, noted.rooms);
      widest = needs.widest;
      wide = noted.wide;
      within = λ p there. let shorter = bound p (subst (λ t. IsSome (map.get t p)) same.instances there) in omega (arith, shorter, c.widest);
      made_within = c.depths;
      dropped = omega (arith, drops, noted.dropped);
      new_points = omega (arith, c.points, noted.new_points);
      none_dropped = noted.none_dropped;
      no_points = noted.no_points;
    };
    log = noted.log;
    no_log = noted.no_log;
  }
    where
      drops : drops_in effects (waiting_in new.queues.queues) ≡ most
      drops = (λ i. if sym c.removes i then waiting_in (same.queues i) + sym c.outputs i else 0) ∙ sym most_is
