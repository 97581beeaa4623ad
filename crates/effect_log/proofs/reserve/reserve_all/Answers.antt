use Rattle.std.proofs.Common.{◌∙◌, ◌+◌, ap}
use Rattle.std.specs.Prelude.{if◌then◌else◌}
use Rattle.effect_log.proofs.Reserved.{on-ok, reserved}
use Rattle.effect_log.proofs.reserve.reserve_all.Goals as goal

pub returns-clause-room : goal.returns-clause-room
returns-clause-room c =
    let counted = c.in_ok-needs.ensures in
    on-ok c.reserve_notes.result _ _
    (reserved c.args.effects.now c.depth.result c.in_ok-drops.drops c.in_ok-needs.needs c.args.shared.now c.reserve_stores.new.shared c.reserve_notes.new.notes
    (record { outputs = counted.outputs; links = counted.links; instances = counted.instances; points = counted.points; widest = counted.widest; depths = counted.depths; removes = counted.removes })
    (c.in_ok-drops.ensures ∙ ap (λ n. if c.in_ok-needs.needs.removes then n + c.in_ok-needs.needs.outputs else 0) c.total.ensures) c.depth.ensures.bound c.reserve_stores.ensures.same c.in_ok-reserve_stores.ensures.room)
    c.reserve_notes.ensures.room
