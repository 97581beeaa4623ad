use Rattle.link_ops.proofs.Rooms.{sound-apart}
use Rattle.link_ops.proofs.points.reserve_heads.Goals as goal

pub relink-requires-clause-apart : goal.relink-requires-clause-apart
relink-requires-clause-apart c = sound-apart c.args.points.now c.requires.sound
