use Rattle.link_ops.proofs.Writes.{sound-kept}
use Rattle.link_ops.proofs.points.set_link.Goals as goal

pub returns-clause-sound : goal.returns-clause-sound
returns-clause-sound c =
    let w = c.write_link.ensures in
    sound-kept c.args.points.now c.write_link.new.points c.args.number c.args.role c.args.link w.nodes w.kept w.room w.capacity c.requires.sound
