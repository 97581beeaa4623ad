use Rattle.std.proofs.Common.{◌≡◌, ◌<◌, ◌+◌, length, arith, sym, ◌∙◌, ap}
use Rattle.std.proofs.lemmas.List.{length-set}
use Rattle.slab.specs.Slab.{get}
use Rattle.link_ops.specs.Points.{bucket}
use Rattle.link_ops.proofs.Chains.{chained-put, chained-absent}
use Rattle.link_ops.proofs.points.insert.Goals as goal

pub returns-clause-sound : goal.returns-clause-sound
returns-clause-sound c =
    let old = c.args.points.now in
    let new = c.insert_reserved-number.new.self in
    let put = c.insert_reserved-number.ensures in
    let size : c.len.result ≡ length old.heads.items = omega (arith, c.len.ensures, old.heads.ok.0) in
    record {
      chained = chained-put (get old.nodes) (get new) c.insert_reserved-number.result put.was_vacant put.updates.others old.heads.items _ _ (c.bucket-at.ensures.value ∙ ap (λ n. bucket n c.args.ip) size) put.updates.changed c.index-next.ensures (omega (arith, c.bucket-at.ensures.within, size)) old.steps c.requires.sound.chained (chained-absent _ _ _ c.args.ip c.requires.sound.chained c.requires.absent);
      memory = omega (arith, c.requires.sound.memory);
      steps = omega (arith, c.requires.sound.steps);
      heads = λ _. rw length-set (omega (arith, c.bucket-at.ensures.within, size));
    }
