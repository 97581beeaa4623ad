use Rattle.std.proofs.Common.{ap, refl}
use Rattle.situation_images.proofs.Alone.{has_body, stands-bare}
use Rattle.situation_images.proofs.bare.bare_shared.Goals as goal

pub returns : goal.returns
returns c =
    let b = has_body c.args.program.now in
    stands-bare c.args.program.now b.0 b.1 (record { tree = c.in_ok-root_tree.field-0; queues = c.in_ok-root_queues.field-0; links = c.none.result; outputs = 0 })
    c.in_ok-root_tree.ensures (ap (λ l. l.links) c.none.ensures) c.in_ok-root_queues.ensures refl
