use Rattle.situation_images.proofs.Reading.{image_is}
use Rattle.situation_images.proofs.images.Private.of.Goals as goal

pub returns : goal.returns
returns c = λ g stands tree.
    image_is c.args.program.now c.args.shared.now g c.args.path.now stands _ _
    (c.in_ok-parts.ensures c.args.program.now g stands.instances tree) c.in_ok-links.ensures
