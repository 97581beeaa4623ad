use Rattle.std.proofs.Common.{refl}
use Rattle.body_compiler.proofs.Growth.{begun}
use Rattle.body_compiler.proofs.bodies.begin_body.Goals as goal

pub returns : goal.returns
returns c = begun c.args.units.now c.push.new.self _ c.args.body c.args.name c.requires refl c.in_ok-push.ensures
