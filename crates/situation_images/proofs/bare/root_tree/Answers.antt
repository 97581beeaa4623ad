use Rattle.situation_images.proofs.Alone.{tree-in, none-there}
use Rattle.situation_images.proofs.bare.root_tree.Goals as goal

-- src/bare.rt:37:17
pub unreachable-requires : goal.unreachable-requires
unreachable-requires c = none-there c.args.program.now c.bodies.result.now c.get.result c.bodies.ensures c.get.ensures c.in-None.is

-- src/bare.rt:33:1
pub returns : goal.returns
returns c = tree-in c.args.program.now c.bodies.result.now c.get.result c.in-Some.body c.in_ok-root_part-in-Some.field-0 c.single.result c.bodies.ensures c.get.ensures c.in-Some.is c.in_ok-root_part-in-Some.ensures c.single.ensures
