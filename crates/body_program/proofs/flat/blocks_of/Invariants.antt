use Rattle.std.proofs.Common.{◌≡◌, take, map}
use Rattle.body_program.specs.Chosen.{block_by}
use Rattle.body_program.proofs.flat.blocks_of.Given as goal

abbrev pub invariant-loop-transition : goal.invariant-loop-transition
invariant-loop-transition l = l.blocks ≡ map (block_by l.table) (take l.transition-index l.transitions)
