use Rattle.std.proofs.Common.{take}
use Rattle.body_compiler_pieces.specs.UnitCode.{AreParameters}
use Rattle.body_compiler_emission.proofs.shapes.parameters.Given as goal

abbrev pub invariant-loop-passing : goal.invariant-loop-passing
invariant-loop-passing l = AreParameters (take l.passing-index l.passed) l.locals
