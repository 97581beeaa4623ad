use Rattle.compiled_program.proofs.Answering.{faithful_still, kinds_still}
use Rattle.compiled_program.proofs.program.CompiledProgram.code.Goals as goal

pub returns-clause-faithful : goal.returns-clause-faithful
returns-clause-faithful c = faithful_still c.self.inside.program.now c.args.self.now c.self.inside.code c.self.view_is c.self.invariant.1

pub returns-clause-kinds : goal.returns-clause-kinds
returns-clause-kinds c = kinds_still c.self.inside.program.now c.args.self.now c.self.inside.code c.self.view_is c.self.invariant.2
