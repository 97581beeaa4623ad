use Rattle.std.proofs.Common.{◌∙◌, IfOk, subst}
use Rattle.estelle_model.specs.Jobs.{Answers}
use Rattle.estelle_model.specs.Subject.{Subject}
use Rattle.compiled_program.proofs.Answering.{faithful_by}
use Rattle.compiled_program.proofs.program.CompiledProgram.fire.Goals as goal

pub returns : goal.returns
returns c = subst (λ (s : Subject). IfOk c.run_job.result (λ done. Answers s c.args.job done)) (c.program.ensures.same ∙ c.self.view_is)
    (c.run_job.ensures.answers (faithful_by c.self.inside.program.now c.program.result.now c.self.inside.numbering c.numbers.result.now c.self.inside.code c.program.ensures.same c.self.invariant.0 c.numbers.ensures c.self.invariant.1))
