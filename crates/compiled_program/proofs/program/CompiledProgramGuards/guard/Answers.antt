use Rattle.std.proofs.Common.{◌∙◌, IfOk, subst}
use Rattle.std.specs.Option.{option_copied}
use Rattle.estelle_model.specs.Asked.{IsGuard}
use Rattle.estelle_model.specs.Subject.{Subject}
use Rattle.compiled_program.proofs.Answering.{faithful_by}
use Rattle.compiled_program.proofs.program.CompiledProgramGuards.guard.Goals as goal

pub returns : goal.returns
returns c = subst (λ (s : Subject). IfOk c.run_guard.result (λ answer. IsGuard s c.args.path.now c.args.view.now c.args.trans (option_copied c.args.head) c.args.timed c.args.budget answer)) (c.program.ensures.same ∙ c.self.view_is)
    (c.run_guard.ensures.answers (faithful_by c.self.inside.program.now c.program.result.now c.self.inside.numbering c.numbers.result.now c.self.inside.code c.program.ensures.same c.self.invariant.0 c.numbers.ensures c.self.invariant.1))
