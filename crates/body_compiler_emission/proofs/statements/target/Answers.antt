use Rattle.std.proofs.Common.{◌∙◌, sym, ap}
use Rattle.body_compiler_emission.specs.Tails.{reached}
use Rattle.body_compiler_emission.specs.Emitted.{accessed}
use Rattle.body_compiler_emission.proofs.StatementSteps.{access_target}
use Rattle.body_compiler_emission.proofs.statements.target.Goals as goal

pub returns-in_ok-denoter-in_default : goal.returns-in_ok-denoter-in_default
returns-in_ok-denoter-in_default c =
    c.in_ok-denoter-in_default.ensures
    ∙ ap (λ ss. reached (accessed c.args.scope.now c.meaning-meaning.result.now ss) c.args.unit.now) c.items.ensures
    ∙ ap (λ o. reached o c.args.unit.now) (sym (access_target c.args.scope.now c.args.variable.now c.meaning-meaning.result.now c.meaning-meaning.ensures c.in_default.not-Called))
