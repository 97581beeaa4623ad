use Rattle.std.proofs.Common.{◌≡◌, ◌∙◌, List, sym, ap, subst}
use Rattle.estelle_model.specs.declared.meaning.Passing.{Passing}
use Rattle.body_compiler_pieces.specs.UnitCode.{AreParameters}
use Rattle.body_compiler_emission.specs.Drafts.{grown, with_locals}
use Rattle.body_compiler_emission.specs.Scopes.{Scoped}
use Rattle.body_compiler_emission.specs.EmittedStatements.{lent, clause}
use Rattle.body_compiler_emission.proofs.UnitSteps.{clause_made}
use Rattle.body_compiler_emission.proofs.units.clause_unit.Goals as goal

pub returns-clause-unit : goal.returns-clause-unit
returns-clause-unit c =
    let n = c.args.table.now in
    let s = c.args.numbering.now in
    let at : List Passing → Scoped = λ ps. record { named = n; subject = s; body = c.args.body; parameters = ps; own = 0 } in
    let scope_is : c.in_ok-scope.scope ≡ at c.in_ok-passed.passed = c.in_ok-scope.ensures ∙ ap at c.as_slice-2.ensures in
    clause_made n s c.args.body c.args.received.now (lent c.args.exprs.now) c.in_ok-passed.passed c.in_ok-locals.locals c.values.new.unit c.in_ok-done.done
    c.in_ok-passed.ensures
    (subst (λ ps. AreParameters ps c.in_ok-locals.locals) c.as_slice.ensures c.in_ok-locals.ensures)
    (c.in_ok-values.ensures ∙ (λ i. grown (clause (scope_is i) (lent c.args.exprs.now)) (c.new-unit.ensures i)))
    c.in_ok-done.ensures.made.0 c.in_ok-done.ensures.made.1 c.in_ok-done.ensures.made.2
