use Rattle.std.proofs.Common.{◌≡◌, ◌∙◌, ◌++◌, List, map, sym, ap, subst}
use Rattle.body_code.specs.declared.unit.Local.{Local}
use Rattle.estelle_model.specs.Types.{shape_of}
use Rattle.estelle_model.specs.declared.denoter.Denoter.{Denoter}
use Rattle.estelle_model.specs.declared.meaning.Passing.{Passing}
use Rattle.estelle_tree.specs.declared.tree.statement.Stmts.{Stmts}
use Rattle.body_compiler_pieces.specs.UnitCode.{variable, AreParameters}
use Rattle.body_compiler_emission.specs.Drafts.{Drafted, grown, with_locals}
use Rattle.body_compiler_emission.specs.Scopes.{Scoped}
use Rattle.body_compiler_emission.specs.EmittedStatements.{stmts, result_code}
use Rattle.body_compiler_emission.proofs.UnitSteps.{routine_made}
use Rattle.body_compiler_emission.proofs.units.routine_unit.Goals as goal

pub returns-clause-unit : goal.returns-clause-unit
returns-clause-unit c =
    let n = c.args.table.now in
    let s = c.args.numbering.now in
    let r = c.args.routine.now in
    let at : List Passing → Scoped = λ ps. record { named = n; subject = s; body = c.args.body; parameters = ps; own = c.in_ok-own.own } in
    let scope_is : c.in_ok-scope.scope ≡ at r.parameters = c.in_ok-scope.ensures ∙ ap at c.items-3.ensures in
    routine_made n s c.args.body c.in_ok-own.own r c.in_ok-locals.locals c.push_variables.new.locals c.push_result.new.locals c.stmts.new.unit c.load_result.new.unit c.in_ok-done.done
    (subst (λ ps. AreParameters ps c.in_ok-locals.locals) c.items.ensures c.in_ok-locals.ensures)
    (c.in_ok-push_variables.ensures ∙ ap (λ (ts : List Denoter). c.in_ok-locals.locals ++ map variable (map shape_of ts)) c.items-2.ensures)
    c.in_ok-push_result.ensures
    c.in_ok-own.ensures
    (c.in_ok-stmts.ensures ∙ (λ i. grown (stmts (scope_is i) (c.get.ensures i)) (c.new-unit.ensures i)))
    (c.in_ok-load_result.ensures ∙ (λ i. grown (result_code (scope_is i) r) c.stmts.new.unit))
    c.in_ok-done.ensures.made.0 c.in_ok-done.ensures.made.1 c.in_ok-done.ensures.made.2
