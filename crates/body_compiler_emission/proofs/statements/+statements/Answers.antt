use Rattle.std.proofs.Common.{◌≡◌, ◌∙◌, ℕ, ◌+◌, List, [], ◌∷◌, ◌++◌, length, drop, sym, ap, refl, arith}
use Rattle.pascal_values.specs.declared.fault.Fault.TheVariants as fault
use Rattle.body_code.specs.declared.instr.Instr.TheVariants as op
use Rattle.body_compiler_emission.specs.Drafts.{Drafted, with_instr, ends_closed}
use Rattle.body_compiler_emission.specs.EmittedStatements.{control_instr, tested, kept}
use Rattle.body_compiler_emission.proofs.Lists.{fold_all}
use Rattle.body_compiler_emission.proofs.CountSteps.{count_steps}
use Rattle.body_compiler_emission.proofs.StatementSteps.{stmts_value, do_stmt}
use Rattle.body_compiler_emission.proofs.CaseSteps.{run, ends, run_next, ends_next, run_all, ends_all, all_cased}
use Rattle.body_compiler_emission.proofs.statements.+statements.Goals as goal

pub stmts-returns : goal.stmts-returns
stmts-returns t c =
    let u = fold_all (do_stmt c.args.scope.now) c.args.unit.now c.items-inner-items.result.now c.loop-inner.inner-index (omega (arith, c.loop-inner-test.false)) in
    cc (u, stmts_value c.args.scope.now c.args.node.now c.args.unit.now, c.loop-inner.invariant, c.items-inner-items.ensures)

pub first_of-loop-case-preserved : goal.first_of-loop-case-preserved
first_of-loop-case-preserved t c =
    let s = c.args.scope.now in
    let k = c.args.temporary in
    let cs = c.args.cases.now in
    let i = c.loop-case.case-index in (
      ap (λ v. run s k (drop (i + 1) cs) v) c.in_ok-end.ensures.1 ∙ run_next s k cs i c.case-item.result c.loop-case.unit c.loop-case-test.true c.case-item.is ∙ c.loop-case.invariant.0,
      ap (λ es. es ++ ends s k (drop (i + 1) cs) c.case_of.new.unit) c.in_ok-push.ensures.ok
          ∙ (λ j. (c.loop-case.ends ++ c.in_ok-end.ensures.0 j ∷ []) ++ ends s k (drop (i + 1) cs) (c.in_ok-end.ensures.1 j))
          ∙ ends_next s k cs i c.case-item.result c.loop-case.unit c.loop-case.ends c.loop-case-test.true c.case-item.is
          ∙ c.loop-case.invariant.1,
    )

pub first_of-returns : goal.first_of-returns
first_of-returns t c =
    let s = c.args.scope.now in
    let k = c.args.temporary in
    let cs = c.args.cases.now in
    let unit_is = sym (run_all s k cs c.loop-case.case-index c.loop-case.unit (omega (arith, c.loop-case-test.false))) ∙ c.loop-case.invariant.0 in
    let ends_is = sym (ends_all s k cs c.loop-case.case-index c.loop-case.unit c.loop-case.ends (omega (arith, c.loop-case-test.false))) ∙ c.loop-case.invariant.1 in
    let before = c.in_ok-push-2.ensures ∙ ap (λ v. with_instr (op.Fail fault.NoCase) v) unit_is in
    c.in_ok-close_ends.ensures
    ∙ (λ j. ends_closed (ends_is j) (length (before j).instrs) (before j))
    ∙ all_cased s k cs c.args.unit.now (length (with_instr (op.Fail fault.NoCase) (run s k cs c.args.unit.now)).instrs) refl

pub count-returns : goal.count-returns
count-returns t c =
    let s = c.args.scope.now in
    let u = c.args.unit.now in
    let h = c.host_of-host.result in
    let i = c.in_ok-turn.turn in
    let j = c.in_ok-end.end in
    let first = c.in_ok-turn.ensures.1 in
    let both = c.in_ok-end.ensures.1 ∙ ap (λ v. kept s h c.in_ok-bound.bound c.args.last.now j v) first in
    let whole = count_steps s c.args.variable.now c.args.first.now c.args.direction c.args.last.now c.args.body.now u _ c.in_ok-control.control.denoter.now (control_instr c.in_ok-control.control) h c.in_ok-bound.bound c.in_ok-kind.kind i j c.in_ok-test.test
    c.meaning-meaning.ensures c.in_ok-control.ensures c.host_of-host.ensures (sym c.if-not-is_word.ensures) c.in_ok-bound.ensures c.in_ok-kind.ensures
    c.in_ok-turn.ensures.0 (c.in_ok-end.ensures.0 ∙ ap (λ (v : Drafted). length v.locals) first) (c.in_ok-test.ensures.0 ∙ ap (λ v. length (tested c.args.direction i j v).instrs) both) in
    cc (whole, c.in_ok-close_turns.ensures, c.in_ok-stmt.ensures, c.in_ok-test.ensures.1, both)
