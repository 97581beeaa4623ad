use Rattle.std.proofs.Common.{rules, arith}
use Rattle.estelle_tree.specs.declared.tree.statement.Stmt.{the_lemmas as lemmas}
use Rattle.pascal_check_sites.proofs.StatementLists.{on_ok, stmts_walked, case_walked, cases_more}
use Rattle.pascal_check_sites.proofs.statements.+statements.Goals as goal

pub alternatives-loop-case-preserved : goal.alternatives-loop-case-preserved
alternatives-loop-case-preserved t c =
    cases_more c.args.table.now c.args.selector c.args.cases.now c.loop-case.case-index c.case-item.result c.items.result.now c.loop-case.values c.labels.new.values c.loop-case.out c.labels.new.out c.stmt.new.out _
    c.loop-case-test.true c.case-item.is c.items.ensures c.in_ok-labels.ensures.values c.in_ok-labels.ensures.sites c.in_ok-stmt.ensures c.loop-case.invariant

pub stmt-returns-in_ok-selector-in-Case : goal.stmt-returns-in_ok-selector-in-Case
stmt-returns-in_ok-selector-in-Case t c =
    on_ok c.alternatives.result (case_walked c.args.table.now c.args.node.now c.in-Case.selector c.in-Case.cases c.items.result.now c.in-Case.semicolon c.in-Case.span c.in_ok-selector-in-Case.selector c.args.out.now c.expr.new.out c.alternatives.new.out (first_of (search (rules, lemmas), grind (arith, lemmas)))
    c.items.ensures c.in_ok-selector-in-Case.ensures.typed c.in_ok-selector-in-Case.ensures.sites) c.alternatives.ensures

pub stmts-returns : goal.stmts-returns
stmts-returns t c =
    stmts_walked c.args.table.now c.args.node.now c.items-inner-items.result.now c.loop-inner.inner-index c.args.out.now c.loop-inner.out c.items-inner-items.ensures c.loop-inner-test.false c.loop-inner.invariant
