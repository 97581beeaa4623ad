use Rattle.std.proofs.Common.{◌≡◌, ◌++◌, drop, fold, take}
use Rattle.body_compiler_emission.proofs.StatementSteps.{do_stmt}
use Rattle.body_compiler_emission.proofs.CaseSteps.{run, ends}
use Rattle.body_compiler_emission.proofs.statements.+statements.Given as goal

abbrev pub invariant-stmts-loop-inner : goal.invariant-stmts-loop-inner
invariant-stmts-loop-inner l = l.unit ≡ fold (do_stmt l.scope) l.initial.unit (take l.inner-index l.inner-items)

abbrev pub invariant-first_of-loop-case : goal.invariant-first_of-loop-case
invariant-first_of-loop-case l = (run l.scope l.temporary (drop l.case-index l.cases) l.unit ≡ run l.scope l.temporary l.cases l.initial.unit) × (l.ends ++ ends l.scope l.temporary (drop l.case-index l.cases) l.unit ≡ ends l.scope l.temporary l.cases l.initial.unit)
