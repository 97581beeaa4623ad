use Rattle.std.proofs.Common.{◌≡◌, ◌++◌, map, drop}
use Rattle.std.specs.List.{flat_map}
use Rattle.type_rules.specs.StatementSites as spec
use Rattle.pascal_check_sites.proofs.statements.+statements.Given as goal

-- what is left gives what all gave
abbrev pub invariant-stmts-loop-inner : goal.invariant-stmts-loop-inner
invariant-stmts-loop-inner l = l.out ++ flat_map (spec.stmt l.table) (drop l.inner-index l.inner-items) ≡ l.initial.out ++ flat_map (spec.stmt l.table) l.inner-items

-- so is it with cases, behind labels with these values
abbrev pub invariant-alternatives-loop-case : goal.invariant-alternatives-loop-case
invariant-alternatives-loop-case l = l.out ++ spec.alternatives l.table l.selector l.values (map (spec.case_ l.table) (drop l.case-index l.cases)) ≡ l.initial.out ++ spec.alternatives l.table l.selector l.initial.values (map (spec.case_ l.table) l.cases)
