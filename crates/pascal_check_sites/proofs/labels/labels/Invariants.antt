use Rattle.std.proofs.Common.{◌≡◌, ◌++◌, drop}
use Rattle.type_rules.specs.StatementSites as spec
use Rattle.pascal_check_sites.proofs.labels.labels.Given as goal

-- what is left gives what all gave
abbrev pub invariant-loop-constant : goal.invariant-loop-constant
invariant-loop-constant l = record {
  values : spec.with_labels l.table l.values (drop l.constant-index l.constants) ≡ spec.with_labels l.table l.initial.values l.constants;
  sites : l.out ++ spec.labels l.table l.selector l.values (drop l.constant-index l.constants) ≡ l.initial.out ++ spec.labels l.table l.selector l.initial.values l.constants;
}
