use Rattle.std.proofs.Common.{◌≡◌, drop, None}
use Rattle.scope_rules.specs.Scopes as spec
use Rattle.scope_names.specs.Noted as noting
use Rattle.scope_names.proofs.judge.declare_all.Given as goal

abbrev pub invariant-loop-name : goal.invariant-loop-name
invariant-loop-name l = record {
  first : noting.twices l.first l.table (drop l.name-index l.names) l.denotes l.inside ≡ noting.twices None l.initial.table l.names l.denotes l.inside;
  table : spec.declare_all l.table (drop l.name-index l.names) l.denotes l.inside ≡ spec.declare_all l.initial.table l.names l.denotes l.inside;
}
