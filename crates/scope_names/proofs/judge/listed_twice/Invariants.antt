use Rattle.std.proofs.Common.{◌≡◌, drop, None}
use Rattle.scope_names.specs.Noted as noting
use Rattle.scope_names.proofs.judge.listed_twice.Given as goal

abbrev pub invariant-loop-name : goal.invariant-loop-name
invariant-loop-name l = noting.listed_twice l.first l.table l.parameters (drop l.name-index l.listed) ≡ noting.listed_twice None l.table l.parameters l.listed
