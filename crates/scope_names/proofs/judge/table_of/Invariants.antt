use Rattle.std.proofs.Common.{◌≡◌, [], drop}
use Rattle.scope_names.specs.Noted as noting
use Rattle.scope_names.proofs.judge.table_of.Given as goal

abbrev pub invariant-loop-name : goal.invariant-loop-name
invariant-loop-name l = noting.listed_scope l.names (drop l.name-index l.listed) ≡ noting.listed_scope [] l.listed
