use Rattle.std.proofs.Common.{◌≡◌, ◌++◌, drop, None}
use Rattle.scope_rules.specs.Scopes.{start}
use Rattle.scope_rules.specs.NameRules.{names_from}
use Rattle.scope_names.specs.Noted.{least}
use Rattle.scope_names.proofs.specification.scan.Given as goal

abbrev pub invariant-loop-event : goal.invariant-loop-event
invariant-loop-event l = record {
  first : least l.first l.table (drop l.event-index l.events) ≡ least None start l.events;
  names : l.uses ++ names_from l.table (drop l.event-index l.events) ≡ names_from start l.events;
}
