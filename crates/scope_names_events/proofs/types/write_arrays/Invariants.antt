use Rattle.std.proofs.Common.{◌≡◌, drop}
use Rattle.scope_rules.specs.TypeEvents.{array_events}
use Rattle.scope_names_events.specs.Writing.{write}
use Rattle.scope_names_events.proofs.types.write_arrays.Given as goal

abbrev pub invariant-loop-index : goal.invariant-loop-index
invariant-loop-index l = record { same : l.components ≡ l.initial.components; done : write l.out (array_events l.at (drop l.index-index l.more) l.initial.components) ≡ write l.initial.out (array_events l.initial.at l.more l.initial.components) }
