use Rattle.std.proofs.Common.{◌≡◌, take}
use Rattle.std.specs.List.{flat_map}
use Rattle.scope_names_events.specs.Writing.{write}
use Rattle.scope_rules.specs.TypeEvents.{typed_names}
use Rattle.scope_names_events.proofs.types.write_all_typed.Given as goal

abbrev pub invariant-loop-names : goal.invariant-loop-names
invariant-loop-names l = l.out ≡ write l.initial.out (flat_map (typed_names l.denotes) (take l.names-index l.typed))
