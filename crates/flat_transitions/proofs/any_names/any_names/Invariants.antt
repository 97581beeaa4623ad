use Rattle.std.proofs.Common.{◌≡◌, take}
use Rattle.std.specs.List.{flat_map}
use Rattle.meaning_table.specs.Known.{meanings_of}
use Rattle.flat_transitions.specs.Choices.{domain_names}
use Rattle.flat_transitions.proofs.any_names.any_names.Given as goal

abbrev pub invariant-loop-domain : goal.invariant-loop-domain
invariant-loop-domain l = l.names ≡ flat_map (domain_names (meanings_of l.table)) (take l.domain-index l.domains)
