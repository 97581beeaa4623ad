use Rattle.std.proofs.Common.{◌≡◌, take}
use Rattle.std.specs.List.{flat_map}
use Rattle.estelle_model.specs.Denoted.{ordinal_declares}
use Rattle.meaning_table.specs.Known.{declare_all}
use Rattle.body_table.proofs.blocks.declare_domains.Given as goal

abbrev pub invariant-loop-any : goal.invariant-loop-any
invariant-loop-any l = l.table ≡ declare_all l.initial.table (flat_map (λ d. ordinal_declares d.domain) (take l.any-index l.domains))
