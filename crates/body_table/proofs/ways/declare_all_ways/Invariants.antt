use Rattle.std.proofs.Common.{◌≡◌, [], take}
use Rattle.std.specs.List.{flat_map}
use Rattle.estelle_model.specs.Bodies.{ways}
use Rattle.meaning_table.specs.Known.{declare_all}
use Rattle.body_table.specs.Ways.{way_declares}
use Rattle.body_table.proofs.ways.declare_all_ways.Given as goal

abbrev pub invariant-loop-trans : goal.invariant-loop-trans
invariant-loop-trans l = l.table ≡ declare_all l.initial.table (flat_map (λ t. flat_map (way_declares []) (ways t.body)) (take l.trans-index l.transitions))
