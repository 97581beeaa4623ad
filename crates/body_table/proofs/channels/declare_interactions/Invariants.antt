use Rattle.std.proofs.Common.{◌≡◌, take}
use Rattle.std.specs.List.{flat_map}
use Rattle.estelle_model.specs.Definitions.{inter_declares}
use Rattle.meaning_table.specs.Known.{declare_all}
use Rattle.body_table.proofs.channels.declare_interactions.Given as goal

abbrev pub invariant-loop-inter : goal.invariant-loop-inter
invariant-loop-inter l = l.table ≡ declare_all l.initial.table (flat_map (inter_declares l.channel l.by) (take l.inter-index l.inters))
