use Rattle.std.proofs.Common.{◌≡◌, take, map}
use Rattle.estelle_model.specs.Bodies.{stateset_declares}
use Rattle.meaning_table.specs.Known.{declare_all}
use Rattle.body_table.proofs.brought.declare_statesets.Given as goal

abbrev pub invariant-loop-set : goal.invariant-loop-set
invariant-loop-set l = l.table ≡ declare_all l.initial.table (map stateset_declares (take l.set-index l.sets))
