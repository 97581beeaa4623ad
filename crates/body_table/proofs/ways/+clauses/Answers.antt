use Rattle.std.proofs.Common.{arith}
use Rattle.std.specs.List.{flat_map}
use Rattle.estelle_model.specs.Definitions.{clause_declares}
use Rattle.meaning_table.proofs.Declarations.{declared_more}
use Rattle.body_table.specs.Ways.{group_clauses}
use Rattle.body_table.proofs.ways.+clauses.Goals as goal

pub declare_group_clauses-loop-group-preserved : goal.declare_group_clauses-loop-group-preserved
declare_group_clauses-loop-group-preserved t c =
    let e = declared_more (λ g. flat_map clause_declares (group_clauses g)) c.args.groups.now c.loop-group.group-index c.group-item.result c.args.table.now c.loop-group-test.true c.group-item.is in
    grind (arith)
