use Rattle.std.proofs.Common.{◌≡◌, Some, None, sym}
use Rattle.queue_store.specs.Homes.{heads}
use Rattle.queue_store.proofs.DeclareLaws.{common-found, not-common, not-declared, none-common}
use Rattle.queue_store.proofs.queues.common_home.Goals as goal
use Rattle.queue_store.proofs.queues.common_home.Goals.{in-Some+else-is_common, in-None}

pub returns-then-is_common : goal.returns-then-is_common
returns-then-is_common g c =
    sym (common-found c.args.table.now.rows c.args.path.now c.loop-number.number c.requires.housed c.in-Some.row c.home.result c.is_common.result
    c.in-Some.ensures.found c.is_common.ensures c.if-is_common.true c.home.ensures)

pub loop-number-preserved : goal.loop-number-preserved
loop-number-preserved g c =
    elim c.match-find.branch [
      | in-Some+else-is_common w ↦
          not-common c.args.table.now.rows c.args.path.now c.loop-number.number c.requires.housed w.in-Some.row w.is_common.result
          w.in-Some.ensures.found w.is_common.ensures w.if-is_common.false c.loop-number.invariant
      | in-None w ↦ not-declared c.args.table.now.rows c.args.path.now c.loop-number.number c.requires.housed w.in-None.ensures.found c.loop-number.invariant
    ]

pub returns : goal.returns
returns g c = sym (none-common (heads c.args.table.now.rows) c.args.path.now c.args.numbers c.loop-number.number c.loop-number.invariant c.requires.below c.loop-number-test.false)
