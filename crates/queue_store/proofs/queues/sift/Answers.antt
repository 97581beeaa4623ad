use Rattle.std.proofs.Common.{◌≡◌, ◌∙◌, ◌+◌, ◌-◌, ℕ, suc, ap, sym, arith, length}
use Rattle.std.specs.Prelude.{unwrap_or}
use Rattle.queue_store.specs.Rows.{first_item}
use Rattle.queue_store.proofs.MoveLaws.{length-sift}
use Rattle.queue_store.proofs.queues.sift.Goals as goal

pub loop-i-preserved : goal.loop-i-preserved
loop-i-preserved g c =
    let less : c.len-i-end.result - c.loop-i.i ≡ suc (c.len-i-end.result - (c.loop-i.i + 1)) = omega (arith, c.loop-i-test.true) in
    let was = rw less at c.loop-i.invariant.rest in
    record {
      rest = rw c.sift_one.ensures.rows was;
      length =
          ap length c.sift_one.ensures.rows
          ∙ length-sift c.args.source c.args.target c.args.from c.args.to (first_item c.args.source c.loop-i.table.rows) c.loop-i.table.rows
          ∙ c.loop-i.invariant.length;
      spare = c.sift_one.ensures.spare ∙ c.loop-i.invariant.spare;
      room = c.sift_one.ensures.room ∙ c.loop-i.invariant.room;
    }
