use Rattle.std.proofs.Common.{arith, append_assoc}
use Rattle.body_program_numbers.proofs.Listing.{one_list_more}
use Rattle.body_program_numbers.proofs.places.number_lists.Goals as goal

pub loop-places-preserved : goal.loop-places-preserved
loop-places-preserved c =
    let more = one_list_more 0 c.args.lists.now c.loop-places.places-index c.places-item.result c.loop-places-test.true c.places-item.is in
    grind (arith, append_assoc)
