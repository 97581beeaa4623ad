use Rattle.std.proofs.Common.{arith, append_assoc}
use Rattle.body_program_numbers.proofs.Listing.{one_listed}
use Rattle.body_program_numbers.proofs.places.push_list.Goals as goal

pub loop-place-preserved : goal.loop-place-preserved
loop-place-preserved c =
    let more = one_listed c.args.list 0 c.args.places.now c.loop-place.place-index c.loop-place-test.true in
    grind (arith, append_assoc)
