use Rattle.std.proofs.Common.{◌≡◌, Some, None, rules}
use Rattle.std.specs.Prelude.{slice_get, slice_set}
use Rattle.body_unit_kinds.proofs.Filling.{put_more}
use Rattle.body_unit_kinds.proofs.stacks.put.Goals as goal

pub returns-else-len-to-clause-grows : goal.returns-else-len-to-clause-grows
returns-else-len-to-clause-grows c =
    let set : c.set.new.self ≡ slice_set c.args.stacks.now c.args.to (Some c.args.stack) = search rules in
    let empty : slice_get c.args.stacks.now c.args.to ≡ Some None = search rules in
    put_more c.args.stacks.now c.set.new.self c.args.address c.args.to c.args.stack set empty c.if-to-address.false
