use Rattle.std.proofs.Common.{◌≤◌, arith}
use Rattle.spec_maker.proofs.Reading.{ring_tree, ring_is}
use Rattle.spec_maker.proofs.ring.make.Goals as goal

pub returns-in-Ok : goal.returns-in-Ok
returns-in-Ok c =
    let some : 1 ≤ c.args.n = omega arith in
    ring_is c.args.n some c.requires.most c.in_ok-found.found.items c.in_ok-found.found.rest c.in_ok-found.ensures.lexed c.in-Ok.spec c.in-Ok.ensures.spelled

pub unreachable-requires : goal.unreachable-requires
unreachable-requires c =
    let some : 1 ≤ c.args.n = omega arith in
    let t = ring_tree c.args.n some c.requires.most c.in_ok-found.found.items c.in_ok-found.found.rest c.in_ok-found.ensures.lexed in
    let only = rw c.in-Err-At.field-0-is at c.in-Err-At.ensures.only in
    only t.0 t.1
