use Rattle.body_unit_kinds.specs.Seen.{stacks_of}
use Rattle.body_unit_kinds.proofs.Fine.{found_more}
use Rattle.body_unit_kinds.proofs.unit.is_kinded.Goals as goal

pub loop-address-preserved : goal.loop-address-preserved
loop-address-preserved c =
    found_more c.args.here.now (stacks_of c.loop-address.stacks) (stacks_of c.guess.new.stacks) (stacks_of c.visit.new.stacks) c.loop-address.address c.loop-address.invariant c.in_ok-guess.ensures c.in_ok-visit.ensures.grows
    (c.in_ok-visit.ensures.visited c.if-not-branch.false)
