use Rattle.std.proofs.Common.{subst}
use Rattle.situation.specs.Known.{IsStill}
use Rattle.situation_tests.proofs.UnderWay.{on_some_too, taken_by}
use Rattle.situation_tests.proofs.apart.taken.Goals as goal

pub returns-in-Ok-Ready-clause-others : goal.returns-in-Ok-Ready-clause-others
returns-in-Ok-Ready-clause-others c =
    let advanced = rw c.in-Ok-Ready.field-0-is at c.in-Ok-Ready.ensures.advanced in
    let still = subst (λ v. IsStill v c.advance.new.self) c.write_as.ensures advanced.0 in
    on_some_too c.computed.result _ _ (λ keeps. (taken_by c.args.by c.args.world.now c.advance.new.self c.computed.new.world still keeps).1) c.computed.ensures.others
