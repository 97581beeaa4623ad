use Rattle.std.proofs.Common.{subst}
use Rattle.situation.specs.Known.{IsStill}
use Rattle.situation_tests.proofs.UnderWay.{put_keeps}
use Rattle.situation_tests.proofs.apart.put.Goals as goal

pub returns-in-Ok : goal.returns-in-Ok
returns-in-Ok c =
    let still = subst (λ v. IsStill v c.reserve.new.self) c.write_as.ensures c.reserve.ensures.same in
    record { others = put_keeps c.args.by c.args.world.now c.reserve.new.self c.commit.new.self still c.args.done c.commit.ensures.keeps c.commit.result c.commit.ensures.committed }
