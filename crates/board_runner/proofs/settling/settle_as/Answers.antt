use Rattle.std.proofs.Common.{sym}
use Rattle.board_runner.proofs.Settled.{late_as, open_by, answer_in, settled_as, comes_back}
use Rattle.board_runner.proofs.settling.settle_as.Goals as goal

pub returns-in-Some : goal.returns-in-Some
returns-in-Some g c =
    late_as c.args.number c.args.world.now c.write_as.new.self c.args.done c.in-Some.end c.write_as.ensures c.in-Some.ensures.keeps (sym c.in-Some.ensures.end)

pub commit-requires-clause-open : goal.commit-requires-clause-open
commit-requires-clause-open g c =
    open_by c.args.number c.args.world.now c.write_as.new.self c.reserve.new.self c.write_as.ensures c.end.ensures.keeps c.reserve.ensures.same c.args.done c.requires

pub commit-requires-clause-answers : goal.commit-requires-clause-answers
commit-requires-clause-answers g c =
    answer_in c.args.number c.args.world.now c.write_as.new.self c.reserve.new.self c.write_as.ensures c.end.ensures.keeps c.reserve.ensures.same c.args.done c.requires

pub returns-in-Ok : goal.returns-in-Ok
returns-in-Ok g c =
    settled_as c.args.number c.args.world.now c.write_as.new.self c.reserve.new.self c.write_as.ensures c.end.ensures.keeps c.reserve.ensures.same c.args.done c.commit.new.self c.commit.result c.commit.ensures.keeps c.commit.ensures.committed

pub returns-in-Err : goal.returns-in-Err
returns-in-Err g c = comes_back c.args.number c.args.world.now c.write_as.new.self c.reserve.new.self c.write_as.ensures c.end.ensures.keeps c.reserve.ensures.same c.args.done
