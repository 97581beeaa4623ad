use Rattle.board_runner.proofs.Settled.{exchanged}
use Rattle.board_runner.proofs.settling.exchange_as.Goals as goal

pub returns-in-Ok : goal.returns-in-Ok
returns-in-Ok g c =
    exchanged c.args.number c.args.world.now c.settle_as.new.world c.go_on_as.new.world c.args.done c.in-Ok.committed c.go_on_as.result c.in-Ok.ensures c.go_on_as.ensures
