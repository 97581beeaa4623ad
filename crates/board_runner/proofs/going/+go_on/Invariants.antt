use Rattle.situation.specs.Known.{left_to_do}
use Rattle.board_runner.proofs.going.+go_on.Given as goal

abbrev pub decreases-go_on : goal.decreases-go_on
decreases-go_on g l = left_to_do l.world.now
