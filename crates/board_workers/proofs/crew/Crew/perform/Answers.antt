use Rattle.std.proofs.Common.{subst}
use Rattle.estelle_model.specs.Jobs.{Answers}
use Rattle.turn_board.specs.Passes.{own}
use Rattle.board_workers.proofs.Tasks.{may_commit}
use Rattle.board_workers.proofs.crew.Crew.perform.Goals as goal

pub go_on_behind-requires-clause-its : goal.go_on_behind-requires-clause-its
go_on_behind-requires-clause-its g c =
    may_commit (own c.args.pass.now) c.args.job c.in_ok-done.done c.requires.its (subst (λ s. Answers s c.args.job c.in_ok-done.done) c.requires.code c.in_ok-done.ensures)

pub rest_behind-requires-clause-its : goal.rest_behind-requires-clause-its
rest_behind-requires-clause-its g c =
    may_commit (own c.args.pass.now) c.args.job c.in_ok-done.done c.requires.its (subst (λ s. Answers s c.args.job c.in_ok-done.done) c.requires.code c.in_ok-done.ensures)
