use Rattle.run_history.proofs.OpenTickets.{goes_on}
use Rattle.run_history.proofs.laws.tickets_go_on.Goals as goal

pub returns : goal.returns
returns c = goes_on
