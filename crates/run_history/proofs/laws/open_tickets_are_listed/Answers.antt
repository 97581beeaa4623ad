use Rattle.run_history.proofs.OpenTickets.{open_listed, listed_open, open_rise}
use Rattle.run_history.proofs.laws.open_tickets_are_listed.Goals as goal

pub returns-clause-listed : goal.returns-clause-listed
returns-clause-listed c = λ es o. (open_listed es o, listed_open es o)

pub returns-clause-rise : goal.returns-clause-rise
returns-clause-rise c = open_rise
