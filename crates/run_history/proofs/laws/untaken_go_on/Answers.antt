use Rattle.run_history.proofs.Untaken.{takes_leave, firings_leave, selections_leave}
use Rattle.run_history.proofs.laws.untaken_go_on.Goals as goal

pub returns-clause-takes : goal.returns-clause-takes
returns-clause-takes c = takes_leave

pub returns-clause-firings : goal.returns-clause-firings
returns-clause-firings c = firings_leave

pub returns-clause-selections : goal.returns-clause-selections
returns-clause-selections c = selections_leave
