use Rattle.guards_seen.proofs.Rows as rows
use Rattle.guards_seen.proofs.laws.offers_stay_fresh.Goals as goal

pub returns-clause-rows : goal.returns-clause-rows
returns-clause-rows c = rows.rows_stay

pub returns-clause-fresh : goal.returns-clause-fresh
returns-clause-fresh c = rows.offers_stay_fresh
