use Rattle.guards_seen.proofs.Rows as rows
use Rattle.guards_seen.proofs.laws.offers_become_fresh.Goals as goal

pub returns : goal.returns
returns c = rows.offers_become_fresh
