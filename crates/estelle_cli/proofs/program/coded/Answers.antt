use Rattle.estelle_cli.proofs.Traces.{listing_shown}
use Rattle.estelle_cli.proofs.program.coded.Goals as goal

pub returns-clause-text : goal.returns-clause-text
returns-clause-text g c = listing_shown _ c.in_ok-checked.checked c.in_ok-text.text c.in_ok-checked.ensures.found c.in_ok-text.ensures
