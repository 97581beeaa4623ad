use Rattle.situation_steps.proofs.Ends as by
use Rattle.situation_steps.proofs.laws.clocks_end_selections.Goals as goal

pub returns : goal.returns
returns c = by.clocks_end_selections
