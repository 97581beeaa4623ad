use Rattle.situation_units.proofs.Weighing as by
use Rattle.situation_units.proofs.laws.starts_are_within.Goals as goal

pub returns : goal.returns
returns c = by.starts_are_within
