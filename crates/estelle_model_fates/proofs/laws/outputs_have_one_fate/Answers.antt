use Rattle.estelle_model_fates.proofs.Fates as by
use Rattle.estelle_model_fates.proofs.laws.outputs_have_one_fate.Goals as goal

pub returns-clause-counted : goal.returns-clause-counted
returns-clause-counted c = by.outputs_are_counted

pub returns-clause-one : goal.returns-clause-one
returns-clause-one c = by.outputs_have_one_fate

pub returns-clause-none : goal.returns-clause-none
returns-clause-none c = by.no_others
