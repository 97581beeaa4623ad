use Rattle.estelle_model_fates.proofs.FirstOut as by
use Rattle.estelle_model_fates.proofs.laws.first_in_is_first_out.Goals as goal

pub returns-clause-overtaken : goal.returns-clause-overtaken
returns-clause-overtaken c = by.none_is_overtaken

pub returns-clause-first : goal.returns-clause-first
returns-clause-first c = by.first_in_first_out

pub returns-clause-moved : goal.returns-clause-moved
returns-clause-moved c = by.moves_keep_order
