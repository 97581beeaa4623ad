use Rattle.pascal_values.proofs.ItemLemmas.{no_ordinal}
use Rattle.pascal_values.proofs.ordinals.ordinal.Goals as goal

pub returns-in-None : goal.returns-in-None
returns-in-None c = no_ordinal _ c.in-None.ensures
