use Rattle.pascal_values.proofs.ItemLemmas.{one_text}
use Rattle.pascal_values.proofs.laws.one_reading.Goals as goal

pub returns : goal.returns
returns c = one_text 200
