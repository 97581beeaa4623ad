use Rattle.pascal_values.proofs.IntegerLemmas.{remainder_law}
use Rattle.pascal_values.proofs.laws.remainder_law.Goals as goal

pub returns : goal.returns
returns c = remainder_law
