use Rattle.estelle_tree.proofs.CutSpecification.{prefixes}
use Rattle.estelle_tree.proofs.laws.prefixes_begin.Goals as goal

pub returns : goal.returns
returns c = prefixes
