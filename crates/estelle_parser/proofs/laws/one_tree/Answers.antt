use Rattle.estelle_parser.proofs.Whole as whole
use Rattle.estelle_parser.proofs.laws.one_tree.Goals as goal

pub returns : goal.returns
returns c = whole.one_tree
