use Rattle.estelle_parser.proofs.Whole as whole
use Rattle.estelle_parser.proofs.laws.tree_or_place.Goals as goal

pub returns-clause-either : goal.returns-clause-either
returns-clause-either c = whole.tree_or_place

pub returns-clause-one : goal.returns-clause-one
returns-clause-one c = whole.one_place
