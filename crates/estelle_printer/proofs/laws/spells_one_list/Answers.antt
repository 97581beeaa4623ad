use Rattle.estelle_printer.proofs.SpecificationLaws.{one_list}
use Rattle.estelle_printer.proofs.laws.spells_one_list.Goals as goal

pub returns : goal.returns
returns c = one_list
