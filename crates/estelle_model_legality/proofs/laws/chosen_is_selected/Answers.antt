use Rattle.estelle_model_legality.proofs.Choosing.{selected}
use Rattle.estelle_model_legality.proofs.ChosenOnce.{one}
use Rattle.estelle_model_legality.proofs.ChosenThere.{at_system}
use Rattle.estelle_model_legality.proofs.Systems.{legal_tree}
use Rattle.estelle_model_legality.proofs.laws.chosen_is_selected.Goals as goal

pub returns-clause-tree : goal.returns-clause-tree
returns-clause-tree g c = legal_tree

pub returns-clause-selected : goal.returns-clause-selected
returns-clause-selected g c = λ draw s budget g tree in_order m c takes rest chosen. selected s budget g tree in_order draw chosen

pub returns-clause-one : goal.returns-clause-one
returns-clause-one g c = λ draw s budget g m c takes takes' rest rest' chosen chosen'. one draw s budget g chosen takes' rest' chosen'

pub returns-clause-there : goal.returns-clause-there
returns-clause-there g c = λ draw below s budget g tree m is c. at_system draw below s budget g tree m is c
