use Rattle.module_tree.proofs.Paths.{last_of-index, set_last_number}
use Rattle.module_tree.proofs.nodes.replace_last.Goals as goal

pub returns-clause-last : goal.returns-clause-last
returns-clause-last c = last_of-index c.args.numbers.now

pub returns-clause-replaced : goal.returns-clause-replaced
returns-clause-replaced c = set_last_number c.args.numbers.now c.args.number c.requires
