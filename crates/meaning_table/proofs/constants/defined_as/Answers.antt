use Rattle.meaning_table.proofs.constants.defined_as.Goals as goal

pub returns-in-Constant : goal.returns-in-Constant
returns-in-Constant c = rw c.in-Constant.is c.defined.ensures
