use Rattle.std.proofs.Common.{sym}
use Rattle.body_machine.proofs.ahead.settled.Goals as goal

pub returns-in-Some : goal.returns-in-Some
returns-in-Some c = λ s code. c.taken.ensures s code (sym c.in-Some.ensures)

pub returns-in-None : goal.returns-in-None
returns-in-None c = λ s code. (0, c.put_on_top.ensures)
