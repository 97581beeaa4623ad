use Rattle.body_machine.specs.Machine.{Goes}
use Rattle.body_machine.specs.Seen.{seen}
use Rattle.body_machine.specs.Ahead.{holding}
use Rattle.body_machine.proofs.Holding.{made_gone, unmade}
use Rattle.body_machine.proofs.ahead.use_joined.Goals as goal

pub returns-in-Err : goal.returns-in-Err
returns-in-Err c = λ s code. unmade s c.args.numbers.now code (Goes (holding c.args.value (seen c.args.machine.now))) c.in-Err.stop (seen c.met.new.machine) (c.in-Err.ensures s c.args.numbers.now code)

pub returns-in-Ok : goal.returns-in-Ok
returns-in-Ok c = λ s code. made_gone s c.args.numbers.now code (Goes (holding c.args.value (seen c.args.machine.now))) c.in-Ok.made (seen c.met.new.machine) (seen c.settled.new.machine) c.settled.result (c.in-Ok.ensures s c.args.numbers.now code) (c.settled.ensures s code)
