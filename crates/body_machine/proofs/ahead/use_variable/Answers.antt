use Rattle.std.proofs.Common.{Ok, Err}
use Rattle.body_machine.specs.Steps.{next}
use Rattle.body_machine.specs.Seen.{seen}
use Rattle.body_machine.proofs.Holding.{made_gone, unmade, loads_made}
use Rattle.body_machine.proofs.ahead.use_variable.Goals as goal

pub returns-in-Err : goal.returns-in-Err
returns-in-Err c = λ s code is. unmade s c.args.numbers.now code (next s c.args.numbers.now code (seen c.args.machine.now)) c.in-Err.stop (seen c.load_both.new.machine) (loads_made s c.args.numbers.now code (seen c.args.machine.now) c.args.x (Err c.in-Err.stop) (seen c.load_both.new.machine) is c.in-Err.ensures)

pub returns-in-Ok : goal.returns-in-Ok
returns-in-Ok c = λ s code is. made_gone s c.args.numbers.now code (next s c.args.numbers.now code (seen c.args.machine.now)) c.in-Ok.made (seen c.load_both.new.machine) (seen c.use_value.new.machine) c.use_value.result (loads_made s c.args.numbers.now code (seen c.args.machine.now) c.args.x (Ok c.in-Ok.made) (seen c.load_both.new.machine) is c.in-Ok.ensures) (c.use_value.ensures s code)
