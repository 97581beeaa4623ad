use Rattle.std.proofs.Common.{subst, Result}
use Rattle.pascal_values.specs.declared.value.Value.{Value}
use Rattle.body_values.specs.declared.stop.Stop.{Stop}
use Rattle.body_machine.specs.Seen.{seen}
use Rattle.body_machine.specs.Ahead.{HasMade}
use Rattle.body_machine.proofs.Holding.{made_gone, unmade}
use Rattle.body_machine.proofs.ahead.made_stored.Goals as goal

pub returns-in-Err : goal.returns-in-Err
returns-in-Err c = λ s code x h. unmade s c.args.numbers.now code x c.in-Err.stop (seen c.args.machine.now) (subst (λ (r : Result Value Stop). HasMade s c.args.numbers.now code x r (seen c.args.machine.now)) c.in-Err.is h)

pub returns-in-Ok : goal.returns-in-Ok
returns-in-Ok c = λ s code x h. made_gone s c.args.numbers.now code x c.in-Ok.value (seen c.args.machine.now) (seen c.stored.new.machine) c.stored.result (subst (λ (r : Result Value Stop). HasMade s c.args.numbers.now code x r (seen c.args.machine.now)) c.in-Ok.is h) (c.stored.ensures s code)
