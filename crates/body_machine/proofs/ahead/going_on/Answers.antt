use Rattle.std.proofs.Common.{refl, subst, Result}
use Rattle.body_values.specs.declared.stop.Stop.{Stop}
use Rattle.body_machine.specs.Seen.{IsNext}
use Rattle.body_machine.proofs.Acting.{stops_so}
use Rattle.body_machine.proofs.ahead.going_on.Goals as goal

pub returns-in-Ok : goal.returns-in-Ok
returns-in-Ok c = λ x new h. subst (λ (r : Result (Unit {0}) Stop). IsNext x r new) c.in-Ok.is h

pub returns-in-Err : goal.returns-in-Err
returns-in-Err c = λ x new h. stops_so x x c.in-Err.stop new refl (subst (λ (r : Result (Unit {0}) Stop). IsNext x r new) c.in-Err.is h)
