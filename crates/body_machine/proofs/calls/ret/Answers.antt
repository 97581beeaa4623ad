use Rattle.std.proofs.Common.{sym, ap, ◌∙◌}
use Rattle.body_state.specs.Progress.{running}
use Rattle.body_machine.specs.Steps.{return_to}
use Rattle.body_machine.specs.Seen.{seen}
use Rattle.body_machine.proofs.Acting.{stops_so}
use Rattle.body_machine.proofs.calls.ret.Goals as goal

pub returns-in-Err : goal.returns-in-Err
returns-in-Err c = λ n code. stops_so _ _ c.in-Err.stop (seen c.resume.new.machine)
    (λ i. return_to c.args.bodies.now n code (sym c.leave_unit.ensures.same i).return (c.in-Some.ensures.waits i) (sym c.leave_unit.ensures.same i).stack (sym (ap running (c.leave_unit.ensures.kept ∙ c.pop_frame.ensures)) i))
    (c.in-Err.ensures n code)
