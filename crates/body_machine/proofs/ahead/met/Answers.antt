use Rattle.std.proofs.Common.{refl}
use Rattle.body_machine.specs.Seen.{seen}
use Rattle.body_machine.proofs.Holding.{as_it_is, meets_made}
use Rattle.body_machine.proofs.ahead.met.Goals as goal

pub returns-in-None : goal.returns-in-None
returns-in-None c = λ s n code. as_it_is s n code (seen c.args.machine.now) c.args.value (seen c.args.machine.now) refl

pub returns-in-Some : goal.returns-in-Some
returns-in-Some c = λ s n code. meets_made s n code (seen c.args.machine.now) c.args.value c.in-Some.operator c.meet.result (seen c.meet.new.machine) c.in-Some.ensures (c.meet.ensures s n code)
