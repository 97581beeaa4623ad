use Rattle.std.proofs.Common.{refl}
use Rattle.body_machine.specs.Seen.{seen}
use Rattle.body_machine.proofs.Holding.{as_it_is, joins_made}
use Rattle.body_machine.proofs.ahead.joined.Goals as goal

pub returns-in-None : goal.returns-in-None
returns-in-None c = λ s n code. as_it_is s n code (seen c.args.machine.now) c.args.value (seen c.args.machine.now) refl

pub returns-in-Some : goal.returns-in-Some
returns-in-Some c = λ s n code. joins_made s n code (seen c.args.machine.now) c.args.value c.in-Some.ahead.0.now c.in-Some.ahead.1 c.in-Some.ensures.0 c.in-Some.ensures.1 c.join.result (seen c.join.new.machine) c.join.ensures
