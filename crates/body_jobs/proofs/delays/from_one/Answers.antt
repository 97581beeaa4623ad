use mir.Syntax.{w64}
use mir.Val.{to_z, of_z}
use Rattle.std.proofs.Common.{rules}
use Rattle.std.proofs.lemmas.Int.{to_z-of_z}
use Rattle.body_jobs.proofs.DelayLemmas.{one_ok}
use Rattle.body_jobs.proofs.delays.from_one.Goals as goal

pub returns-in-Ok : goal.returns-in-Ok
returns-in-Ok c = λ s. one_ok s c.args.low.now c.in-Ok.low (to_z w64 (of_z w64 c.in-Ok.low)) c.from_on.result (search (rules, to_z-of_z)) c.in-Ok.ensures (c.from_on.ensures s)
