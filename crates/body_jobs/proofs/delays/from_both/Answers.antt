use mir.Syntax.{w64}
use mir.Val.{to_z, of_z}
use Rattle.std.proofs.Common.{rules}
use Rattle.std.proofs.lemmas.Int.{to_z-of_z}
use Rattle.body_jobs.proofs.DelayLemmas.{both_ok}
use Rattle.body_jobs.proofs.delays.from_both.Goals as goal

pub returns-in-Ok-int_of : goal.returns-in-Ok-int_of
returns-in-Ok-int_of c = λ s. both_ok s c.args.low.now c.in-Ok.low (to_z w64 (of_z w64 c.in-Ok.low)) c.between.result (search (rules, to_z-of_z)) c.args.high.now c.in-Ok-int_of.high (to_z w64 (of_z w64 c.in-Ok-int_of.high)) (search (rules, to_z-of_z)) c.in-Ok.ensures c.in-Ok-int_of.ensures (c.between.ensures s)
