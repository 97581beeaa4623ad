use Rattle.situation_tests.proofs.UnderWay.{on_some, taken_keeps}
use Rattle.situation_tests.proofs.apart.computed.Goals as goal

pub fire-requires : goal.fire-requires
fire-requires c = c.jobs_may_be_fired.ensures c.take_job.new.self.subject c.in-Ok.job c.in-Ok.ensures.taken.meets

pub returns-in-Ok-clause-others : goal.returns-in-Ok-clause-others
returns-in-Ok-clause-others c = on_some c.ok.result _ (taken_keeps _ c.args.world.now c.take_job.new.self c.in-Ok.job c.in-Ok.ensures.taken c.take_job.ensures.keeps)
