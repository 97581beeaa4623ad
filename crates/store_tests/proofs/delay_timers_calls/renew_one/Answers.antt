use Rattle.store_tests.proofs.DelayTimers.{alone}
use Rattle.store_tests.proofs.delay_timers_calls.renew_one.Goals as goal

pub renew-requires : goal.renew-requires
renew-requires c = alone c.args.enabled
