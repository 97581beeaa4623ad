use Rattle.store_tests.proofs.DelayTimers.{no_two}
use Rattle.store_tests.proofs.delay_timers_calls.renew_none.Goals as goal

pub renew-requires : goal.renew-requires
renew-requires c = no_two
