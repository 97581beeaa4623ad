use Rattle.store_tests.proofs.DelayTimers.{two_numbers}
use Rattle.store_tests.proofs.delay_timers_calls.renew_two.Goals as goal

pub renew-requires : goal.renew-requires
renew-requires c = two_numbers c.args.first c.args.second c.requires
