use Rattle.std.proofs.Common.{take, map as each, ap, ◌∙◌}
use Rattle.delay_timers.specs.Moments.{pair_of}
use Rattle.delay_timers.specs.Renewal.{all_dropped}
use Rattle.delay_timers.proofs.Renewing.{all_undone, first_can}
use Rattle.delay_timers.proofs.timers.Timers.start_all.Goals as goal

pub returns-in-Err-clause-err : goal.returns-in-Err-clause-err
returns-in-Err-clause-err c =
    c.drop_started.ensures ∙ ap (all_dropped (each pair_of (each (λ w. w.now) (take c.loop-i.i c.args.wanted.now)))) (c.in-Err.ensures.err ∙ c.loop-i.invariant.reached)
    ∙ all_undone c.args.now (each (λ w. w.now) (take c.loop-i.i c.args.wanted.now)) c.args.self.now (first_can (λ w. w.now) c.args.now c.loop-i.i c.args.wanted.now c.args.self.now c.requires)
