use Rattle.std.proofs.Common.{◌≡◌, None}
use Rattle.situation_state.specs.Firings.{failure_of}
use Rattle.situation_state.proofs.Ran.{ran_if}
use Rattle.situation.proofs.Settling.{been_put, started_so}
use Rattle.situation.proofs.execution.Execution.start.Goals as goal

pub put_first-requires : goal.put_first-requires
put_first-requires g c =
    let e : failure_of c.args.done.outcome ≡ None = cc in
    c.requires.may (ran_if c.args.done.outcome e)

pub returns-in-None : goal.returns-in-None
returns-in-None g c =
    let e : failure_of c.args.done.outcome ≡ None = cc in
    let old = c.args.self.now in
    started_so old c.args.done c.note_start.new.self c.args.done.outcome e
    (been_put old c.args.done c.put_first.new.self c.note_start.new.self (c.requires.may (ran_if c.args.done.outcome e)) c.put_first.ensures.put c.put_first.ensures.rest c.note_start.ensures.noted c.note_start.ensures.empty c.note_start.ensures.told c.note_start.ensures.rest)
