use Rattle.std.proofs.Common.{sym}
use Rattle.trace_check.specs.JudgedParts.{now}
use Rattle.trace_check.proofs.Computed.{no_fault, faults_so, fault_told}
use Rattle.trace_check.proofs.Deciding.{never, as_well}
use Rattle.situation_state.proofs.Ran.{ran_if, failed_if}
use Rattle.trace_check.proofs.JudgingOn.{pending_there}
use Rattle.trace_check.proofs.judged_part.JudgedPart.firing_faults.Goals as goal

pub returns-in-None : goal.returns-in-None
returns-in-None c =
    let r = c.args.self.now in
    let o = c.requires.open in
    let there = pending_there r o c.args.path.now c.args.trans c.args.at c.requires.place in
    let answers = (c.in_ok-done.ensures (record { path = c.args.path.now; trans = c.args.trans }) c.requires.place.there).0 in
    never (no_fault r.state.program.now r.state.budget (now r) o.going.legal c.args.path.now c.args.trans there c.in_ok-done.done answers (ran_if c.in_ok-done.done.outcome (sym c.in-None.ensures)) c.args.kind)

pub returns : goal.returns
returns c =
    let r = c.args.self.now in
    let o = c.requires.open in
    let there = pending_there r o c.args.path.now c.args.trans c.args.at c.requires.place in
    let answers = (c.in_ok-done.ensures (record { path = c.args.path.now; trans = c.args.trans }) c.requires.place.there).0 in
    let is = failed_if c.in_ok-done.done.outcome c.in-Some.own (sym c.in-Some.ensures) in
    as_well c.same_kind.result c.same_kind.ensures
    (faults_so r.state.program.now r.state.budget (now r) o.going.legal c.args.path.now c.args.trans there c.in_ok-done.done answers c.in-Some.own is c.args.kind)
    (fault_told r.state.program.now r.state.budget (now r) o.going.legal c.args.path.now c.args.trans there c.in_ok-done.done answers c.in-Some.own is c.args.kind)
