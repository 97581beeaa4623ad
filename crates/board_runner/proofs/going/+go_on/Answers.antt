use Rattle.std.proofs.Common.{◌≡◌, None, sym, subst}
use Rattle.situation.specs.Known.{IsPlannedAdvance}
use Rattle.situation.specs.declared.limits.Advanced.{Advanced}
use Rattle.board_runner.proofs.Given.{as_before, refused, ended_before, waited, ended_so, flying, taken_still, refused_still}
use Rattle.board_runner.proofs.going.+go_on.Goals as goal

pub returns-in-Some : goal.returns-in-Some
returns-in-Some g t c = ended_before c.args.world.now c.in-Some.end c.end.ensures.keeps (sym c.in-Some.ensures.end)

pub returns-in_err-advance : goal.returns-in_err-advance
returns-in_err-advance g t c =
    refused c.from_residual.result c.args.world.now c.advance.new.self c.from_residual.ensures.0 (λ x. as_before x c.args.world.now c.advance.new.self c.advance.ensures.keeps c.in_err-advance.ensures.refused)

pub returns-in_err-take_job-in-Ready : goal.returns-in_err-take_job-in-Ready
returns-in_err-take_job-in-Ready g t c =
    let did = subst (λ (d : Advanced). IsPlannedAdvance g.H.Chooser.draw g.C.Clock.moment c.args.world.now c.advance.new.self d) c.in-Ready.is c.in_ok-advance.ensures.advanced in
    refused c.from_residual-in_err-take_job-in-Ready.result c.args.world.now c.take_job.new.self c.from_residual-in_err-take_job-in-Ready.ensures.0
    (λ x. refused_still x c.args.world.now c.advance.new.self c.take_job.new.self did.0 c.take_job.ensures.keeps c.in_err-take_job-in-Ready.ensures.refused)

pub returns-in-Waited : goal.returns-in-Waited
returns-in-Waited g t c =
    let none : c.args.world.now.end ≡ None = cc in
    let did = subst (λ (d : Advanced). IsPlannedAdvance g.H.Chooser.draw g.C.Clock.moment c.args.world.now c.advance.new.self d) c.in-Waited.is c.in_ok-advance.ensures.advanced in
    waited g.H.Chooser.draw g.C.Clock.moment c.args.world.now c.advance.new.self c.end.ensures.keeps none c.advance.ensures.keeps c.go_on.result c.go_on.new.world did c.go_on.ensures

pub returns-in_ok-take_job-in-Ready : goal.returns-in_ok-take_job-in-Ready
returns-in_ok-take_job-in-Ready g t c =
    let did = subst (λ (d : Advanced). IsPlannedAdvance g.H.Chooser.draw g.C.Clock.moment c.args.world.now c.advance.new.self d) c.in-Ready.is c.in_ok-advance.ensures.advanced in
    taken_still g.H.Chooser.draw c.args.world.now c.advance.new.self c.take_job.new.self c.in_ok-take_job-in-Ready.field-0 c.advance.ensures.keeps did.0 did.1 c.take_job.ensures.keeps c.in_ok-take_job-in-Ready.ensures.taken

pub returns-in-Flying : goal.returns-in-Flying
returns-in-Flying g t c =
    let did = subst (λ (d : Advanced). IsPlannedAdvance g.H.Chooser.draw g.C.Clock.moment c.args.world.now c.advance.new.self d) c.in-Flying.is c.in_ok-advance.ensures.advanced in
    flying c.args.world.now c.advance.new.self c.in-Flying.ticket c.advance.ensures.keeps did.0 did.1

pub returns-in-Ended : goal.returns-in-Ended
returns-in-Ended g t c =
    let none : c.args.world.now.end ≡ None = cc in
    let did = subst (λ (d : Advanced). IsPlannedAdvance g.H.Chooser.draw g.C.Clock.moment c.args.world.now c.advance.new.self d) c.in-Ended.is c.in_ok-advance.ensures.advanced in
    rw c.ended.ensures (ended_so g.H.Chooser.draw g.C.Clock.moment c.args.world.now c.advance.new.self c.end.ensures.keeps none c.advance.ensures.keeps c.in-Ended.end did)
