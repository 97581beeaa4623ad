use Rattle.std.proofs.Common.{◌≡◌, sym, ap, subst, ◌∙◌}
use Rattle.trace_check.specs.declared.judged_part.JudgedPart.{JudgedPart}
use Rattle.trace_check.specs.JudgedParts.{HasGoneOn}
use Rattle.trace_check.proofs.Beginning.{may_put_first}
use Rattle.trace_check.proofs.Deciding.{not_so, is_so}
use Rattle.trace_check.proofs.Settling.{start_refused, start_made}
use Rattle.trace_check.proofs.judged_part.JudgedPart.start.Goals as goal

pub put_first-requires : goal.put_first-requires
put_first-requires c = may_put_first c.args.self.now c.args.done c.requires.may c.requires.ran

pub returns-then-not-has_noted : goal.returns-then-not-has_noted
returns-then-not-has_noted c =
    start_refused c.args.self.now c.args.done c.requires.may c.requires.ran c.args.outs.now c.args.drops.now c.requires.next c.put_first.new.self.state c.put_first.ensures.put
    (not_so c.has_noted.result c.has_noted.ensures c.if-not-has_noted.true)

pub returns : goal.returns
returns c =
    let r = c.args.self.now in
    let y = c.forget_told.new.self in
    subst (λ (x : JudgedPart). HasGoneOn r (record x { state = y; count = 1 })) (sym c.put_first.ensures.rest)
    (start_made r c.args.done c.requires.may c.requires.ran c.args.outs.now c.args.drops.now c.requires.next c.put_first.new.self.state c.put_first.ensures.put
    (is_so c.has_noted.result c.has_noted.ensures c.if-not-has_noted.false) y c.forget_told.ensures.empty c.forget_told.ensures.rest)
