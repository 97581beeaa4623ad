use Rattle.std.proofs.Common.{◌≡◌, false, length, refl, ap, arith}
use Rattle.estelle_model_legality.proofs.Lists.{not_both}
use Rattle.trace_check.specs.JudgedParts.{now}
use Rattle.trace_check.proofs.Deciding.{of_none}
use Rattle.trace_check.proofs.judged_part.JudgedPart.guard_faults.Goals as goal

pub returns : goal.returns
returns c =
    let r = c.args.self.now in
    let same : length c.items-numbers.result.now ≡ length c.args.path.now = ap length c.items-numbers.ensures in (
      (λ is. absurd (not_both false is refl)),
      (λ faults. absurd (of_none r.state.program.now r.state.budget (now r) c.args.path.now c.args.trans c.args.kind c.loop-len.len (omega (arith, same, c.loop-len-test.false)) c.loop-len.invariant faults)),
    )
