use Rattle.std.proofs.Common.{IfOk}
use Rattle.body_kinds.specs.Kinded.{IsKinded}
use Rattle.body_kinds.specs.Good.{HasGoodKinds}
use Rattle.body_program_numbers.specs.Numbering.{numbers_of}
use Rattle.body_unit_kinds.specs.Seen.{claimed}
use Rattle.body_unit_kinds.proofs.Fine.{met_then}
use Rattle.body_kinds_checker.proofs.Placing.{good_kinds}
use Rattle.body_kinds_checker.proofs.checker.is_kinded.Goals as goal

pub returns : goal.returns
returns c =
    let s = c.args.numbering.now in
    let n = numbers_of s in
    let code = c.args.code.now in
    let claims = claimed c.in_ok-claims.claims in
    met_then c.are_good.result (IsKinded c.program-program.result.now c.numbers-numbers.result.now code claims) (HasGoodKinds s n code)
    (good_kinds s c.program-program.result.now n c.numbers-numbers.result.now code claims c.program-program.ensures c.numbers-numbers.ensures (c.has_units.ensures c.if-not-has_units.false)) c.are_good.ensures
