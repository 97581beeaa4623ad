use Rattle.std.proofs.Common.{◌≡◌, List, [], None, drop, subst, sym}
use Rattle.std.proofs.lemmas.List.{drop_all}
use Rattle.body_code.specs.declared.unit.CodeUnit.{CodeUnit}
use Rattle.body_code.specs.Units.{placed}
use Rattle.body_unit_kinds.specs.Seen.{claimed}
use Rattle.body_kinds_checker.specs.Placed.{AreGood}
use Rattle.body_kinds_checker.proofs.Placing.{are_kinded}
use Rattle.body_kinds_checker.proofs.checker.are_good.Goals as goal

pub returns : goal.returns
returns c =
    let good = AreGood c.args.program.now c.args.numbers.now c.args.code.now (claimed c.args.claims.now) in
    let none : drop c.loop-i.i c.items-units.result.now ≡ [] = drop_all c.loop-i.i c.items-units.result.now c.loop-i-test.false in
    λ _. are_kinded c.args.program.now c.args.numbers.now c.args.code.now (claimed c.args.claims.now)
    (subst (λ (us : List CodeUnit). good (placed None us)) c.items-units.ensures (c.loop-i.invariant (subst (λ (us : List CodeUnit). good (placed c.loop-i.here us)) (sym none) tt)))
