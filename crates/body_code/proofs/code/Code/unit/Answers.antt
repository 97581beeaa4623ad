use Rattle.std.proofs.Common.{◌≡◌, arith}
use Rattle.std.specs.Prelude.{Some, None}
use Rattle.std.specs.Map.{lookup}
use Rattle.std.proofs.lemmas.Grind.{common_steps}
use Rattle.body_code.specs.Units.{same_place}
use Rattle.body_code.proofs.Finding.{unit_found}
use Rattle.body_code.proofs.code.Code.unit.Goals as goal

pub returns-in-None : goal.returns-in-None
returns-in-None c =
    let told : lookup (same_place (c.args.body, c.args.entry)) c.self.inside.firsts.entries ≡ None = grind (arith, common_steps) in
    let e = unit_found c.self.inside.units c.self.inside.firsts.entries c.args.body c.args.entry None (c.self.invariant c.if-self.true).first told in
    grind (arith, common_steps)

pub returns-in-Some : goal.returns-in-Some
returns-in-Some c =
    let told : lookup (same_place (c.args.body, c.args.entry)) c.self.inside.firsts.entries ≡ Some c.in-Some.number.now = grind (arith, common_steps) in
    let e = unit_found c.self.inside.units c.self.inside.firsts.entries c.args.body c.args.entry (Some c.in-Some.number.now) (c.self.invariant c.if-self.true).first told in
    grind (arith, common_steps)
