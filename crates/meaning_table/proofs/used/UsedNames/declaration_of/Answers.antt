use Rattle.std.proofs.Common.{arith, map, reverse}
use Rattle.std.proofs.lemmas.Grind.{common_steps}
use Rattle.meaning_table.proofs.Uses.{declared_by_place}
use Rattle.meaning_table.proofs.used.UsedNames.declaration_of.Goals as goal

pub returns-in-None : goal.returns-in-None
returns-in-None c =
    let names = c.self.invariant.0 in
    let found = declared_by_place (map (λ u. u.1) (reverse c.self.inside.names)) c.args.name.now in
    grind (arith, common_steps)

pub returns-in-Some : goal.returns-in-Some
returns-in-Some c =
    let names = c.self.invariant.0 in
    let found = declared_by_place (map (λ u. u.1) (reverse c.self.inside.names)) c.args.name.now in
    grind (arith, common_steps)
