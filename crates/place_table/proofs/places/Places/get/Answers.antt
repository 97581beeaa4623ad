use Rattle.std.proofs.Common.{arith}
use Rattle.std.proofs.lemmas.Grind.{common_steps}
use Rattle.place_table.proofs.Latest.{latest_value}
use Rattle.place_table.proofs.places.Places.get.Goals as goal

pub returns-in-None : goal.returns-in-None
returns-in-None g c =
    let e = latest_value c.args.at c.self.inside.declared c.self.inside.numbers.entries c.self.invariant in
    grind (arith, common_steps)

pub returns-in-None-get : goal.returns-in-None-get
returns-in-None-get g c =
    let e = latest_value c.args.at c.self.inside.declared c.self.inside.numbers.entries c.self.invariant in
    grind (arith, common_steps)

pub returns-in-Some-get : goal.returns-in-Some-get
returns-in-Some-get g c =
    let e = latest_value c.args.at c.self.inside.declared c.self.inside.numbers.entries c.self.invariant in
    grind (arith, common_steps)
