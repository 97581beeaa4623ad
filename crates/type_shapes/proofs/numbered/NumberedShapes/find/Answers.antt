use Rattle.std.proofs.Common.{arith}
use Rattle.type_shapes.proofs.Firsts.{seen_found}
use Rattle.type_shapes.proofs.numbered.NumberedShapes.find.Goals as goal

pub returns : goal.returns
returns c =
    let e = seen_found (λ k. k.items) c.in_ok-text.text.items c.self.inside.numbers.entries in
    let text = c.in_ok-text.ensures in
    grind (arith)
