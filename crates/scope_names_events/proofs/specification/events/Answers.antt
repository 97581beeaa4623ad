use Rattle.std.proofs.Common.{arith}
use Rattle.scope_names_events.proofs.SpecificationEquations.{events_is}
use Rattle.scope_names_events.proofs.specification.events.Goals as goal

pub returns : goal.returns
returns c =
    let e = events_is c.args.tree.now in
    grind (arith)
