use Rattle.std.proofs.Common.{arith}
use Rattle.scope_names_events.proofs.SpecificationEquations.{required_is}
use Rattle.scope_names_events.proofs.specification.write_required.Goals as goal

pub returns : goal.returns
returns c =
    let e = required_is in
    grind (arith)
