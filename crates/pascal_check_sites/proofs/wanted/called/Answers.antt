use Rattle.std.proofs.Common.{arith}
use Rattle.std.proofs.lemmas.Grind.{common_steps}
use Rattle.type_rules.proofs.ExpressionEquations.{args_is}
use Rattle.pascal_check_sites.proofs.wanted.called.Goals as goal

pub returns-in_ok-arguments-in-Some : goal.returns-in_ok-arguments-in-Some
returns-in_ok-arguments-in-Some c = grind (arith, common_steps, args_is)
