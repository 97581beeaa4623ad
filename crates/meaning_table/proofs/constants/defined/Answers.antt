use Rattle.std.proofs.Common.{◌∙◌}
use Rattle.estelle_model.specs.Operators.{signed}
use Rattle.meaning_table.proofs.Found.{found_defines}
use Rattle.meaning_table.proofs.constants.defined.Goals as goal

pub returns-in-Some : goal.returns-in-Some
returns-in-Some c = rw c.in-Some.is (c.defined_int.ensures ∙ found_defines c.args.host (signed c.in-Some.sign c.args.value.now) _ c.signed_int.ensures)
