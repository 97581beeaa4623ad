use Rattle.estelle_model.specs.Operators.{signed}
use Rattle.meaning_table.proofs.Found.{integer_found}
use Rattle.meaning_table.proofs.constants.ordinal_by_sign.Goals as goal

pub returns-in-Some : goal.returns-in-Some
returns-in-Some c = rw c.in-Some.is (integer_found (signed c.in-Some.sign c.args.value.now) c.signed_int.result c.signed_int.ensures)
