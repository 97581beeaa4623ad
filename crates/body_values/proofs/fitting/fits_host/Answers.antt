use Rattle.std.proofs.Common.{rules, ◌∙◌}
use Rattle.std.proofs.lemmas.Int.{to_z-of_z}
use Rattle.estelle_model.specs.Types.{least, greatest}
use Rattle.body_values.proofs.TypeLemmas.{ordinal_assignable}
use Rattle.body_values.proofs.fitting.fits_host.Goals as goal

pub returns : goal.returns
returns c = ordinal_assignable c.args.host (least c.args.host) (greatest c.args.host) _ _ c.args.value.now _ (search (rules, to_z-of_z)) (search (rules, to_z-of_z)) c.fits_ordinal.ensures
