use Rattle.std.proofs.Common.{rules, sym, ap, ◌∙◌}
use Rattle.std.proofs.lemmas.Int.{to_z-of_z}
use Rattle.estelle_model.specs.declared.denoter.Denoter.{Denoter}
use Rattle.estelle_model.specs.Types.{shape_of, assignable}
use Rattle.body_values.proofs.TypeLemmas.{ordinal_assignable}
use Rattle.body_values.proofs.fitting.fits.Goals as goal

pub returns-in-Ordinal : goal.returns-in-Ordinal
returns-in-Ordinal c = ordinal_assignable c.in-Ordinal.host c.in-Ordinal.low c.in-Ordinal.high _ _ c.args.value.now _ (search (rules, to_z-of_z)) (search (rules, to_z-of_z)) c.fits_ordinal.ensures
    ∙ sym (ap (λ (d : Denoter). assignable (shape_of d) c.args.value.now) c.in-Ordinal.is)
