use Rattle.std.proofs.Common.{◌∙◌, ap, sym, Some}
use Rattle.std.specs.Prelude.{option_map}
use Rattle.estelle_model.specs.declared.denoter.Denoter.{Denoter, out-Denoter}
use Rattle.estelle_model.specs.declared.denoter.Denoter.TheVariants as denoter
use Rattle.estelle_model.specs.declared.denoter.Denoter.TheOpen.{Denoter-F}
use Rattle.estelle_model.specs.Types.{shape_of}
use Rattle.body_values.proofs.BelongingLemmas.{part_layer, type_part_out, no_part}
use Rattle.body_values.proofs.belonging.part_type.Goals as goal

pub returns-in-Array : goal.returns-in-Array
returns-in-Array c = ap (λ (d : Denoter). Some (shape_of d)) c.get.ensures ∙ sym (type_part_out c.args.denoter.now c.args.number ∙ ap (λ (d : Denoter-F Denoter). part_layer d c.args.number) (ap out-Denoter c.in-Array.is ∙ denoter.outs-Array _ _ _))

pub returns-in-Fields : goal.returns-in-Fields
returns-in-Fields c = ap (option_map shape_of) c.get-in-Fields.ensures.value ∙ sym (type_part_out c.args.denoter.now c.args.number ∙ ap (λ (d : Denoter-F Denoter). part_layer d c.args.number) (ap out-Denoter c.in-Fields.is ∙ denoter.outs-Fields _))

pub returns-in_default : goal.returns-in_default
returns-in_default c = no_part c.args.denoter.now c.args.number c.in_default.not-Array c.in_default.not-Fields
