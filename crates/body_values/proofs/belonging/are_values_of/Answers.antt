use Rattle.std.proofs.Common.{◌∙◌, ap, arith}
use Rattle.estelle_model.specs.declared.denoter.Denoter.{Denoter}
use Rattle.estelle_model.specs.Types.{shape_of}
use Rattle.estelle_model.specs.Belonging.{belongs}
use Rattle.body_values.proofs.BelongingLemmas.{values_fail, values_more}
use Rattle.body_values.proofs.belonging.are_values_of.Goals as goal

pub returns-then-not-belongs : goal.returns-then-not-belongs
returns-then-not-belongs c = values_fail c.args.types.now c.args.values.now c.loop-i.i c.index-types-i.result c.index-values-i.result c.loop-i-test.true (omega arith) c.index-types-i.is c.index-values-i.is c.if-not-belongs.true (c.belongs.ensures ∙ ap (λ (d : Denoter). belongs (shape_of d) c.index-values-i.result) c.denoter.ensures)

pub loop-i-preserved : goal.loop-i-preserved
loop-i-preserved c = values_more c.args.types.now c.args.values.now c.loop-i.i c.index-types-i.result c.index-values-i.result c.loop-i-test.true (omega arith) c.index-types-i.is c.index-values-i.is c.if-not-belongs.false (c.belongs.ensures ∙ ap (λ (d : Denoter). belongs (shape_of d) c.index-values-i.result) c.denoter.ensures) c.loop-i.invariant
