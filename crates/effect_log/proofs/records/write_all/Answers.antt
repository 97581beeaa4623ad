use Rattle.std.proofs.Common.{◌∙◌, List, sym, ap}
use Rattle.estelle_model.specs.declared.image.Part.{Part}
use Rattle.effect_log.specs.Underway.{written}
use Rattle.effect_log.proofs.Writing.{written-last}
use Rattle.effect_log.proofs.records.write_all.Goals as goal

pub loop-part-preserved : goal.loop-part-preserved
loop-part-preserved c =
    ap (written c.pop.new.self) c.write.ensures.instances ∙ sym (written-last c.loop-part.tree.instances c.pop.new.self c.in-Some.part)
    ∙ ap (λ (ps : List Part). written ps c.loop-part.tree.instances) (sym c.in-Some.ensures) ∙ c.loop-part.invariant
