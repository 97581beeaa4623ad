use Rattle.std.specs.Prelude.{IfSome}
use Rattle.estelle_model.specs.Situation.{Situation}
use Rattle.situation_images.specs.Instances.{IsPartOf}
use Rattle.situation_offers.specs.Asked.{IsImageOf}
use Rattle.situation_offers.specs.Selections.{IsViewOf}
use Rattle.situation_offers.proofs.Enabled.{NoneTo}
use Rattle.situation_offers.proofs.selection.enables_some.Given as goal

-- none of the transitions so far is enabled, and what is held of the private part is that of the instance
abbrev pub invariant-loop-index : goal.invariant-loop-index
invariant-loop-index t l = (g : Situation) → IsViewOf g l.view → IsPartOf g l.part → NoneTo l.view.program.now l.view.budget g l.part.path l.index × IfSome l.held (IsImageOf l.view.program.now g l.part.path)
