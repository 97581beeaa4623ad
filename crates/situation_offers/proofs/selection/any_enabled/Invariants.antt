use Rattle.std.proofs.Common.{map as each, take}
use Rattle.std.specs.List.{AllByRecursion}
use Rattle.estelle_model.specs.Situation.{Situation}
use Rattle.situation_offers.specs.Selections.{IsViewOf}
use Rattle.situation_offers.proofs.Enabled.{NoneOf}
use Rattle.situation_offers.proofs.selection.any_enabled.Given as goal

-- no transition of the instances so far is enabled
abbrev pub invariant-loop-part : goal.invariant-loop-part
invariant-loop-part t l = (g : Situation) → IsViewOf g l.view → AllByRecursion (NoneOf l.view.program.now l.view.budget g) (each (λ r. r.now.path) (take l.part-index l.part-items))
