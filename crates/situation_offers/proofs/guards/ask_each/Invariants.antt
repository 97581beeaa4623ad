use Rattle.std.proofs.Common.{map as each, take}
use Rattle.estelle_tree.specs.Paths.{Path}
use Rattle.estelle_model.specs.Situation.{Situation}
use Rattle.situation_offers.specs.Guards.{HaveCounted}
use Rattle.situation_offers.specs.Asked.{MayBeAsked, AreAll}
use Rattle.situation_offers.proofs.guards.ask_each.Given as goal

abbrev pub invariant-loop-part : goal.invariant-loop-part
invariant-loop-part t l = (g : Situation) (system : Path) → MayBeAsked l.program l.shared l.timers g system → AreAll g system (each (λ r. r.now) l.parts)
    → HaveCounted l.program l.budget g system l.now (each (λ r. r.now.path) (take l.part-index l.parts)) l.counts.items l.wanted.items
