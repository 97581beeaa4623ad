use Rattle.std.specs.Prelude.{IfSome}
use Rattle.estelle_tree.specs.Paths.{Path}
use Rattle.estelle_model.specs.Situation.{Situation}
use Rattle.situation_offers.specs.Guards.{AreCountedTo}
use Rattle.situation_offers.specs.Asked.{MayBeAsked, IsAt, IsImageOf}
use Rattle.situation_offers.proofs.guards.count_all.Given as goal

-- the transitions so far are counted, and what is held of the private part is that of the instance
abbrev pub invariant-loop-index : goal.invariant-loop-index
invariant-loop-index t l = (g : Situation) (system : Path) → MayBeAsked l.program l.shared l.timers g system → IsAt g system l.part
    → AreCountedTo l.program l.budget g system l.now l.part.path l.index l.counted.items l.fn.wanted.items l.wanted.items × IfSome l.held (IsImageOf l.program g l.part.path)
