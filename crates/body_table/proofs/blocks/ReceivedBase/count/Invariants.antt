use Rattle.std.proofs.Common.{◌≡◌, length, map, take}
use Rattle.meaning_table.specs.Known.{meanings_of}
use Rattle.body_table.specs.Received.{types_of}
use Rattle.body_table.proofs.blocks.ReceivedBase.count.Given as goal

abbrev pub invariant-loop-interaction : goal.invariant-loop-interaction
invariant-loop-interaction l = l.count ≡ length (types_of (meanings_of l.table) (map (λ x. x.now) (take l.interaction-index l.interaction-items)))
