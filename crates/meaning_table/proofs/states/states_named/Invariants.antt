use Rattle.std.proofs.Common.{◌≡◌, take}
use Rattle.estelle_model.specs.Bodies.{states_named}
use Rattle.meaning_table.specs.Known.{meanings_of}
use Rattle.meaning_table.proofs.states.states_named.Given as goal

abbrev pub invariant-loop-name : goal.invariant-loop-name
invariant-loop-name l = l.numbers ≡ states_named (meanings_of l.table) (take l.name-index l.names)
