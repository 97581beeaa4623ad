use Rattle.std.proofs.Common.{◌≡◌, take}
use Rattle.meaning_table.specs.Known.{meanings_of}
use Rattle.estelle_model.specs.Bodies.{states_named}
use Rattle.flat_transitions.proofs.naming.Naming.states_named.Given as goal

abbrev pub invariant-loop-name : goal.invariant-loop-name
invariant-loop-name l = record {
  stays : l.self ≡ l.initial.self;
  gathered : l.gathered ≡ states_named (meanings_of l.initial.self) (take l.name-index l.names);
}
