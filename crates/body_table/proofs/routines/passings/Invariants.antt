use Rattle.std.proofs.Common.{◌≡◌, take}
use Rattle.std.specs.List.{flat_map}
use Rattle.estelle_model.specs.Definitions.{passings}
use Rattle.meaning_table.specs.Known.{meanings_of}
use Rattle.body_table.proofs.routines.passings.Given as goal

abbrev pub invariant-loop-formal : goal.invariant-loop-formal
invariant-loop-formal l = l.passings ≡ flat_map (passings (meanings_of l.table)) (take l.formal-index l.formals)
