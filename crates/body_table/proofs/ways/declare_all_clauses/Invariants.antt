use Rattle.std.proofs.Common.{◌≡◌, take}
use Rattle.std.specs.List.{flat_map}
use Rattle.estelle_model.specs.Definitions.{clause_declares}
use Rattle.estelle_model.specs.Bodies.{clauses}
use Rattle.meaning_table.specs.Known.{declare_all}
use Rattle.body_table.proofs.ways.declare_all_clauses.Given as goal

abbrev pub invariant-loop-trans : goal.invariant-loop-trans
invariant-loop-trans l = l.table ≡ declare_all l.initial.table (flat_map (λ t. flat_map clause_declares (clauses t.body)) (take l.trans-index l.transitions))
