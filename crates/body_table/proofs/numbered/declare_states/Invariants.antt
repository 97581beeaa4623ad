use Rattle.std.proofs.Common.{◌≡◌, drop}
use Rattle.std.specs.List.{flat_map}
use Rattle.estelle_model.specs.Denoted.{numbered}
use Rattle.meaning_table.specs.Known.{declare_all}
use Rattle.meaning_table.specs.Kinds.{plainly}
use Rattle.meaning_table.specs.declared.kinds.PlainKind.TheVariants.{State}
use Rattle.body_table.specs.Contributions.{states_of}
use Rattle.body_table.proofs.numbered.declare_states.Given as goal

abbrev pub invariant-loop-decl : goal.invariant-loop-decl
invariant-loop-decl l =
    (declare_all l.table (numbered (plainly State) l.number (flat_map states_of (drop l.decl-index l.decls)))
    ≡ declare_all l.initial.table (numbered (plainly State) 0 (flat_map states_of l.decls)))
