use Rattle.std.proofs.Common.{◌≡◌, ◌+◌, drop, length}
use Rattle.std.specs.List.{flat_map}
use Rattle.estelle_model.specs.Denoted.{numbered}
use Rattle.meaning_table.specs.Known.{declare_all}
use Rattle.meaning_table.specs.Kinds.{plainly}
use Rattle.meaning_table.specs.declared.kinds.PlainKind.TheVariants.{Module}
use Rattle.body_table.specs.Contributions.{modvar_names}
use Rattle.body_table.proofs.numbered.declare_modvars.Given as goal

abbrev pub invariant-loop-modvar : goal.invariant-loop-modvar
invariant-loop-modvar l =
    (declare_all l.table (numbered (plainly Module) l.number (flat_map modvar_names (drop l.modvar-index l.modvars)))
    ≡ declare_all l.initial.table (numbered (plainly Module) l.first (flat_map modvar_names l.modvars)))
    × (l.number + length (flat_map modvar_names (drop l.modvar-index l.modvars)) ≡ l.first + length (flat_map modvar_names l.modvars))
