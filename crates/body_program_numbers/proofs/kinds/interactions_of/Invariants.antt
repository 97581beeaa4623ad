use Rattle.std.proofs.Common.{◌≡◌, ◌++◌, ℕ, take, map}
use Rattle.std.specs.List.{flat_map}
use Rattle.estelle_model.specs.declared.meaning.InteractionKind.{InteractionKind}
use Rattle.body_program_numbers.specs.Numbering.{group_interactions}
use Rattle.body_program_numbers.proofs.kinds.interactions_of.Given as goal

abbrev pub invariant-loop-group : goal.invariant-loop-group
invariant-loop-group l =
    (l.all.places ≡ map (λ (i : ℕ × InteractionKind). i.0) (flat_map (group_interactions l.table.declared) (take l.group-index l.groups)))
    × (l.all.kinds ≡ map (λ (i : ℕ × InteractionKind). i.1) (flat_map (group_interactions l.table.declared) (take l.group-index l.groups)))
