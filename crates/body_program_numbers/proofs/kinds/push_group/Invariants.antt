use Rattle.std.proofs.Common.{◌≡◌, ◌++◌, ℕ, take, map}
use Rattle.std.specs.List.{flat_map}
use Rattle.estelle_model.specs.declared.meaning.InteractionKind.{InteractionKind}
use Rattle.body_program_numbers.specs.Numbering.{interaction_at}
use Rattle.body_program_numbers.proofs.kinds.push_group.Given as goal

abbrev pub invariant-loop-inter : goal.invariant-loop-inter
invariant-loop-inter l =
    (l.out.places ≡ l.initial.out.places ++ map (λ (i : ℕ × InteractionKind). i.0) (flat_map (interaction_at l.table.declared) (take l.inter-index l.inters)))
    × (l.out.kinds ≡ l.initial.out.kinds ++ map (λ (i : ℕ × InteractionKind). i.1) (flat_map (interaction_at l.table.declared) (take l.inter-index l.inters)))
