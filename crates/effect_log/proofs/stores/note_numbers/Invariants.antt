use Rattle.std.proofs.Common.{◌≡◌, ◌+◌, ◌≤◌, ◌++◌, map as each, length}
use Rattle.std.specs.Prelude.{reverse, vec_capacity}
use Rattle.estelle_model.specs.declared.image.Interaction.{Interaction}
use Rattle.effect_log.proofs.stores.note_numbers.Given as goal

abbrev pub invariant-loop-interaction : goal.invariant-loop-interaction
invariant-loop-interaction l = record {
  drops : l.drops.items ++ reverse (each (λ (i : Interaction). i.number) l.dropped.items) ≡ l.initial.drops.items ++ reverse (each (λ (i : Interaction). i.number) l.initial.dropped.items);
  room : length l.drops.items + length l.dropped.items ≤ vec_capacity l.drops;
  capacity : vec_capacity l.drops ≡ vec_capacity l.initial.drops;
  space : vec_capacity l.dropped ≡ vec_capacity l.initial.dropped;
}

abbrev pub decreases-loop-interaction : goal.decreases-loop-interaction
decreases-loop-interaction l = length l.dropped.items
