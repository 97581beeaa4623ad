-- The room that is made in the stores, and in the notes.
use Rattle.std.specs.Prelude.{◌≡◌, ◌≤◌, ◌+◌, ℕ, [], length, All, vec_capacity}
use Rattle.effect_log.specs.declared.shared.Shared.{Shared}
use Rattle.effect_log.specs.declared.notes.Notes.{Notes}
use Rattle.effect_log.specs.declared.needs.Needs.{Needs}

pub record StoresHaveRoom (needs : Needs) (shared : Shared) : Type 0 where
  pub instances : needs.instances ≤ shared.tree.spare
  pub links : needs.links ≤ shared.links.spare
  pub items : needs.outputs ≤ shared.queues.spare
  pub points : needs.points ≤ shared.queues.room

pub record NotesHaveRoom (needs : Needs) (most effects : ℕ) (notes : Notes) : Type 0 where
  pub outs : length notes.outs.items + needs.outputs ≤ vec_capacity notes.outs
  pub drops : length notes.drops.items + most ≤ vec_capacity notes.drops
  pub arrivals : length notes.arrivals.items + needs.outputs ≤ vec_capacity notes.arrivals
  pub rooms : needs.outputs ≤ length notes.rooms.items
  pub wide : All (λ room. needs.widest ≤ room) notes.rooms.items
  pub dropped : most ≤ vec_capacity notes.dropped
  pub new_points : needs.points ≤ vec_capacity notes.points
  pub log : effects ≤ vec_capacity notes.log
  pub none_dropped : notes.dropped.items ≡ []
  pub no_points : notes.points.items ≡ []
  pub no_log : notes.log.items ≡ []
