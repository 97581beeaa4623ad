use Rattle.std.proofs.Common.{◌≡◌, ◌+◌, ◌≤◌, length}
use Rattle.std.specs.Prelude.{reverse, vec_capacity}
use Rattle.effect_log.specs.Underway.{declared_all, AllFresh}
use Rattle.effect_log.proofs.stores.declare_all.Given as goal

abbrev pub invariant-loop-point : goal.invariant-loop-point
invariant-loop-point g l = record {
  fresh : AllFresh (g.D.Disciplines.subject l.disciplines) l.body (reverse l.points.items) l.queues.queues;
  queues : declared_all (g.D.Disciplines.subject l.disciplines) l.body (reverse l.points.items) l.queues.queues
      ≡ declared_all (g.D.Disciplines.subject l.initial.disciplines) l.body (reverse l.initial.points.items) l.initial.queues.queues;
  room : length l.points.items ≤ l.queues.room;
  taken : l.initial.queues.room + length l.points.items ≤ l.queues.room + length l.initial.points.items;
  spare : l.queues.spare ≡ l.initial.queues.spare;
  capacity : vec_capacity l.points ≡ vec_capacity l.initial.points;
}

abbrev pub decreases-loop-point : goal.decreases-loop-point
decreases-loop-point g l = length l.points.items
