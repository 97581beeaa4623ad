use Rattle.std.proofs.Common.{◌≡◌, [], length}
use Rattle.std.specs.Prelude.{vec_capacity}
use Rattle.turn_board.specs.Seats.{AreNew}
use Rattle.turn_board.specs.declared.views.Role.TheVariants.{Opener}
use Rattle.turn_board.proofs.seats.make_passes.Given as goal

abbrev pub invariant-loop-i : goal.invariant-loop-i
invariant-loop-i g l = record {
  table : l.opener_seat.table_id ≡ l.initial.opener_seat.table_id;
  view : l.opener_seat.me ≡ (Opener (g.V.Recorded.base l.top.key.value.value) l.i, []);
  count : length l.passes.items ≡ l.i;
  room : vec_capacity l.passes ≡ vec_capacity l.initial.passes;
  new : AreNew l.top.table_id (g.V.Recorded.base l.top.key.value.value) l.i l.passes.items;
}
