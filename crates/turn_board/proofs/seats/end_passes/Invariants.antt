use Rattle.std.proofs.Common.{◌≡◌, List, [], ◌++◌, map}
use Rattle.std.specs.Prelude.{vec_len, All}
use Rattle.turn_board.specs.Passes.{own}
use Rattle.turn_board.specs.declared.views.Own.{Own}
use Rattle.turn_board.specs.declared.views.Role.TheVariants.{Closer}
use Rattle.turn_board.specs.Seats.{IsIdleAt}
use Rattle.turn_board.proofs.seats.end_passes.Given as goal

abbrev pub invariant-loop-pass : goal.invariant-loop-pass
invariant-loop-pass g l = (l.closer.table_id ≡ l.initial.closer.table_id)
    × ((told : List (Own g.row.V.Denot g.row.V-Base.Denot g.row.V-Entry.Denot)) × (l.closer.me ≡ (Closer told, [])) × (map own l.passes.items ++ told ≡ map own l.initial.passes.items))
    × All (IsIdleAt l.top.table_id) l.passes.items

abbrev pub decreases-loop-pass : goal.decreases-loop-pass
decreases-loop-pass g l = vec_len l.passes
