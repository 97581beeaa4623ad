-- What clauses within the crate say of the table and its seats.
use Rattle.std.specs.Prelude.{◌≡◌, ℕ, List, map, All}
use Rattle.std.specs.List.{range_with_len}
use Rattle.atomic_table.specs.Seated.{TableId}
use Rattle.atomic_table.specs.declared.shared.Seat.{Seat}
use Rattle.turn_board.specs.declared.pass.PassOf.{PassOf}
use Rattle.turn_board.specs.declared.views.Stage.TheVariants.{Idle}
use Rattle.turn_board.specs.Accounts.{new_pass}
use Rattle.turn_board.specs.Rule.{own_of}

-- three words and one slot
abbrev pub IsSized : TableId → Type 0
IsSized z = (z.words ≡ 3) × (z.slots ≡ 1)

-- it is the same seat
abbrev pub IsSameSeat : {S V : Type 0} → Seat S V → Seat S V → Type 0
IsSameSeat a b = (b.table_id ≡ a.table_id) × (b.id ≡ a.id)

-- it is a pass at this table, and has no turn
abbrev pub IsIdleAt : {V B E : Type 0} → TableId → PassOf V B E → Type 0
IsIdleAt name p = (p.seat.table_id ≡ name) × ((own_of p.seat.me.0 p.member).stage ≡ Idle)

-- these are the passes at a table with the numbers from 1 to n, which have had no turn
abbrev pub AreNew : {V B E : Type 0} → TableId → B → ℕ → List (PassOf V B E) → Type 0
AreNew name base n ps = All (λ p. p.seat.table_id ≡ name) ps × (map (λ p. own_of p.seat.me.0 p.member) ps ≡ map (new_pass base) (range_with_len 1 n))
