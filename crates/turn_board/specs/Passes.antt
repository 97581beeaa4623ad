-- The words in which contracts speak of boards, passes and turns.
use Rattle.std.specs.Prelude.{◌≡◌, ℕ, ◌<◌, ◌≤◌, List, length, map, All, Contains}
use Rattle.atomic_table.specs.Seated.{TableId}
use Rattle.turn_board.specs.declared.views.Own.{Own}
use Rattle.turn_board.specs.declared.views.Stage.TheVariants.{Idle, Holds}
use Rattle.turn_board.specs.declared.pass.PassOf.{PassOf}
use Rattle.turn_board.specs.declared.board.Board.{Board}
use Rattle.turn_board.specs.declared.turns.Turn.{Turn}
use Rattle.turn_board.specs.Rule.{own_of}
use Rattle.turn_board.specs.Seats.{AreNew}
pub use Rattle.turn_board.specs.Accounts.{StartsWith, places_by, places_beyond, new_pass, in_turn, after_turn, Agrees, FindsLeft, Turned}
use Rattle.turn_board.specs.Accounts.{found_in}

-- ---- passes

module _ {V B E : Type 0} where
  -- what the pass shows
  abbrev pub own : PassOf V B E → Own V B E
  own p = own_of p.seat.me.0 p.member

  abbrev pub number_of : PassOf V B E → ℕ
  number_of p = (own p).number

  -- it has no turn
  abbrev pub IsIdle : PassOf V B E → Type 0
  IsIdle p = (own p).stage ≡ Idle

  -- the entries that its turn found
  abbrev pub found_of : PassOf V B E → List E
  found_of p = found_in (own p).stage

  -- the name of its board
  abbrev pub board_of : PassOf V B E → TableId
  board_of p = p.seat.table_id

-- ---- boards

module _ {V B E : Type 0} where
  -- the name of a board
  abbrev pub name_of : Board V B E → TableId
  name_of b = b.table.shared.table_id

  -- how many passes the board has
  abbrev pub passes_of : Board V B E → ℕ
  passes_of b = b.table.shared.key.passes

  -- the value that the board was set up with
  abbrev pub first_of : Board V B E → V
  first_of b = b.table.shared.key.value.value

  -- it is a pass of this board
  abbrev pub IsOf : Board V B E → PassOf V B E → Type 0
  IsOf b p = board_of p ≡ name_of b

  -- these are the passes of the board with the numbers from 1 to n, which have had no turn
  abbrev pub AreNewOf : Board V B E → B → ℕ → List (PassOf V B E) → Type 0
  AreNewOf b base n ps = AreNew (name_of b) base n ps

  -- these are all passes of the board, and none has a turn
  pub record AreAllOf (b : Board V B E) (ps : List (PassOf V B E)) : Type 0 where
    pub of_board : All (IsOf b) ps
    pub idle : All IsIdle ps
    pub all : (number : ℕ) → 0 < number → number ≤ passes_of b → Contains (map number_of ps) number

-- ---- turns

module _ {V B E : Type 0} where
  abbrev pub value_of : Turn V B E → V
  value_of t = t.value

  abbrev pub with_value : Turn V B E → V → Turn V B E
  with_value t v = record t { value = v }

  abbrev pub ticket_of : Turn V B E → ℕ
  ticket_of t = t.ticket

  -- it is the turn that the pass has
  abbrev pub IsTurnOf : Turn V B E → PassOf V B E → Type 0
  IsTurnOf t p = (board_of p ≡ name_of t.board.now) × ((own p).stage ≡ Holds t.ticket (found_of p)) × (length (found_of p) ≡ t.began)
