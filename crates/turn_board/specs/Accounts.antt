-- What passes show of a board: entries that only grow, and which of them are whose.
use Rattle.std.specs.Prelude.{◌≡◌, ℕ, ◌==◌, ◌+◌, ◌-◌, if◌then◌else◌, List, [], ◌∷◌, ◌++◌, length, All, Some, None, IfSome}
use Rattle.std.specs.List.{range_with_len}
use Rattle.turn_board.specs.declared.views.Stage.{Stage}
use Rattle.turn_board.specs.declared.views.Stage.TheVariants.{Idle, Drawn, Holds}
use Rattle.turn_board.specs.declared.views.Own.{Own}

-- ---- entries

-- the list begins with what was seen
abbrev pub StartsWith : {E : Type 0} → List E → List E → Type 0
StartsWith {E} log seen = (rest : List E) × (log ≡ seen ++ rest)

-- the places of the entries of one writer, where the first entry has the place `at`
abbrev pub places_by : {E : Type 0} → (E → ℕ) → ℕ → ℕ → List E → List ℕ
places_by writer number at [] = []
places_by writer number at (e ∷ es) = if writer e == number then at ∷ places_by writer number (at + 1) es else places_by writer number (at + 1) es

-- the places of what a list has beyond the entries that were found
abbrev pub places_beyond : {E : Type 0} → List E → List E → List ℕ
places_beyond found log = range_with_len (length found) (length log - length found)

-- the entries that a turn found
abbrev pub found_in : {E : Type 0} → Stage E → List E
found_in Idle = []
found_in (Drawn ticket) = []
found_in (Holds ticket found) = found

-- ---- passes

module _ {V B E : Type 0} where
  abbrev pub with_stage : Own V B E → Stage E → Own V B E
  with_stage o stage = record o { stage = stage }

  -- a pass that has had no turn
  abbrev pub new_pass : B → ℕ → Own V B E
  new_pass base number = record { base = base; number = number; seen = []; mine = []; left = None; stage = Idle }

  -- the pass in a turn that found these entries
  abbrev pub in_turn : Own V B E → ℕ → List E → Own V B E
  in_turn o ticket found = with_stage o (Holds ticket found)

  -- the pass after a turn that found these entries, and left that value with these
  abbrev pub after_turn : Own V B E → ℕ → List E → V → List E → Own V B E
  after_turn o ticket found value log = record { base = o.base; number = o.number; seen = log; mine = o.mine ++ places_beyond found log; left = Some (ticket, value); stage = Idle }

  -- A value with this fixed part and list goes on from what the pass shows: the list begins with what it has seen, and of its number has the entries that its turns added, no others.
  pub record Agrees (writer_of : E → ℕ) (o : Own V B E) (base : B) (log : List E) : Type 0 where
    pub base_is : base ≡ o.base
    pub begins : StartsWith log o.seen
    pub own_places : o.mine ≡ places_by writer_of o.number 0 log
    pub own_seen : o.mine ≡ places_by writer_of o.number 0 o.seen

  -- a turn that comes next after the pass's last one finds the value that it left
  abbrev pub FindsLeft : Own V B E → ℕ → V → Type 0
  FindsLeft o ticket value = IfSome o.left (λ last. ticket ≡ last.0 + 1 → value ≡ last.1)

  -- a whole turn of the pass `o`: it found these entries and added those of its number, and left the pass `now`
  pub record Turned (writer_of : E → ℕ) (o : Own V B E) (found added : List E) (now : Own V B E) : Type 0 where
    pub agrees : Agrees writer_of o o.base found
    pub own_entries : All (λ e. writer_of e ≡ o.number) added
    pub base_stays : now.base ≡ o.base
    pub number_stays : now.number ≡ o.number
    pub seen : now.seen ≡ found ++ added
    pub mine : now.mine ≡ o.mine ++ range_with_len (length found) (length added)
    pub idle : now.stage ≡ Idle
