-- What each step on the table tells the seat that makes it: of the step, the seat before, the number that the word had, and the seat after.
use Rattle.std.specs.Prelude.{◌≡◌, ◌≢◌, ℕ, ◌+◌, List, [], ◌∷◌, ◌++◌, Option, Some}
use Rattle.atomic_table.specs.Table.{Me, Step}
use Rattle.turn_board.specs.declared.views.Stage.TheVariants.{Idle, Drawn, Holds}
use Rattle.turn_board.specs.declared.views.Own.{Own}
use Rattle.turn_board.specs.declared.views.Role.{Role}
use Rattle.turn_board.specs.declared.views.Role.TheVariants.{Opener, Member, Closer, Spent}
use Rattle.turn_board.specs.Accounts.{Agrees, FindsLeft, with_stage, new_pass, in_turn, places_beyond}

abbrev pub Sat : Type 0 → Type 0 → Type 0 → Type 0
Sat V B E = Me (Option V) (Role V B E)

module _ {V B E : Type 0} where
  -- the turn that found `found` has come to the list `log`
  abbrev pub grown : Own V B E → ℕ → List E → List E → Own V B E
  grown o ticket found log = record { base = o.base; number = o.number; seen = log; mine = o.mine ++ places_beyond found log; left = o.left; stage = Holds ticket log }

  -- the turn is over, and has left this value
  abbrev pub left_by : Own V B E → ℕ → V → Own V B E
  left_by o ticket value = record o { left = Some (ticket, value); stage = Idle }

  -- draw: the pass has the ticket that the word told, or nothing changed
  abbrev pub drawn : Step (Option V) → Sat V B E → ℕ → Sat V B E → Type 0
  drawn st m r m' = (o : Own V B E) → m.0 ≡ Member o → (r ≡ st.first → m' ≡ (Member (with_stage o (Drawn st.first)), m.1)) × (r ≢ st.first → m' ≡ m)

  -- pass on: the value is given back
  abbrev pub passed : Step (Option V) → Sat V B E → ℕ → Sat V B E → Type 0
  passed st m r m' = (o : Own V B E) (t : ℕ) (found : List E) (v : V) → m.0 ≡ Member o → o.stage ≡ Holds t found → m.1 ≡ (0, Some v) ∷ [] → m' ≡ (Member (left_by o t v), [])

  -- a seat has come that will end passes
  abbrev pub arrived : Step (Option V) → Sat V B E → ℕ → Sat V B E → Type 0
  arrived st m r m' = m'.0 ≡ Closer []

  module _ (entries_of : V → List E) where
    -- count: what the turn added is part of the list
    abbrev pub counted : Step (Option V) → Sat V B E → ℕ → Sat V B E → Type 0
    counted st m r m' = (o : Own V B E) (t : ℕ) (found : List E) (v : V) → m.0 ≡ Member o → o.stage ≡ Holds t found → m.1 ≡ (0, Some v) ∷ [] → m' ≡ (Member (grown o t found (entries_of v)), m.1)

  module _ (base_of : V → B) (entries_of : V → List E) (writer_of : E → ℕ) where
    -- look: where the ticket is served the pass has the value, which goes on from what it shows; else nothing changed
    abbrev pub looked : Step (Option V) → Sat V B E → ℕ → Sat V B E → Type 0
    looked st m r m' = (o : Own V B E) (t : ℕ) → m.0 ≡ Member o → o.stage ≡ Drawn t
        → (r ≡ t → (v : V) × (m' ≡ (Member (in_turn o t (entries_of v)), (0, Some v) ∷ m.1)) × Agrees writer_of o (base_of v) (entries_of v) × FindsLeft o t v) × (r ≢ t → m' ≡ m)

module _ {V B E : Type 0} where
  -- split: one pass more was made
  abbrev pub more_made : Role V B E → Role V B E
  more_made (Opener base made) = Opener base (made + 1)
  more_made k = k

  abbrev pub next_pass : Role V B E → Role V B E
  next_pass (Opener base made) = Member (new_pass base (made + 1))
  next_pass k = Spent

  -- join: the pass is ended
  abbrev pub ended : Role V B E → Role V B E → Role V B E
  ended (Closer told) (Member o) = Closer (o ∷ told)
  ended k _ = k
