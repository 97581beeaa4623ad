-- The rule of the board's table: what holds of its words, its slot and its seats between any two steps.
-- Word 0 is the next ticket to be drawn, word 1 the ticket that is served, and word 2 the number of entries. The one slot has the value, unless the pass that is served has it.
use Rattle.std.specs.Prelude.{◌≡◌, ℕ, ◌==◌, ◌+◌, ◌^◌, ◌<◌, ◌≤◌, Bool, true, false, ◌&&◌, List, [], ◌∷◌, length, All, Option, Some, None, IfSome}
use Rattle.std.proofs.Common.{true≢false, sym}
use mathlib.Core.Option.{some, none}
use mathlib.Core.Option as maybe
use lib.ListN.{get_elem?}
use Rattle.atomic_table.specs.Table.{State, Me}
use Rattle.turn_board.specs.declared.views.Stage.{Stage}
use Rattle.turn_board.specs.declared.views.Stage.TheVariants.{Idle, Drawn, Holds}
use Rattle.turn_board.specs.declared.views.Own.{Own}
use Rattle.turn_board.specs.declared.views.Role.{Role}
use Rattle.turn_board.specs.declared.views.Role.TheVariants.{Opener, Member, Closer, Spent}
use Rattle.turn_board.specs.Accounts.{Agrees}

-- where a board stands: its entries, its tickets, its passes and its value
pub record Standing (V E : Type 0) : Type 0 where
  pub log : List E
  -- the next ticket to be drawn, and the ticket that is served
  pub ticket : ℕ
  pub turn : ℕ
  -- how many passes were made
  pub made : ℕ
  -- whether a pass has the value, and the value that was left last
  pub out : Bool
  pub value : V
  -- the seat that answers for the pass of a number, and the seat that drew a ticket
  pub seat : ℕ → ℕ
  pub owner : ℕ → ℕ

-- ---- what holds of the seat with a number

module _ {V E : Type 0} where
  -- a ticket that was drawn and not served is the seat's own; one that is served is the turn's
  abbrev pub InStage : Standing V E → ℕ → Stage E → Type 0
  InStage w id Idle = Unit {0}
  InStage w id (Drawn t) = (w.turn ≤ t) × (t < w.ticket) × (w.owner t ≡ id)
  InStage w id (Holds t found) = (w.out ≡ true) × (w.turn ≡ t) × (t < w.ticket) × (w.owner t ≡ id) × (found ≡ w.log)

  -- the value that a pass left is still there where no turn came since
  abbrev pub StaysLeft : Standing V E → Option (ℕ × V) → Type 0
  StaysLeft w left = IfSome left (λ last. (last.0 < w.turn) × (w.turn ≡ last.0 + 1 → w.out ≡ false → w.value ≡ last.1))

-- of a pass for which the seat answers, be it in use or ended
module _ {V B E : Type 0} (writer_of : E → ℕ) (base : B) (log : List E) (made : ℕ) (seat : ℕ → ℕ) (id : ℕ) where
  pub record IsAnswered (o : Own V B E) : Type 0 where
    pub high : o.number ≤ made
    pub seated : seat o.number ≡ id
    pub agrees : Agrees writer_of o base log

  abbrev pub AreAnswered : List (Own V B E) → Type 0
  AreAnswered [] = Unit {0}
  AreAnswered (o ∷ os) = IsAnswered o × AreAnswered os

module _ {V B E : Type 0} (writer_of : E → ℕ) (base : B) (w : Standing V E) (id : ℕ) where
  -- of a pass in use
  pub record IsInUse (o : Own V B E) : Type 0 where
    pub low : 0 < o.number
    pub answered : IsAnswered writer_of base w.log w.made w.seat id o
    pub stays : StaysLeft w o.left
    pub in_stage : InStage w id o.stage

  abbrev pub Fits : Role V B E → Type 0
  Fits (Opener b made) = (b ≡ base) × (id ≡ 0) × (made ≡ w.made)
  Fits (Member o) = IsInUse o
  Fits (Closer ended) = AreAnswered writer_of base w.log w.made w.seat id ended
  Fits Spent = Unit {0}

-- ---- where the value is

abbrev pub is_held : {E : Type 0} → Stage E → Bool
is_held Idle = false
is_held (Drawn ticket) = false
is_held (Holds ticket found) = true

-- it lies in the slot
abbrev pub IsHome : {V B E : Type 0} → (V → B) → (V → List E) → B → List E → V → List (maybe.Option (Option V)) → Type 0
IsHome base_of entries_of base log value homes = (homes ≡ some (Some value) ∷ []) × (base_of value ≡ base) × (entries_of value ≡ log)

-- the seat that is served has it
abbrev pub IsOut : {V B E : Type 0} → ℕ → List (maybe.Option (Option V)) → List (Role V B E) → Type 0
IsOut {V} {B} {E} served homes views = (homes ≡ none ∷ []) × ((o : Own V B E) × (get_elem? views served ≡ some (Member o)) × (is_held o.stage ≡ true))

-- ---- the rule

module _ {V B E : Type 0} (base_of : V → B) (entries_of : V → List E) (writer_of : E → ℕ) (passes : ℕ) (base : B) where
  pub record Kept (s : State (Option V) (Role V B E)) : Type 0 where
    pub now : Standing V E
    pub words : s.words ≡ now.ticket ∷ now.turn ∷ length now.log ∷ []
    pub small : now.ticket < 2 ^ 64
    pub served : now.turn ≤ now.ticket
    pub at_most : now.made ≤ passes
    pub writers : All (λ e. writer_of e ≤ now.made) now.log
    pub home : now.out ≡ false → IsHome base_of entries_of base now.log now.value s.homes
    pub out : now.out ≡ true → IsOut (now.owner now.turn) s.homes s.views
    pub each : (id : ℕ) (k : Role V B E) → get_elem? s.views id ≡ some k → Fits writer_of base now id k

-- the first seat, which makes the passes
abbrev pub opener : {V B E : Type 0} → B → Role V B E
opener base = Opener base 0

-- ---- what a pass has at its seat

module _ {V B E : Type 0} where
  abbrev pub is_member : Role V B E → Bool
  is_member (Opener base made) = false
  is_member (Member o) = true
  is_member (Closer ended) = false
  is_member Spent = false

  abbrev pub own_of : (k : Role V B E) → is_member k ≡ true → Own V B E
  own_of (Opener base made) h = absurd (true≢false (sym h))
  own_of (Member o) h = o
  own_of (Closer ended) h = absurd (true≢false (sym h))
  own_of Spent h = absurd (true≢false (sym h))

-- with no turn it carries no slot, and in its turn the one slot, whose value is out
abbrev pub carries : {V E : Type 0} → Stage E → List (ℕ × Option V) → Bool
carries Idle [] = true
carries Idle (x ∷ xs) = false
carries (Drawn ticket) xs = false
carries (Holds ticket found) [] = false
carries (Holds ticket found) ((k, None) ∷ []) = k == 0
carries (Holds ticket found) ((k, Some v) ∷ xs) = false
carries (Holds ticket found) ((k, None) ∷ x ∷ xs) = false

-- the seat is that of the pass with this number, between two calls
abbrev pub is_ready : {V B E : Type 0} → ℕ → Me (Option V) (Role V B E) → Bool
is_ready number (Member o, carried) = (o.number == number) && carries o.stage carried
is_ready number _ = false
