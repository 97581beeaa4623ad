-- What a step leaves as it is.
use Rattle.std.proofs.Common.{◌≡◌, ◌≢◌, ℕ, ◌<◌, Bool, true, false, true≢false, List, [], ◌∷◌, ◌++◌, set, get_or, sym, ap, ◌∙◌, subst}
use Rattle.std.proofs.lemmas.List.{set-get_or}
use Rattle.std.specs.Prelude.{Option}
use mathlib.Core.Option.{some, none, some-injective}
use mathlib.Core.Option as maybe
use lib.ListN.{get_elem?}
use Rattle.atomic_table.specs.Table.{State, keeps, stepped}
use Rattle.atomic_table.proofs.Lists.{set_again, set_else, at_longer}
use Rattle.turn_board.specs.declared.views.Stage.{Stage}
use Rattle.turn_board.specs.declared.views.Stage.TheVariants.{Idle, Drawn, Holds}
use Rattle.turn_board.specs.declared.views.Own.{Own}
use Rattle.turn_board.specs.declared.views.Role.{Role}
use Rattle.turn_board.specs.declared.views.Role.TheVariants.{Opener, Member, Closer, Spent}
use Rattle.turn_board.specs.Rule.{Standing, InStage, StaysLeft, IsAnswered, Fits, IsOut, is_held, Kept}

module _ {V B E : Type 0} where
  -- ---- views

  abbrev holds_turn : Role V B E → Bool
  holds_turn (Opener b m) = false
  holds_turn (Member o) = is_held o.stage
  holds_turn (Closer told) = false
  holds_turn Spent = false

  abbrev own_or : Own V B E → Role V B E → Own V B E
  own_or d (Opener b m) = d
  own_or d (Member o) = o
  own_or d (Closer told) = d
  own_or d Spent = d

  pub member_inj : (o p : Own V B E) → Member o ≡ Member p → o ≡ p
  member_inj o p e = ap (own_or o) e

  -- a seat that has the turn is not one that has not
  pub apart : (views : List (Role V B E)) (i j : ℕ) (a b : Role V B E) → get_elem? views i ≡ some a → get_elem? views j ≡ some b → holds_turn a ≡ true → holds_turn b ≡ false → i ≢ j
  apart views i j a b x y t f e = true≢false (sym t ∙ (ap holds_turn (some-injective a b (sym x ∙ (ap (get_elem? views) e ∙ y))) ∙ f))

  -- the value stays out where a seat that has not the turn takes another view, and where one comes
  pub out_stays : (homes : List (maybe.Option (Option V))) (views : List (Role V B E)) (served id : ℕ) (k w : Role V B E) → get_elem? views id ≡ some k → holds_turn k ≡ false → IsOut served homes views → IsOut served homes (set views id w)
  out_stays homes views served id k w at idle l = (l.0, (l.1.0, set_else views id served w (apart views served id (Member l.1.0) k l.1.1 at l.1.2 idle) ∙ l.1.1, l.1.2))

  pub out_longer : (homes : List (maybe.Option (Option V))) (views : List (Role V B E)) (served : ℕ) (w : Role V B E) → IsOut served homes views → IsOut served homes (views ++ w ∷ [])
  out_longer homes views served w l = (l.0, (l.1.0, at_longer views (w ∷ []) served (Member l.1.0) l.1.1, l.1.2))

-- who has the turn has drawn the ticket that is served
pub held_is : {V E : Type 0} (w : Standing V E) (id : ℕ) (st : Stage E) → is_held st ≡ true → InStage w id st → (w.turn < w.ticket) × (w.owner w.turn ≡ id)
held_is w id Idle e x = absurd (true≢false (sym e))
held_is w id (Drawn t) e x = absurd (true≢false (sym e))
held_is w id (Holds t found) e x = (subst (λ (z : ℕ). z < w.ticket) (sym x.1) x.2, ap w.owner x.1 ∙ x.3)

-- the board with other tickets, or with the value in another place
abbrev pub moved : {V E : Type 0} → Standing V E → ℕ → ℕ → Bool → V → (ℕ → ℕ) → Standing V E
moved w ticket turn out value owner = record { log = w.log; ticket = ticket; turn = turn; made = w.made; out = out; value = value; seat = w.seat; owner = owner }

module _ {V B E : Type 0} (writer_of : E → ℕ) (base : B) where
  -- whichever stage a pass is in
  pub answered_too : (log : List E) (made : ℕ) (seat : ℕ → ℕ) (id : ℕ) (o : Own V B E) (left : Option (ℕ × V)) (st : Stage E) → IsAnswered writer_of base log made seat id o → IsAnswered writer_of base log made seat id (record o { left = left; stage = st })
  answered_too log made seat id o left st x = record { high = x.high; seated = x.seated; agrees = record { base_is = x.agrees.base_is; begins = x.agrees.begins; own_places = x.agrees.own_places; own_seen = x.agrees.own_seen } }

  -- then a seat's facts stay where those of its stage and of what it left do
  pub restage : (w : Standing V E) (ticket turn : ℕ) (out : Bool) (value : V) (owner : ℕ → ℕ) (id : ℕ)
      → ((st : Stage E) → InStage w id st → InStage (moved w ticket turn out value owner) id st)
      → ((left : Option (ℕ × V)) → StaysLeft w left → StaysLeft (moved w ticket turn out value owner) left)
      → (k : Role V B E) → Fits writer_of base w id k → Fits writer_of base (moved w ticket turn out value owner) id k
  restage w ticket turn out value owner id stage stays (Opener b m) f = f
  restage w ticket turn out value owner id stage stays (Member o) f = record { low = f.low; answered = f.answered; stays = stays o.left f.stays; in_stage = stage o.stage f.in_stage }
  restage w ticket turn out value owner id stage stays (Closer told) f = f
  restage w ticket turn out value owner id stage stays Spent f = f

module _ {V B E : Type 0} (base_of : V → B) (entries_of : V → List E) (writer_of : E → ℕ) (passes : ℕ) (base : B) where
  -- nothing changes
  pub unmoved : (s : State (Option V) (Role V B E)) → Kept base_of entries_of writer_of passes base s → (i id : ℕ) (c : List (ℕ × Option V)) (k : Role V B E) → get_elem? s.views id ≡ some k → Kept base_of entries_of writer_of passes base (stepped s i (get_or s.words i 0) id c k keeps)
  unmoved s h i id c k at = subst (Kept base_of entries_of writer_of passes base) (λ z. record { words = sym (set-get_or s.words i 0) z; homes = s.homes; views = sym (set_again s.views id k at) z }) h

  -- a ticket is drawn that is not served yet where the value is out
  pub busy : (s : State (Option V) (Role V B E)) (h : Kept base_of entries_of writer_of passes base s) → h.now.out ≡ true → h.now.turn < h.now.ticket
  busy s h e = let l = h.out e in let f = h.each (h.now.owner h.now.turn) (Member l.1.0) l.1.1 in (held_is h.now (h.now.owner h.now.turn) l.1.0.stage l.1.2 f.in_stage).0
