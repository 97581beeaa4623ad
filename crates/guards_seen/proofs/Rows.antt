-- Rows of enabled transitions: when they are right, and how long they stay so.
use Rattle.std.proofs.Common.{◌≡◌, ℕ, Bool, true, false, not, List, [], ◌∷◌, filter, Option, Some, None, refl, sym, ap, subst, cond, ◌∙◌, inl, inr}
use Rattle.std.specs.Prelude.{Contains, unwrap_or}
use Rattle.std.specs.Str.{bytes_eq}
use Rattle.std.specs.FinMap as map
use Rattle.std.specs.Ordering.{eq_by_cmp}
use Rattle.estelle_tree.specs.Paths.{Path, path_cmp}
use Rattle.estelle_tree.specs.Timers.{pair}
use Rattle.estelle_model.specs.declared.job.Guard.TheVariants.{Off, Faulted}
use Rattle.estelle_model.specs.Core.{Instance}
use Rattle.estelle_model.specs.Transitions.{When, Transition}
use Rattle.estelle_model.specs.Subject.{Subject, transition}
use Rattle.estelle_model.specs.Situation.{Situation}
use Rattle.estelle_model.specs.Queues.{found}
use Rattle.estelle_model.specs.Firing.{transition_at, guard_of, guard_at, guard}
use Rattle.estelle_model.specs.Delays.{is_on}
use Rattle.estelle_model.specs.Runs.{next}
use Rattle.estelle_model.specs.Jobs.{found_by}
use Rattle.estelle_model.proofs.Maps.{total, apart, equal_of}
use Rattle.estelle_model.proofs.Members.{Among, among, contained, among_filter}
use Rattle.estelle_model_legality.specs.Situations.{IsLegal}
use Rattle.estelle_model_legality.proofs.Keeping.{events_keep}
use Rattle.estelle_model_legality.proofs.Lookups.{same_itself}
use Rattle.estelle_model_legality.proofs.Lists.{same_path, not_true, not_both}
use Rattle.guards_seen.specs.Quiet.{IsQuiet}
use Rattle.guards_seen.specs.Seen.{HoldsOwnChildren, IsUntouched}
use Rattle.guards_seen.specs.Offers.{numbers, enabled, NoneFaults, Rows, row_at, with_row, unmarked, AreKnown, IsFresh}
use Rattle.guards_seen.specs.Laws.{OffersBecomeFresh, RowsStay, IsKept, OffersStayFresh}
use Rattle.guards_seen.proofs.Guards.{guards_see_their_own}

-- ---- rows

row_of : (rows : Rows) (q : Path) (row : List ℕ) (p : Path) → row_at (with_row rows q row) p ≡ cond (eq_by_cmp path_cmp p q) row (row_at rows p)
row_of rows q [] p = ap (λ o. unwrap_or o []) (map.get-remove total rows q p) ∙ by (eq_by_cmp path_cmp p q)
  where
    by : (b : Bool) → unwrap_or (cond b None (map.get rows p)) [] ≡ cond b [] (row_at rows p)
    by true = refl
    by false = refl
row_of rows q (n ∷ ns) p = ap (λ o. unwrap_or o []) (map.get-insert total rows q (n ∷ ns) p) ∙ by (eq_by_cmp path_cmp p q)
  where
    by : (b : Bool) → unwrap_or (cond b (Some (n ∷ ns)) (map.get rows p)) [] ≡ cond b (n ∷ ns) (row_at rows p)
    by true = refl
    by false = refl

-- a path is that of the row, or another, whose row and mark stay
stays_marked : (q p : Path) (marked : List Path) → bytes_eq q p ≡ false → Among p marked → Among p (unmarked q marked)
stays_marked q p [] e h = absurd h
stays_marked q p (m ∷ ms) e h = by (bytes_eq q m) refl h (stays_marked q p ms e)
  where
    by : (b : Bool) → bytes_eq q m ≡ b → Among p (m ∷ ms) → (Among p ms → Among p (unmarked q ms)) → Among p (cond (not b) (m ∷ unmarked q ms) (unmarked q ms))
    by true f (inl i) more = absurd (not_both (bytes_eq q m) f (ap (bytes_eq q) i ∙ e))
    by true f (inr i) more = more i
    by false f (inl i) more = inl i
    by false f (inr i) more = inr (more i)

module _ (s : Subject) (budget : ℕ) (g : Situation) where
  -- what is enabled is there
  on_of : (q : Path) (i : Instance) (o : Option Transition) (timed : Bool) → is_on (guard_of s budget g q timed i o) ≡ true → (t : Transition) × (o ≡ Some t)
  on_of q i None timed on = absurd (cc)
  on_of q i (Some t) timed on = (t, refl)

  on_at : (q : Path) (n : ℕ) (o : Option Instance) → is_on (guard_at s budget g q n o) ≡ true → (t : Transition) × (transition_at s n o ≡ Some t)
  on_at q n None on = absurd (cc)
  on_at q n (Some i) on = on_of q i (transition s i.body n) (map.contains_key g.timers (pair q n)) on

  enabled_there : (q : Path) (n : ℕ) → Contains (enabled s budget g q) n → (t : Transition) × (transition_at s n (map.get g.core.instances q) ≡ Some t)
  enabled_there q n h =
      let found = among_filter (λ k. is_on (guard s budget g q k)) (numbers s (map.get g.core.instances q)) n (among (enabled s budget g q) n h) in
      on_at q n (map.get g.core.instances q) found.1

  -- an instance that is not there has no enabled transition, and no guard that faults
  none_enabled : (q : Path) → map.get g.core.instances q ≡ None → enabled s budget g q ≡ []
  none_enabled q e = ap (λ o. filter (λ k. is_on (guard s budget g q k)) (numbers s o)) e

  none_faults : (q : Path) → map.get g.core.instances q ≡ None → NoneFaults s budget g q
  none_faults q e n kind f = let off : Off ≡ Faulted kind = sym (ap (guard_at s budget g q n) e) ∙ f in cc

-- ---- after all guards of an instance are evaluated

pub offers_become_fresh : OffersBecomeFresh
offers_become_fresh s budget g rows marked fresh q sound = record {
  known = λ p n h. by_known p n (eq_by_cmp path_cmp p q) refl (subst (λ (xs : List ℕ). Contains xs n) (row_of rows q row p) h);
  right = λ p h. row_of rows q row p ∙ by_right p h (eq_by_cmp path_cmp p q) refl;
  sound = λ p h. by_sound p h (eq_by_cmp path_cmp p q) refl;
}
  where
    row : List ℕ
    row = enabled s budget g q

    same : (p : Path) → eq_by_cmp path_cmp p q ≡ true → p ≡ q
    same p e = apart p q (equal_of (path_cmp p q) e)

    -- another path that is not marked now was not marked before
    before : (p : Path) → eq_by_cmp path_cmp p q ≡ false → (Contains (unmarked q marked) p → ⊥) → Contains marked p → ⊥
    before p e h c =
        let other : bytes_eq q p ≡ false = not_true (bytes_eq q p) (λ f. not_both (eq_by_cmp path_cmp p q) (ap (λ (x : Path). eq_by_cmp path_cmp x q) (sym (same_path q p f)) ∙ same_itself q) e) in
        h (contained (unmarked q marked) p (stays_marked q p marked other (among marked p c)))

    by_known : (p : Path) (n : ℕ) (b : Bool) → eq_by_cmp path_cmp p q ≡ b → Contains (cond b row (row_at rows p)) n → (t : Transition) × (transition_at s n (map.get g.core.instances p) ≡ Some t)
    by_known p n true e h = enabled_there s budget g p n (subst (λ (x : Path). Contains (enabled s budget g x) n) (sym (same p e)) h)
    by_known p n false e h = fresh.known p n h

    by_right : (p : Path) → (Contains (unmarked q marked) p → ⊥) → (b : Bool) → eq_by_cmp path_cmp p q ≡ b → cond b row (row_at rows p) ≡ enabled s budget g p
    by_right p h true e = ap (enabled s budget g) (sym (same p e))
    by_right p h false e = fresh.right p (before p e h)

    by_sound : (p : Path) → (Contains (unmarked q marked) p → ⊥) → (b : Bool) → eq_by_cmp path_cmp p q ≡ b → NoneFaults s budget g p
    by_sound p h true e = subst (NoneFaults s budget g) (sym (same p e)) sound
    by_sound p h false e = fresh.sound p (before p e h)

-- ---- after an event

module _ (s : Subject) (quiet : IsQuiet s) (budget : ℕ) (g h : Situation) (legal : IsLegal s g) (legal_after : IsLegal s h) where
  own_children : (q : Path) → HoldsOwnChildren g q
  own_children q i v held there is = let c = legal.instances.holds q i v (Some held) there is in (c.0, c.2)

  found_same : (q : Path) → IsUntouched s g h q → (o : Option Transition) → found_by s h q o ≡ found_by s g q o
  found_same q same None = refl
  found_same q same (Some t) = by t.when
    where
      by : (w : Option When) → found s h q w ≡ found s g q w
      by None = refl
      by (Some w) = same.heads w

  guard_stays : (q : Path) → IsUntouched s g h q → (n : ℕ) → guard s budget h q n ≡ guard s budget g q n
  guard_stays q same n = guards_see_their_own s quiet budget g h q n (legal_after.types ∙ sym legal.types) (own_children q)
      (record { records = same.records; head = found_same q same (transition_at s n (map.get g.core.instances q)); timed = same.timers n })

  filter_same : (f k : ℕ → Bool) → ((n : ℕ) → f n ≡ k n) → (ns : List ℕ) → filter f ns ≡ filter k ns
  filter_same f k e ns = λ i. filter (λ n. e n i) ns

  enabled_stay : (q : Path) → IsUntouched s g h q → enabled s budget h q ≡ enabled s budget g q
  enabled_stay q same =
      filter_same (λ n. is_on (guard s budget h q n)) (λ n. is_on (guard s budget g q n)) (λ n. ap is_on (guard_stays q same n)) (numbers s (map.get h.core.instances q))
      ∙ ap (λ o. filter (λ n. is_on (guard s budget g q n)) (numbers s o)) same.records.own

  faults_stay : (q : Path) → IsUntouched s g h q → NoneFaults s budget g q → NoneFaults s budget h q
  faults_stay q same none n kind e = none n kind (sym (guard_stays q same n) ∙ e)

  stay_fresh : (rows : Rows) (marked : List Path) → IsFresh s budget g rows marked → (after : Rows) (marks : List Path) → AreKnown s h after → ((q : Path) → (Contains marks q → ⊥) → IsKept s g h rows marked after q) → IsFresh s budget h after marks
  stay_fresh rows marked fresh after marks known kept = record {
    known = known;
    right = λ q u. by_right q (kept q u);
    sound = λ q u. by_sound q (kept q u);
  }
    where
      by_right : (q : Path) → IsKept s g h rows marked after q → row_at after q ≡ enabled s budget h q
      by_right q (inl k) = k.2 ∙ fresh.right q k.0 ∙ sym (enabled_stay q k.1)
      by_right q (inr k) = k.1 ∙ sym (none_enabled s budget h q k.0)

      by_sound : (q : Path) → IsKept s g h rows marked after q → NoneFaults s budget h q
      by_sound q (inl k) = faults_stay q k.1 (fresh.sound q k.0)
      by_sound q (inr k) = none_faults s budget h q k.0

pub rows_stay : RowsStay
rows_stay s quiet leads budget g legal e applies q same =
    let after = events_keep s leads budget g legal e applies in
    (enabled_stay s quiet budget g (next s budget g e) legal after q same, faults_stay s quiet budget g (next s budget g e) legal after q same)

pub offers_stay_fresh : OffersStayFresh
offers_stay_fresh s quiet leads budget g legal e applies =
    stay_fresh s quiet budget g (next s budget g e) legal (events_keep s leads budget g legal e applies)
