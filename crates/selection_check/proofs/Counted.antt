-- What must be counted may be selected, and what may be selected is counted.
use Rattle.std.proofs.Common.{◌≡◌, ◌⊎◌, ℕ, zero, suc, ◌+◌, ◌<◌, ◌≤◌, Bool, true, false, Option, Some, None, refl, inl, inr, arith, length}
use Rattle.std.specs.Prelude.{◌||◌, not, min, nat_le}
use Rattle.std.specs.List.{range_with_len}
use Rattle.std.specs.FinMap as map
use Rattle.std.proofs.lemmas.Bool.{cases_lt, leb-true, le-leb}
use Rattle.std.proofs.lemmas.Option.{slice_get_within}
use Rattle.estelle_tree.specs.Paths.{Path}
use Rattle.estelle_tree.specs.Timers.{Timer, pair, cap, last_moment, due, low_is_over, high_is_over, ends_by}
use Rattle.estelle_model.specs.Core.{Instance}
use Rattle.estelle_model.specs.Transitions.{Transition}
use Rattle.estelle_model.specs.Subject.{Subject, transitions, transition}
use Rattle.estelle_model.specs.Situation.{Situation}
use Rattle.estelle_model.specs.Firing.{guard, guard_at, guard_of}
use Rattle.estelle_model.specs.Delays.{is_on, has_delay, may}
use Rattle.estelle_model.specs.Selection.{May, Must}
use Rattle.estelle_model.specs.Schedule.{numbers_of, counted}
use Rattle.estelle_model.proofs.PrivateParts.{left_true, right_true}
use Rattle.estelle_model_legality.specs.Pending.{IsInOrder, AreInOrder}
use Rattle.estelle_model_legality.proofs.Lists.{both_and}
use Rattle.estelle_model_legality.proofs.Members.{Has, filter_has}

-- ---- time

capped : (a b last now : ℕ) → a ≤ b → min b last ≤ now → min a last ≤ now
capped a b last now h e = omega arith

low_first : (now : ℕ) (t : Timer) (high : Option ℕ) → IsInOrder t high → ends_by now t.start high ≡ true → nat_le (due t) now ≡ true
low_first now t None h e = absurd (cc)
low_first now t (Some high) h e =
    let before : t.start + t.low ≤ t.start + high = omega (arith, h) in
    le-leb (due t) now (capped (t.start + t.low) (t.start + high) last_moment now before (leb-true (cap (t.start + high)) now e))

-- what must be counted has waited long enough
high_low : (now : ℕ) (o : Option Timer) → ((t : Timer) → o ≡ Some t → IsInOrder t t.high) → high_is_over now o ≡ true → low_is_over now o ≡ true
high_low now None h e = absurd (cc)
high_low now (Some t) h e = low_first now t t.high (h t refl) e

-- ---- numbers of transitions

range_has : (len a n : ℕ) → a ≤ n → n < a + len → Has (range_with_len a len) n
range_has zero a n low high = absurd (omega arith)
range_has (suc len) a n low high = by (cases_lt a n) (λ less. range_has len (a + 1) n (omega arith) (omega arith))
  where
    by : (a < n) ⊎ (n ≤ a) → (a < n → Has (range_with_len (a + 1) len) n) → Has (range_with_len a (suc len)) n
    by (inl less) rest = inr (rest less)
    by (inr last) rest = inl (omega arith)

module _ (s : Subject) (budget : ℕ) (g : Situation) (m : Path) where
  guard_numbered : (n : ℕ) (o : Option Instance) → is_on (guard_at s budget g m n o) ≡ true → Has (numbers_of s o) n
  guard_numbered n None e = absurd (cc)
  guard_numbered n (Some i) e = by n (transition s i.body n) refl e
    where
      by : (n : ℕ) (o : Option Transition) → transition s i.body n ≡ o → is_on (guard_of s budget g m (map.contains_key g.timers (record { path = m; trans = n })) i o) ≡ true → Has (numbers_of s (Some i)) n
      by n None is e = absurd (cc)
      by zero (Some t) is e = absurd (cc)
      by (suc k) (Some t) is e = let less = slice_get_within (transitions s i.body) k t is in range_has (length (transitions s i.body)) 1 (suc k) (omega arith) (omega (arith, less))

  pub may_counted : (n : ℕ) → May s budget g m n → Has (counted s budget g m) n
  may_counted n h = filter_has (may s budget g m) (numbers_of s (map.get g.core.instances m)) n (guard_numbered n (map.get g.core.instances m) (left_true (is_on (guard s budget g m n)) _ h)) h

  pub must_may : AreInOrder g → (n : ℕ) → Must s budget g m n → May s budget g m n
  must_may in_order n h =
      let on = left_true (is_on (guard s budget g m n)) _ h in
      both_and (is_on (guard s budget g m n)) _ on (waited (has_delay s g m n) (right_true (is_on (guard s budget g m n)) _ h))
    where
      waited : (b : Bool) → (not b || high_is_over g.now (map.get g.timers (pair m n))) ≡ true → (not b || low_is_over g.now (map.get g.timers (pair m n))) ≡ true
      waited true e = high_low g.now (map.get g.timers (pair m n)) (in_order (pair m n)) e
      waited false e = refl
