-- What an instance may select of its own.
use Rattle.std.proofs.Common.{◌≡◌, ℕ, true, false, List, [], ◌∷◌, refl, sym, ap, subst, ◌∙◌, inl, inr, eqb-true, eq-eqb}
use Rattle.std.specs.Prelude.{not, ◌==◌, ◌&&◌, map as each}
use Rattle.std.specs.List.{AllByRecursion}
use Rattle.std.specs.FinMap as map
use Rattle.std.specs.Str.{bytes_eq}
use Rattle.estelle_tree.specs.declared.transition.Pair.{Pair}
use Rattle.estelle_tree.specs.Paths.{Path}
use Rattle.estelle_tree.specs.Timers.{pair}
use Rattle.estelle_model.specs.Subject.{Subject}
use Rattle.estelle_model.specs.Situation.{Situation}
use Rattle.estelle_model.specs.Delays.{may, must}
use Rattle.estelle_model.specs.Selection.{is_higher, priority, Must, HasPriority, Eligible, IsSilent}
use Rattle.estelle_model.specs.Schedule.{counted, numbers_of}
use Rattle.estelle_model_legality.specs.Pending.{AreInOrder}
use Rattle.estelle_model_legality.proofs.Lists.{and_both, both_and, not_both, not_true, is_not, path_is, same_path}
use Rattle.estelle_model_legality.proofs.Members.{Has, any_has, has_any, has_none, has_filter}
use Rattle.transition_select.specs.declared.countings.Countable.{Countable}
use Rattle.transition_select.specs.declared.countings.Counting.{Counting}
use Rattle.transition_select.specs.Countings.{IsCountable, AreCountablesOf, IsCounting}
use Rattle.selection_check.specs.Countings.{must_some, is_below, is_eligible, takes_own}
use Rattle.selection_check.proofs.Counted.{may_counted, must_may}

-- ---- elements

has_each : {A B : Type 0} (f : A → B) (xs : List A) (y : B) → Has (each f xs) y → (x : A) × (Has xs x) × (f x ≡ y)
has_each f [] y h = absurd h
has_each f (x ∷ xs) y (inl is) = (x, inl refl, is)
has_each f (x ∷ xs) y (inr h) = let r = has_each f xs y h in (r.0, inr r.1, r.2)

each_has : {A B : Type 0} (f : A → B) (xs : List A) (x : A) → Has xs x → Has (each f xs) (f x)
each_has f [] x h = absurd h
each_has f (z ∷ xs) x (inl is) = inl (ap f is)
each_has f (z ∷ xs) x (inr h) = inr (each_has f xs x h)

all_has : {A : Type 0} (P : A → Type 0) (xs : List A) (x : A) → AllByRecursion P xs → Has xs x → P x
all_has P [] x a h = absurd h
all_has P (z ∷ xs) x a (inl is) = subst P is a.0
all_has P (z ∷ xs) x a (inr h) = all_has P xs x a.1 h

module _ (s : Subject) (budget : ℕ) (g : Situation) (in_order : AreInOrder g) where
  module _ (m : Path) (all : List Countable) (are : AreCountablesOf s budget g m all) where
    -- what is given of a transition
    record IsGiven (n : ℕ) : Type 0 where
      one : Countable
      among : Has all one
      is : one.trans ≡ n
      known : IsCountable s budget g m one

    counted_given : (n : ℕ) → Has (counted s budget g m) n → IsGiven n
    counted_given n h =
        let r = has_each (λ (c : Countable). c.trans) all n (subst (λ ns. Has ns n) (sym are.numbers) h) in
        record { one = r.0; among = r.1; is = r.2; known = all_has (IsCountable s budget g m) all r.0 are.known r.1 }

    must_given : (n : ℕ) → Must s budget g m n → IsGiven n
    must_given n h = counted_given n (may_counted s budget g m n (must_may s budget g m in_order n h))

    must_of : (n : ℕ) (i : IsGiven n) → i.one.must ≡ must s budget g m n
    must_of n i = i.known.must ∙ ap (must s budget g m) i.is

    priority_of : (n : ℕ) (i : IsGiven n) → i.one.priority ≡ priority s g m n
    priority_of n i = i.known.priority ∙ ap (priority s g m) i.is

    -- ---- silence

    pub silent : must_some all ≡ false → IsSilent s budget g m
    silent e n h =
        let i = must_given n h in
        not_both i.one.must (must_of n i ∙ h) (has_none (λ (c : Countable). c.must) all e i.one i.among)

    pub not_silent : must_some all ≡ true → IsSilent s budget g m → ⊥
    not_silent e none =
        let r = any_has (λ (c : Countable). c.must) all e in
        let known = all_has (IsCountable s budget g m) all r.0 are.known r.1 in
        none r.0.trans (sym known.must ∙ r.2)

    -- ---- priority

    higher : (k n : ℕ) (i : IsGiven k) (j : IsGiven n) → is_higher i.one.priority j.one.priority ≡ is_higher (priority s g m k) (priority s g m n)
    higher k n i j = ap (λ p. is_higher p j.one.priority) (priority_of k i) ∙ ap (is_higher (priority s g m k)) (priority_of n j)

    none_above : (n : ℕ) (j : IsGiven n) → is_below j.one.priority all ≡ false → (k : ℕ) → Must s budget g m k → HasPriority s g m k n → ⊥
    none_above n j e k h above =
        let i = must_given k h in
        not_both (i.one.must && is_higher i.one.priority j.one.priority)
        (both_and i.one.must (is_higher i.one.priority j.one.priority) (must_of k i ∙ h) (higher k n i j ∙ above))
        (has_none (λ (c : Countable). c.must && is_higher c.priority j.one.priority) all e i.one i.among)

    some_above : (n : ℕ) (j : IsGiven n) → ((k : ℕ) → Must s budget g m k → HasPriority s g m k n → ⊥) → is_below j.one.priority all ≡ false
    some_above n j none = not_true (is_below j.one.priority all) (λ e.
        let r = any_has (λ (c : Countable). c.must && is_higher c.priority j.one.priority) all e in
        let both = and_both r.0.must (is_higher r.0.priority j.one.priority) r.2 in
        let i : IsGiven r.0.trans = record { one = r.0; among = r.1; is = refl; known = all_has (IsCountable s budget g m) all r.0 are.known r.1 } in
        none r.0.trans (sym i.known.must ∙ both.0) (sym (higher r.0.trans n i j) ∙ both.1))

    pub eligible : (n : ℕ) → is_eligible n all ≡ true → Eligible s budget g m n
    eligible n e =
        let r = any_has (λ (c : Countable). (c.trans == n) && not (is_below c.priority all)) all e in
        let both = and_both (r.0.trans == n) (not (is_below r.0.priority all)) r.2 in
        let is : r.0.trans ≡ n = eqb-true r.0.trans n both.0 in
        let j : IsGiven n = record { one = r.0; among = r.1; is = is; known = all_has (IsCountable s budget g m) all r.0 are.known r.1 } in
        let has : Has (counted s budget g m) n = subst (λ ns. Has ns n) are.numbers (subst (Has (each (λ (c : Countable). c.trans) all)) is (each_has (λ (c : Countable). c.trans) all r.0 r.1)) in
        record {
          may = (has_filter (may s budget g m) (numbers_of s (map.get g.core.instances m)) n has).1;
          highest = none_above n j (is_not (is_below r.0.priority all) both.1);
        }

    pub eligible_is : (n : ℕ) → Eligible s budget g m n → is_eligible n all ≡ true
    eligible_is n el =
        let j = counted_given n (may_counted s budget g m n el.may) in
        has_any (λ (c : Countable). (c.trans == n) && not (is_below c.priority all)) all j.one j.among
        (both_and (j.one.trans == n) (not (is_below j.one.priority all)) (eq-eqb j.one.trans n j.is) (ap not (some_above n j el.highest)))

  -- the first of the firings is one that the instance may select of its own
  pub record BeginsOwn (m : Path) (takes : List Pair) : Type 0 where
    pub number : ℕ
    pub others : List Pair
    pub eligible : Eligible s budget g m number
    pub is : takes ≡ pair m number ∷ others

  module _ (c : Counting) (is : IsCounting s budget g c) where
    pub own_begins : (takes : List Pair) → takes_own c takes ≡ true → BeginsOwn c.path takes
    own_begins [] e = absurd (cc)
    own_begins (p ∷ ps) e =
        let both = and_both (bytes_eq c.path p.path) (is_eligible p.trans c.transitions.items) e in
        record {
          number = p.trans;
          others = ps;
          eligible = eligible c.path c.transitions.items is.transitions p.trans both.1;
          is = ap (λ q. pair q p.trans ∷ ps) (sym (same_path c.path p.path both.0));
        }

    pub own_taken : (takes : List Pair) → BeginsOwn c.path takes → takes_own c takes ≡ true
    own_taken takes o =
        ap (takes_own c) o.is
        ∙ both_and (bytes_eq c.path c.path) (is_eligible o.number c.transitions.items) (path_is c.path) (eligible_is c.path c.transitions.items is.transitions o.number o.eligible)
