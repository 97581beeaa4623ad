-- Of priorities the highest decides.
use Rattle.std.proofs.Common.{◌≡◌, ℕ, ℤ, Bool, true, false, cond, List, [], ◌∷◌, Option, Some, None, refl, sym, ap, ◌∙◌, arith}
use Rattle.std.specs.Prelude.{◌||◌, not, int_lt, map as each, filter}
use Rattle.std.specs.List.{list_any, AllByRecursion}
use Rattle.std.proofs.lemmas.Int.{ints}
use Rattle.estelle_tree.specs.Paths.{Path}
use Rattle.estelle_model.specs.Subject.{Subject}
use Rattle.estelle_model.specs.Situation.{Situation}
use Rattle.estelle_model.specs.Selection.{is_higher, has_priority, priority}
use Rattle.estelle_model.specs.Schedule.{offered}
use Rattle.transition_select.specs.declared.countings.Countable.{Countable}
use Rattle.transition_select.specs.Countings.{HasPriority, IsCountable, AreCountedOf, AreCountablesOf, higher, highest, not_below}

-- ---- the higher of two

lower_too : (a b p : ℤ) → int_lt a b ≡ true → int_lt a p ≡ (int_lt b p || int_lt a p)
lower_too a b p h = grind (arith, ints)

upper_too : (a b p : ℤ) → int_lt a b ≡ false → int_lt b p ≡ (int_lt b p || int_lt a p)
upper_too a b p h = grind (arith, ints)

or_true : (b : Bool) → (b || true) ≡ true
or_true true = refl
or_true false = refl

or_false : (b : Bool) → (b || false) ≡ b
or_false true = refl
or_false false = refl

-- what the higher of two is above, one of them is above
above_either : (c so_far p : Option ℤ) (b : Bool) → is_higher c so_far ≡ b → is_higher (cond b c so_far) p ≡ (is_higher so_far p || is_higher c p)
above_either None so_far p true e = absurd (let wrong : false ≡ true = e in cc)
above_either None so_far p false e = sym (or_false (is_higher so_far p))
above_either (Some a) None p true e = refl
above_either (Some a) None p false e = absurd (let wrong : true ≡ false = e in cc)
above_either (Some a) (Some b) None true e = refl
above_either (Some a) (Some b) None false e = refl
above_either (Some a) (Some b) (Some p) true e = lower_too a b p e
above_either (Some a) (Some b) (Some p) false e = upper_too a b p e

-- ---- the highest of all

or_assoc : (a b c : Bool) → ((a || b) || c) ≡ (a || (b || c))
or_assoc true b c = refl
or_assoc false b c = refl

above_some : (so_far p : Option ℤ) (cs : List Countable) → is_higher (higher so_far cs) p ≡ (is_higher so_far p || list_any (λ k. is_higher k.priority p) cs)
above_some so_far p [] = sym (or_false (is_higher so_far p))
above_some so_far p (c ∷ cs) =
    above_some (cond (is_higher c.priority so_far) c.priority so_far) p cs
    ∙ ap (λ b. b || list_any (λ k. is_higher k.priority p) cs) (above_either c.priority so_far p (is_higher c.priority so_far) refl)
    ∙ or_assoc (is_higher so_far p) (is_higher c.priority p) (list_any (λ k. is_higher k.priority p) cs)

-- ---- what is offered

module _ (s : Subject) (budget : ℕ) (g : Situation) (m : Path) where
  any_numbered : (n : ℕ) (cs : List Countable) → AllByRecursion (HasPriority s g m) cs
      → list_any (λ k. is_higher k.priority (priority s g m n)) cs ≡ list_any (λ k. has_priority s g m k n) (each (λ c. c.trans) cs)
  any_numbered n [] a = refl
  any_numbered n (c ∷ cs) a = ap (λ p. is_higher p (priority s g m n) || list_any (λ k. is_higher k.priority (priority s g m n)) cs) a.0 ∙ ap (λ b. has_priority s g m c.trans n || b) (any_numbered n cs a.1)

  -- the tests of a list of those counted
  module _ (all : List Countable) (are : AllByRecursion (HasPriority s g m) all) where
    kept : (cs : List Countable) → AllByRecursion (HasPriority s g m) cs
        → not_below (highest all) cs ≡ filter (λ n. not (list_any (λ k. has_priority s g m k n) (each (λ c. c.trans) all))) (each (λ c. c.trans) cs)
    kept [] a = refl
    kept (c ∷ cs) a = by (is_higher (highest all) c.priority) (list_any (λ k. has_priority s g m k c.trans) (each (λ c. c.trans) all)) same (kept cs a.1)
      where
        same : is_higher (highest all) c.priority ≡ list_any (λ k. has_priority s g m k c.trans) (each (λ c. c.trans) all)
        same = ap (is_higher (highest all)) a.0 ∙ above_some None (priority s g m c.trans) all ∙ any_numbered c.trans all are

        by : (b d : Bool) → b ≡ d → not_below (highest all) cs ≡ filter (λ n. not (list_any (λ k. has_priority s g m k n) (each (λ c. c.trans) all))) (each (λ c. c.trans) cs)
            → each (λ (k : Countable). k.trans) (cond (not b) (c ∷ filter (λ k. not (is_higher (highest all) k.priority)) cs) (filter (λ k. not (is_higher (highest all) k.priority)) cs))
            ≡ cond (not d) (c.trans ∷ filter (λ n. not (list_any (λ k. has_priority s g m k n) (each (λ c. c.trans) all))) (each (λ c. c.trans) cs)) (filter (λ n. not (list_any (λ k. has_priority s g m k n) (each (λ c. c.trans) all))) (each (λ c. c.trans) cs))
        by true true e rest = rest
        by true false e rest = absurd (cc)
        by false true e rest = absurd (cc)
        by false false e rest = ap (λ ns. c.trans ∷ ns) rest

  pub offered_is : (cs : List Countable) → AreCountedOf s budget g m cs → not_below (highest cs) cs ≡ offered s budget g m
  offered_is cs are = kept cs are.priorities cs are.priorities ∙ ap (λ ns. filter (λ n. not (list_any (λ k. has_priority s g m k n) ns)) ns) are.numbers

  priorities_of : (cs : List Countable) → AllByRecursion (IsCountable s budget g m) cs → AllByRecursion (HasPriority s g m) cs
  priorities_of [] a = tt
  priorities_of (c ∷ cs) a = (a.0.priority, priorities_of cs a.1)

  pub counted_of : (cs : List Countable) → AreCountablesOf s budget g m cs → AreCountedOf s budget g m cs
  counted_of cs are = record { numbers = are.numbers; priorities = priorities_of cs are.known }
