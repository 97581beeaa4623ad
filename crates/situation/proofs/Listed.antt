-- Systems in a list, one after another.
use Rattle.std.proofs.Common.{◌≡◌, ℕ, zero, suc, ◌+◌, ◌<◌, ◌≤◌, Bool, true, false, cond, List, [], ◌∷◌, ◌++◌, map, length, take, drop, set, get_or, refl, sym, ap, subst, ◌∙◌, arith, add-one}
use Rattle.std.specs.Prelude.{filter, slice_get, option_map, Some, None}
use Rattle.std.proofs.lemmas.List.{take_all, drop_all, append-nil}
use Rattle.std.proofs.lemmas.Option.{slice_get-get_or, same_Some}
use Rattle.estelle_tree.specs.Paths.{Path}
use Rattle.estelle_model.specs.Subject.{Subject}
use Rattle.estelle_model.specs.Situation.{Situation}
use Rattle.estelle_model.specs.Attributes.{attribute_at, is_system, IsSystem}
use Rattle.estelle_model.specs.Selection.{paths}
use Rattle.situation_steps.specs.declared.systems.System.{System}
use Rattle.situation_steps.specs.Systems.{is_due, systems_of, NoneIsDue}
use Rattle.situation.specs.Systems.{IsFirstOne}

-- ---- the first that is due

-- one more that is not due
pub none_more : (systems : List System) (at : ℕ) (d : System) → at < length systems → is_due (get_or systems at d) ≡ false → NoneIsDue (take at systems) → NoneIsDue (take (at + 1) systems)
none_more systems at d less is none = subst (λ (n : ℕ). NoneIsDue (take n systems)) (sym (add-one at)) (by systems at less is none)
  where
    by : (xs : List System) (k : ℕ) → k < length xs → is_due (get_or xs k d) ≡ false → NoneIsDue (take k xs) → NoneIsDue (take (suc k) xs)
    by [] k less is none = absurd (omega arith)
    by (x ∷ xs) zero less is none = (is, tt)
    by (x ∷ xs) (suc k) less is none = (none.0, by xs k (omega (arith, less)) is none.1)

pub none_first : (systems : List System) → NoneIsDue (take 0 systems)
none_first systems = tt

pub none_of_all : (systems : List System) (at : ℕ) → length systems ≤ at → NoneIsDue (take at systems) → NoneIsDue systems
none_of_all systems at ends none = subst NoneIsDue (take_all at systems ends) none

-- the one that is due is the first
pub first_here : (systems : List System) (at : ℕ) (d : System) → at < length systems → is_due (get_or systems at d) ≡ true → NoneIsDue (take at systems) → IsFirstOne systems at
first_here systems at d less is none = (get_or systems at d, record { there = slice_get-get_or systems at d less; due = is; first = none })

-- ---- the instances that they are

-- what a test leaves passes it
passes : {A : Type 0} (test : A → Bool) (xs : List A) (i : ℕ) (a : A) → slice_get (filter test xs) i ≡ Some a → test a ≡ true
passes test [] i a h = absurd (nothing i h)
  where
    nothing : (k : ℕ) → slice_get [] k ≡ Some a → ⊥
    nothing zero h = let wrong : None ≡ Some a = h in absurd (cc)
    nothing (suc k) h = let wrong : None ≡ Some a = h in absurd (cc)
passes test (x ∷ xs) i a h = by (test x) refl i h (λ k. passes test xs k a)
  where
    by : (b : Bool) → test x ≡ b → (k : ℕ) → slice_get (cond b (x ∷ filter test xs) (filter test xs)) k ≡ Some a → ((j : ℕ) → slice_get (filter test xs) j ≡ Some a → test a ≡ true) → test a ≡ true
    by true e zero h rest = let same : x ≡ a = same_Some x a h in ap test (sym same) ∙ e
    by true e (suc k) h rest = rest k h
    by false e k h rest = rest k h

got_each : {A B : Type 0} (f : A → B) (xs : List A) (i : ℕ) (a : A) → slice_get xs i ≡ Some a → slice_get (map f xs) i ≡ Some (f a)
got_each f [] zero a h = let wrong : None ≡ Some a = h in absurd (cc)
got_each f [] (suc i) a h = let wrong : None ≡ Some a = h in absurd (cc)
got_each f (x ∷ xs) zero a h = ap (option_map f) h
got_each f (x ∷ xs) (suc i) a h = got_each f xs i a h

-- each is a system
pub system_here : (s : Subject) (g : Situation) (systems : List System) → map (λ x. x.path) systems ≡ systems_of s g → (at : ℕ) (x : System) → slice_get systems at ≡ Some x → IsSystem s g x.path
system_here s g systems all at x there =
    passes (λ (p : Path). is_system (attribute_at s g p)) (paths g) at x.path (subst (λ (ps : List Path). slice_get ps at ≡ Some x.path) all (got_each (λ (y : System). y.path) systems at x there))

-- ---- each of them is changed

-- of these the first are changed
abbrev pub changed_to : {A : Type 0} → (A → A) → ℕ → List A → List A
changed_to f i xs = map f (take i xs) ++ drop i xs

module _ {A : Type 0} (f : A → A) where
  pub change_first : (xs : List A) → changed_to f 0 xs ≡ xs
  change_first xs = refl

  change_at : (xs : List A) (i : ℕ) (d : A) → i < length xs → get_or (changed_to f i xs) i d ≡ get_or xs i d
  change_at [] i d less = absurd (omega arith)
  change_at (x ∷ xs) zero d less = refl
  change_at (x ∷ xs) (suc i) d less = change_at xs i d (omega (arith, less))

  change_next : (xs : List A) (i : ℕ) (d : A) → i < length xs → set (changed_to f i xs) i (f (get_or xs i d)) ≡ changed_to f (suc i) xs
  change_next [] i d less = absurd (omega arith)
  change_next (x ∷ xs) zero d less = refl
  change_next (x ∷ xs) (suc i) d less = ap (λ (ys : List A). f x ∷ ys) (change_next xs i d (omega (arith, less)))

  -- and one more
  pub change_more : (xs ys : List A) (i : ℕ) (d y : A) → i < length xs → ys ≡ changed_to f i xs → y ≡ f (get_or ys i d) → set ys i y ≡ changed_to f (i + 1) xs
  change_more xs ys i d y less is y_is =
      let it : y ≡ f (get_or xs i d) = y_is ∙ ap (λ (zs : List A). f (get_or zs i d)) is ∙ ap f (change_at xs i d less) in
      (λ j. set (is j) i (it j)) ∙ change_next xs i d less ∙ ap (λ (n : ℕ). changed_to f n xs) (sym (add-one i))

  -- until all are
  pub change_all : (xs : List A) (i : ℕ) → length xs ≤ i → changed_to f i xs ≡ map f xs
  change_all xs i ends = (λ j. map f (take_all i xs ends j) ++ drop_all i xs ends j) ∙ append-nil (map f xs)

  pub change_length : (xs : List A) (i : ℕ) → length (changed_to f i xs) ≡ length xs
  change_length [] zero = refl
  change_length [] (suc i) = refl
  change_length (x ∷ xs) zero = refl
  change_length (x ∷ xs) (suc i) = ap suc (change_length xs i)
