-- Operands, arguments and variable accesses alike on two states.
use Rattle.std.proofs.Common.{◌≡◌, ℕ, zero, suc, List, [], ◌∷◌, ◌++◌, ℤ, Option, Some, None, refl, ap, subst}
use Rattle.std.specs.Prelude.{slice_get}
use Rattle.pascal_values.specs.declared.value.Value.{Value}
use Rattle.estelle_model.specs.declared.denoter.Host.{Host}
use Rattle.estelle_model.specs.Types.{ordinal_of, shape_of, assignable}
use Rattle.estelle_model.specs.Operators.{one_member, members_from}
use Rattle.estelle_tree.specs.Paths.{Path}
use Rattle.estelle_model.specs.Stops.{Broken, stopping}
use Rattle.estelle_model.specs.Steps.{Step, checked}
use Rattle.estelle_model.specs.declared.meaning.Routine.{Routine}
use Rattle.estelle_model.specs.declared.meaning.Passing.{Passing}
use Rattle.estelle_model.specs.declared.meaning.Passing.TheVariants.{ByValue, ByPlace}
use Rattle.estelle_model.specs.declared.place.Place.{Place}
use Rattle.estelle_model.specs.declared.place.Environment.{Environment}
use Rattle.estelle_model.specs.declared.place.ActualParameters.{ActualParameters}
use Rattle.estelle_model.specs.Expressions.{Call, Operand, Access, Selecting, Written, ordinal_step, computed, place_of_operand, give, give_all, member_step}
use Rattle.estelle_model.proofs.Alike.{Same, EachAlike, MaybeAlike, StepAlike, ValueAlike, then_alike, then_same, pure_alike, stop_alike, checked_alike}
use Rattle.guards_seen.proofs.Places.{IsWithin, PlaceAlike}

-- each of the places is within
abbrev pub AllWithin : (Path → Type 0) → List Place → Type 0
AllWithin seen [] = Unit {0}
AllWithin seen (a ∷ more) = IsWithin seen a × AllWithin seen more

all_within_more : (seen : Path → Type 0) (xs : List Place) (a : Place) → AllWithin seen xs → IsWithin seen a → AllWithin seen (xs ++ a ∷ [])
all_within_more seen [] a h w = (w, tt)
all_within_more seen (x ∷ xs) a h w = (h.0, all_within_more seen xs a h.1 w)

pub within_at : (seen : Path → Type 0) (xs : List Place) (k : ℕ) (a : Place) → AllWithin seen xs → slice_get xs k ≡ Some a → IsWithin seen a
within_at seen [] k a h e = absurd (cc)
within_at seen (x ∷ xs) zero a h e = let same : x ≡ a = cc in subst (λ (b : Place). IsWithin seen b) same h.0
within_at seen (x ∷ xs) (suc k) a h e = within_at seen xs k a h.1 e

-- the same arguments, with places that are within
abbrev pub GivenAlike : (Path → Type 0) → ActualParameters → ActualParameters → Type 0
GivenAlike seen g h = (g ≡ h) × AllWithin seen g.references

-- what runs is one of the own, and what its var parameters name is within
abbrev pub IsHereWithin : (own seen : Path → Type 0) → Environment → Type 0
IsHereWithin own seen here = own here.path × AllWithin seen here.references

module _ (S T : Type 0) (seen : Path → Type 0) (R : S → T → Type 0) where
  pub record OperandAlike (e : Operand S) (f : Operand T) : Type 0 where
    pub value : ValueAlike S T R e.value f.value
    pub host : e.host ≡ f.host
    pub place : MaybeAlike (StepAlike S T R (PlaceAlike seen)) e.place f.place

  pub record AccessAlike (a : Access S) (b : Access T) : Type 0 where
    pub denoter : a.denoter ≡ b.denoter
    pub place : StepAlike S T R (PlaceAlike seen) a.place b.place

  pub record SelectingAlike (x : Selecting S) (y : Selecting T) : Type 0 where
    pub over : (a : Access S) (b : Access T) → AccessAlike a b → AccessAlike (x.over a) (y.over b)
    pub name : x.name ≡ y.name

  pub record WrittenAlike (x : Written S) (y : Written T) : Type 0 where
    pub name : x.name ≡ y.name
    pub selectors : EachAlike SelectingAlike x.selectors y.selectors

  -- the routines that are told do alike, whatever they are given
  abbrev pub CallAlike : (Routine → Type 0) → Call S → Call T → Type 0
  CallAlike Told call call' = (r : Routine) → Told r → (g : ActualParameters) → AllWithin seen g.references → ValueAlike S T R (call r g) (call' r g)

  pub computed_alike : (h : Host) (p : Step S Value) (q : Step T Value) → ValueAlike S T R p q → OperandAlike (computed h p) (computed h q)
  computed_alike h p q v = record { value = v; host = refl; place = tt }

  pub computed_with : (g h : Host) (p : Step S Value) (q : Step T Value) → g ≡ h → ValueAlike S T R p q → OperandAlike (computed g p) (computed h q)
  computed_with g h p q e v = record { value = v; host = e; place = tt }

  -- ---- arguments

  place_of_alike : (o : Option (Step S Place)) (o' : Option (Step T Place)) → MaybeAlike (StepAlike S T R (PlaceAlike seen)) o o' → StepAlike S T R (PlaceAlike seen) (place_of_operand o) (place_of_operand o')
  place_of_alike None None h = stop_alike S T R (PlaceAlike seen) Broken
  place_of_alike (Some p) (Some q) h = h
  place_of_alike None (Some q) h = absurd h
  place_of_alike (Some p) None h = absurd h

  give_alike : (p : Passing) (e : Operand S) (f : Operand T) (g : ActualParameters) → OperandAlike e f → AllWithin seen g.references → StepAlike S T R (GivenAlike seen) (give p e g) (give p f g)
  give_alike (ByValue t) e f g h w = then_same S T R (GivenAlike seen) e.value f.value _ _ h.value
      (λ v. then_same S T R (GivenAlike seen) (checked (stopping (assignable (shape_of t) v))) (checked (stopping (assignable (shape_of t) v))) _ _ (checked_alike S T R (stopping (assignable (shape_of t) v)))
      (λ ok. pure_alike S T R (GivenAlike seen) _ _ (refl, w)))
  give_alike ByPlace e f g h w = then_alike S T R (PlaceAlike seen) (GivenAlike seen) (place_of_operand e.place) (place_of_operand f.place) _ _ (place_of_alike e.place f.place h.place)
      (λ a b ab. pure_alike S T R (GivenAlike seen) _ _ (ap (λ (c : Place). record g { references = g.references ++ c ∷ [] }) ab.0, all_within_more seen g.references a w ab.1))

  pub give_all_alike : (ps : List Passing) (es : List (Operand S)) (fs : List (Operand T)) (g : ActualParameters) → EachAlike OperandAlike es fs → AllWithin seen g.references → StepAlike S T R (GivenAlike seen) (give_all ps es g) (give_all ps fs g)
  give_all_alike [] [] [] g h w = pure_alike S T R (GivenAlike seen) g g (refl, w)
  give_all_alike [] [] (f ∷ fs) g h w = absurd h
  give_all_alike [] (e ∷ es) [] g h w = absurd h
  give_all_alike [] (e ∷ es) (f ∷ fs) g h w = stop_alike S T R (GivenAlike seen) Broken
  give_all_alike (p ∷ ps) [] [] g h w = stop_alike S T R (GivenAlike seen) Broken
  give_all_alike (p ∷ ps) [] (f ∷ fs) g h w = absurd h
  give_all_alike (p ∷ ps) (e ∷ es) [] g h w = absurd h
  give_all_alike (p ∷ ps) (e ∷ es) (f ∷ fs) g h w = then_alike S T R (GivenAlike seen) (GivenAlike seen) (give p e g) (give p f g) (λ k. give_all ps es k) (λ k. give_all ps fs k) (give_alike p e f g h.0 w)
      (λ a b ab. subst (λ (c : ActualParameters). StepAlike S T R (GivenAlike seen) (give_all ps es a) (give_all ps fs c)) ab.0 (give_all_alike ps es fs a h.1 ab.1))

  -- ---- set constructors

  pub ordinal_alike : (p : Step S Value) (q : Step T Value) → ValueAlike S T R p q → StepAlike S T R (Same {A = ℤ}) (ordinal_step p) (ordinal_step q)
  ordinal_alike p q h = then_same S T R (Same {A = ℤ}) p q (λ v. checked (ordinal_of v)) (λ v. checked (ordinal_of v)) h (λ v. checked_alike S T R (ordinal_of v))

  pub member_alike : (e : Operand S) (f : Operand T) (o : Option (Operand S)) (o' : Option (Operand T)) → OperandAlike e f → MaybeAlike OperandAlike o o' → StepAlike S T R (Same {A = List ℕ}) (member_step e o) (member_step f o')
  member_alike e f None None h k = then_same S T R (Same {A = List ℕ}) (ordinal_step e.value) (ordinal_step f.value) _ _ (ordinal_alike e.value f.value h.value) (λ n. checked_alike S T R (one_member n))
  member_alike e f (Some a) (Some b) h k = then_same S T R (Same {A = List ℕ}) (ordinal_step e.value) (ordinal_step f.value) _ _ (ordinal_alike e.value f.value h.value)
      (λ n. then_same S T R (Same {A = List ℕ}) (ordinal_step a.value) (ordinal_step b.value) _ _ (ordinal_alike a.value b.value k.value) (λ l. checked_alike S T R (members_from n l)))
  member_alike e f None (Some b) h k = absurd k
  member_alike e f (Some a) None h k = absurd k
