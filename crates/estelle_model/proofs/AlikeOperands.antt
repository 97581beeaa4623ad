-- Operands, arguments and variable accesses alike on two states.
use Rattle.std.proofs.Common.{◌≡◌, ℕ, zero, suc, Bool, true, false, List, [], ◌∷◌, ◌++◌, ℤ, Result, Option, Some, None, refl, ap, subst}
use Rattle.std.specs.Prelude.{slice_get}
use Rattle.pascal_values.specs.declared.value.Value.{Value}
use Rattle.pascal_values.specs.declared.value.Value.TheVariants as pascal
use Rattle.pascal_values.specs.Sets.{union}
use Rattle.estelle_tree.specs.declared.tree.expression.Adding.{Adding}
use Rattle.estelle_tree.specs.declared.tree.expression.Adding.TheVariants as adding
use Rattle.estelle_tree.specs.declared.tree.expression.Multiplying.{Multiplying}
use Rattle.estelle_tree.specs.declared.tree.expression.Multiplying.TheVariants as multiplying
use Rattle.estelle_model.specs.declared.denoter.Host.{Host}
use Rattle.estelle_model.specs.Types.{ordinal_of, shape_of, assignable}
use Rattle.estelle_model.specs.Operators.{bool_of, plus, minus, times, divided, modulo, one_member, members_from}
use Rattle.estelle_tree.specs.Paths.{Path, is_inside}
use Rattle.estelle_model.specs.States.{Offers}
use Rattle.estelle_model.specs.Stops.{Stop, Broken, stopping}
use Rattle.estelle_model.specs.Steps.{Step, ◌>>=◌, pure, checked}
use Rattle.estelle_model.specs.declared.meaning.Routine.{Routine}
use Rattle.estelle_model.specs.declared.meaning.Passing.{Passing}
use Rattle.estelle_model.specs.declared.meaning.Passing.TheVariants.{ByValue, ByPlace}
use Rattle.estelle_model.specs.declared.place.Place.{Place}
use Rattle.estelle_model.specs.declared.place.Environment.{Environment}
use Rattle.estelle_model.specs.declared.place.ActualParameters.{ActualParameters}
use Rattle.estelle_model.specs.Expressions.{Call, Operand, Access, Selecting, Written, bool_step, ordinal_step, bound_of, bound_step, both, conjunction, disjunction, multiplied, added, computed, place_of_operand, give, give_all, member_step, set_step}
use Rattle.estelle_model.proofs.Alike.{Same, EachAlike, MaybeAlike, StepAlike, ValueAlike, then_alike, then_same, pure_alike, stop_alike, checked_alike, if_alike}
use Rattle.estelle_model.proofs.AlikePlaces.{IsWithin, PlaceAlike}

-- each of the places is within
abbrev pub AllWithin : Path → List Place → Type 0
AllWithin m [] = Unit {0}
AllWithin m (a ∷ more) = IsWithin m a × AllWithin m more

all_within_more : (m : Path) (xs : List Place) (a : Place) → AllWithin m xs → IsWithin m a → AllWithin m (xs ++ a ∷ [])
all_within_more m [] a h w = (w, tt)
all_within_more m (x ∷ xs) a h w = (h.0, all_within_more m xs a h.1 w)

pub within_at : (m : Path) (xs : List Place) (k : ℕ) (a : Place) → AllWithin m xs → slice_get xs k ≡ Some a → IsWithin m a
within_at m [] k a h e = absurd (cc)
within_at m (x ∷ xs) zero a h e = let same : x ≡ a = cc in subst (λ (b : Place). IsWithin m b) same h.0
within_at m (x ∷ xs) (suc k) a h e = within_at m xs k a h.1 e

-- the same arguments, with places that are within
abbrev pub GivenAlike : Path → ActualParameters → ActualParameters → Type 0
GivenAlike m g h = (g ≡ h) × AllWithin m g.references

-- what runs is at or below m, and what its var parameters name is within
abbrev pub IsHereWithin : Path → Environment → Type 0
IsHereWithin m here = (is_inside m here.path ≡ true) × AllWithin m here.references

module _ (S T : Type 0) (on : Offers S) (on' : Offers T) (m : Path) (R : S → T → Type 0) where
  pub record OperandAlike (e : Operand S) (f : Operand T) : Type 0 where
    pub value : ValueAlike S T R e.value f.value
    pub host : e.host ≡ f.host
    pub place : MaybeAlike (StepAlike S T R (PlaceAlike m)) e.place f.place

  pub record AccessAlike (a : Access S) (b : Access T) : Type 0 where
    pub denoter : a.denoter ≡ b.denoter
    pub place : StepAlike S T R (PlaceAlike m) a.place b.place

  pub record SelectingAlike (x : Selecting S) (y : Selecting T) : Type 0 where
    pub over : (a : Access S) (b : Access T) → AccessAlike a b → AccessAlike (x.over a) (y.over b)
    pub name : x.name ≡ y.name

  pub record WrittenAlike (x : Written S) (y : Written T) : Type 0 where
    pub name : x.name ≡ y.name
    pub selectors : EachAlike SelectingAlike x.selectors y.selectors

  -- a routine does alike, whatever it is given
  abbrev pub CallAlike : Call S → Call T → Type 0
  CallAlike call call' = (r : Routine) (g : ActualParameters) → AllWithin m g.references → ValueAlike S T R (call r g) (call' r g)

  -- ---- operators

  pub bool_alike : (p : Step S Value) (q : Step T Value) → ValueAlike S T R p q → StepAlike S T R (Same {A = Bool}) (bool_step p) (bool_step q)
  bool_alike p q h = then_same S T R (Same {A = Bool}) p q (λ v. checked (bool_of v)) (λ v. checked (bool_of v)) h (λ v. checked_alike S T R (bool_of v))

  pub ordinal_alike : (p : Step S Value) (q : Step T Value) → ValueAlike S T R p q → StepAlike S T R (Same {A = ℤ}) (ordinal_step p) (ordinal_step q)
  ordinal_alike p q h = then_same S T R (Same {A = ℤ}) p q (λ v. checked (ordinal_of v)) (λ v. checked (ordinal_of v)) h (λ v. checked_alike S T R (ordinal_of v))

  -- a value, and then something of it
  pub of_value_alike : {A : Type 0} (f : Value → Result A Stop) (p : Step S Value) (q : Step T Value) → ValueAlike S T R p q → StepAlike S T R (Same {A = A}) (p >>= λ v. checked (f v)) (q >>= λ v. checked (f v))
  of_value_alike {A} f p q h = then_same S T R (Same {A = A}) p q (λ v. checked (f v)) (λ v. checked (f v)) h (λ v. checked_alike S T R (f v))

  pub bound_alike : (g h : Host) (p : Step S Value) (q : Step T Value) → g ≡ h → ValueAlike S T R p q → StepAlike S T R (Same {A = ℤ}) (bound_step g p) (bound_step h q)
  bound_alike g h p q e k = subst (λ (x : Host). StepAlike S T R (Same {A = ℤ}) (bound_step g p) (bound_step x q)) e (of_value_alike (bound_of g) p q k)

  pub both_alike : (f : Value → Value → Result Value Stop) (p p' : Step S Value) (q q' : Step T Value) → ValueAlike S T R p q → ValueAlike S T R p' q' → ValueAlike S T R (both f p p') (both f q q')
  both_alike f p p' q q' h k = then_same S T R (Same {A = Value}) p q (λ v. p' >>= λ w. checked (f v w)) (λ v. q' >>= λ w. checked (f v w)) h (λ v. of_value_alike (f v) p' q' k)

  as_bool_alike : (p : Step S Value) (q : Step T Value) → ValueAlike S T R p q → ValueAlike S T R (bool_step p >>= λ c. pure (pascal.Bool c)) (bool_step q >>= λ c. pure (pascal.Bool c))
  as_bool_alike p q h = then_same S T R (Same {A = Value}) (bool_step p) (bool_step q) (λ c. pure (pascal.Bool c)) (λ c. pure (pascal.Bool c)) (bool_alike p q h) (λ c. pure_alike S T R (Same {A = Value}) (pascal.Bool c) (pascal.Bool c) refl)

  conjunction_alike : (p p' : Step S Value) (q q' : Step T Value) → ValueAlike S T R p q → ValueAlike S T R p' q' → ValueAlike S T R (conjunction p p') (conjunction q q')
  unfolding conjunction
  conjunction_alike p p' q q' h k = then_same S T R (Same {A = Value}) (bool_step p) (bool_step q) _ _ (bool_alike p q h)
      (λ b. if_alike S T R (Same {A = Value}) b _ _ _ _ (as_bool_alike p' q' k) (pure_alike S T R (Same {A = Value}) (pascal.Bool false) (pascal.Bool false) refl))

  disjunction_alike : (p p' : Step S Value) (q q' : Step T Value) → ValueAlike S T R p q → ValueAlike S T R p' q' → ValueAlike S T R (disjunction p p') (disjunction q q')
  unfolding disjunction
  disjunction_alike p p' q q' h k = then_same S T R (Same {A = Value}) (bool_step p) (bool_step q) _ _ (bool_alike p q h)
      (λ b. if_alike S T R (Same {A = Value}) b _ _ _ _ (pure_alike S T R (Same {A = Value}) (pascal.Bool true) (pascal.Bool true) refl) (as_bool_alike p' q' k))

  pub multiplied_alike : (op : Multiplying) (p p' : Step S Value) (q q' : Step T Value) → ValueAlike S T R p q → ValueAlike S T R p' q' → ValueAlike S T R (multiplied op p p') (multiplied op q q')
  multiplied_alike multiplying.Star p p' q q' h k = both_alike times p p' q q' h k
  multiplied_alike multiplying.Div p p' q q' h k = both_alike divided p p' q q' h k
  multiplied_alike multiplying.Mod p p' q q' h k = both_alike modulo p p' q q' h k
  multiplied_alike multiplying.And p p' q q' h k = conjunction_alike p p' q q' h k

  pub added_alike : (op : Adding) (p p' : Step S Value) (q q' : Step T Value) → ValueAlike S T R p q → ValueAlike S T R p' q' → ValueAlike S T R (added op p p') (added op q q')
  added_alike adding.Plus p p' q q' h k = both_alike plus p p' q q' h k
  added_alike adding.Minus p p' q q' h k = both_alike minus p p' q q' h k
  added_alike adding.Or p p' q q' h k = disjunction_alike p p' q q' h k

  pub computed_alike : (h : Host) (p : Step S Value) (q : Step T Value) → ValueAlike S T R p q → OperandAlike (computed h p) (computed h q)
  computed_alike h p q v = record { value = v; host = refl; place = tt }

  pub computed_with : (g h : Host) (p : Step S Value) (q : Step T Value) → g ≡ h → ValueAlike S T R p q → OperandAlike (computed g p) (computed h q)
  computed_with g h p q e v = record { value = v; host = e; place = tt }

  -- ---- arguments

  place_of_alike : (o : Option (Step S Place)) (o' : Option (Step T Place)) → MaybeAlike (StepAlike S T R (PlaceAlike m)) o o' → StepAlike S T R (PlaceAlike m) (place_of_operand o) (place_of_operand o')
  place_of_alike None None h = stop_alike S T R (PlaceAlike m) Broken
  place_of_alike (Some p) (Some q) h = h
  place_of_alike None (Some q) h = absurd h
  place_of_alike (Some p) None h = absurd h

  give_alike : (p : Passing) (e : Operand S) (f : Operand T) (g : ActualParameters) → OperandAlike e f → AllWithin m g.references → StepAlike S T R (GivenAlike m) (give p e g) (give p f g)
  give_alike (ByValue t) e f g h w = then_same S T R (GivenAlike m) e.value f.value _ _ h.value
      (λ v. then_same S T R (GivenAlike m) (checked (stopping (assignable (shape_of t) v))) (checked (stopping (assignable (shape_of t) v))) _ _ (checked_alike S T R (stopping (assignable (shape_of t) v)))
      (λ ok. pure_alike S T R (GivenAlike m) _ _ (refl, w)))
  give_alike ByPlace e f g h w = then_alike S T R (PlaceAlike m) (GivenAlike m) (place_of_operand e.place) (place_of_operand f.place) _ _ (place_of_alike e.place f.place h.place)
      (λ a b ab. pure_alike S T R (GivenAlike m) _ _ (ap (λ (c : Place). record g { references = g.references ++ c ∷ [] }) ab.0, all_within_more m g.references a w ab.1))

  pub give_all_alike : (ps : List Passing) (es : List (Operand S)) (fs : List (Operand T)) (g : ActualParameters) → EachAlike OperandAlike es fs → AllWithin m g.references → StepAlike S T R (GivenAlike m) (give_all ps es g) (give_all ps fs g)
  give_all_alike [] [] [] g h w = pure_alike S T R (GivenAlike m) g g (refl, w)
  give_all_alike [] [] (f ∷ fs) g h w = absurd h
  give_all_alike [] (e ∷ es) [] g h w = absurd h
  give_all_alike [] (e ∷ es) (f ∷ fs) g h w = stop_alike S T R (GivenAlike m) Broken
  give_all_alike (p ∷ ps) [] [] g h w = stop_alike S T R (GivenAlike m) Broken
  give_all_alike (p ∷ ps) [] (f ∷ fs) g h w = absurd h
  give_all_alike (p ∷ ps) (e ∷ es) [] g h w = absurd h
  give_all_alike (p ∷ ps) (e ∷ es) (f ∷ fs) g h w = then_alike S T R (GivenAlike m) (GivenAlike m) (give p e g) (give p f g) (λ k. give_all ps es k) (λ k. give_all ps fs k) (give_alike p e f g h.0 w)
      (λ a b ab. subst (λ (c : ActualParameters). StepAlike S T R (GivenAlike m) (give_all ps es a) (give_all ps fs c)) ab.0 (give_all_alike ps es fs a h.1 ab.1))

  -- ---- set constructors

  pub member_alike : (e : Operand S) (f : Operand T) (o : Option (Operand S)) (o' : Option (Operand T)) → OperandAlike e f → MaybeAlike OperandAlike o o' → StepAlike S T R (Same {A = List ℕ}) (member_step e o) (member_step f o')
  member_alike e f None None h k = then_same S T R (Same {A = List ℕ}) (ordinal_step e.value) (ordinal_step f.value) _ _ (ordinal_alike e.value f.value h.value) (λ n. checked_alike S T R (one_member n))
  member_alike e f (Some a) (Some b) h k = then_same S T R (Same {A = List ℕ}) (ordinal_step e.value) (ordinal_step f.value) _ _ (ordinal_alike e.value f.value h.value)
      (λ n. then_same S T R (Same {A = List ℕ}) (ordinal_step a.value) (ordinal_step b.value) _ _ (ordinal_alike a.value b.value k.value) (λ l. checked_alike S T R (members_from n l)))
  member_alike e f None (Some b) h k = absurd k
  member_alike e f (Some a) None h k = absurd k

  pub set_alike : (made : List ℕ) (ps : List (Step S (List ℕ))) (qs : List (Step T (List ℕ))) → EachAlike (StepAlike S T R (Same {A = List ℕ})) ps qs → ValueAlike S T R (set_step made ps) (set_step made qs)
  set_alike made [] [] h = pure_alike S T R (Same {A = Value}) (pascal.Set made) (pascal.Set made) refl
  set_alike made [] (q ∷ qs) h = absurd h
  set_alike made (p ∷ ps) [] h = absurd h
  set_alike made (p ∷ ps) (q ∷ qs) h = then_same S T R (Same {A = Value}) p q (λ ns. set_step (union made ns) ps) (λ ns. set_step (union made ns) qs) h.0 (λ ns. set_alike (union made ns) ps qs h.1)
