-- A property of steps that closed forms have: what it takes that every expression has it.
-- It is stated once, over any property of steps; the statements stand above in KeptStatements.
use Rattle.std.proofs.Common.{ℕ, Bool, true, false, List, [], ◌∷◌, ◌++◌, map, ℤ, Result, Ok, Err, Option, Some, None, cond}
use Rattle.std.specs.Prelude.{slice_get, ℤ}
use Rattle.std.specs.FinMap as fin
use Rattle.pascal_values.specs.declared.value.Value.{Value}
use Rattle.pascal_values.specs.declared.value.Value.TheVariants as pascal
use Rattle.pascal_values.specs.Values.{changed_at, with_part}
use Rattle.pascal_values.specs.Sets.{union}
use Rattle.estelle_tree.specs.declared.tree.expression.Adding.{Adding}
use Rattle.estelle_tree.specs.declared.tree.expression.Adding.TheVariants as adding
use Rattle.estelle_tree.specs.declared.tree.expression.Multiplying.{Multiplying}
use Rattle.estelle_tree.specs.declared.tree.expression.Multiplying.TheVariants as multiplying
use Rattle.estelle_tree.proofs.Folds.{Related}
use Rattle.estelle_model.specs.declared.denoter.Denoter.{Denoter}
use Rattle.estelle_model.specs.Types.{ordinal_of, shape_of, host_of, value_in, assignable}
use Rattle.estelle_model.specs.Operators.{bool_of, plus, minus, times, divided, modulo, one_member, members_from}
use Rattle.estelle_model.specs.States.{Offers}
use Rattle.estelle_model.specs.Stops.{Stop, Broken, stopping}
use Rattle.estelle_model.specs.Steps.{Running, StepResult, Step, Do, and_then, ◌>>=◌, ◌>>◌, pure, checked, all, spend, stop}
use Rattle.estelle_model.specs.declared.meaning.Routine.{Routine}
use Rattle.estelle_model.specs.declared.meaning.Passing.{Passing}
use Rattle.estelle_model.specs.declared.meaning.Passing.TheVariants.{ByValue, ByPlace}
use Rattle.estelle_model.specs.declared.place.Place.{Place}
use Rattle.estelle_model.specs.declared.place.Place.TheVariants.{Of, In}
use Rattle.estelle_model.specs.Places.{known, blanked, held, held_in, held_step, module_variables_of, load, put, put_in_instance, store, store_ordinal, blank_there, blank_at, child_step}
use Rattle.estelle_model.specs.declared.place.ActualParameters.{ActualParameters}
use Rattle.estelle_model.specs.Expressions.{Call, Operand, Access, Selecting, bool_step, ordinal_step, both, conjunction, disjunction, multiplied, added, place_of_operand, give, give_all, member_step, set_step}

-- it holds of each
abbrev pub Each : {A : Type 0} → (A → Type 0) → List A → Type 0
Each P [] = Unit {0}
Each P (a ∷ more) = P a × Each P more

abbrev pub IfThere : {A : Type 0} → (A → Type 0) → Option A → Type 0
IfThere P None = Unit {0}
IfThere P (Some a) = P a

-- each of some that have it has it, and each behind an operator
pub each_has : {A : Type 0} (P : A → Type 0) (xs : List (Related A A (λ x y. P x))) → Each P (map (λ (x : Related A A (λ x y. P x)). x.left) xs)
each_has P [] = tt
each_has P (x ∷ xs) = (x.holds, each_has P xs)

pub each_marked_has : {M A : Type 0} (P : A → Type 0) (xs : List (M × Related A A (λ x y. P x))) → Each (λ (x : M × A). P x.1) (map {B = M × A} (λ (x : M × Related A A (λ x y. P x)). (x.0, x.1.left)) xs)
each_marked_has P [] = tt
each_marked_has P (x ∷ xs) = (x.1.holds, each_marked_has P xs)

-- a property of what a step comes to from a state
abbrev pub Has : {S A : Type 0} → ((B : Type 0) → Running S → StepResult S B → Type 0) → Step S A → Type 0
Has {S} {A} Q p = (s : Running S) → Q A s (p s)

-- the property holds of each step that there is, and of what is made of steps
pub record IsClosed (S : Type 0) (on : Offers S) (Q : (A : Type 0) → Running S → StepResult S A → Type 0) : Type 1 where
  pub then : (A B : Type 0) (s : Running S) (o : StepResult S A) (f : A → Step S B) → Q A s o → ((a : A) → Has Q (f a)) → Q B s (and_then o f)
  pub pure : (A : Type 0) (a : A) → Has {S = S} {A = A} Q (pure a)
  pub stop : (A : Type 0) (e : Stop) → Has {S = S} {A = A} Q (stop e)
  pub spend : Has {S = S} {A = Unit {0}} Q spend
  -- frames may change
  pub framed : (A : Type 0) (f : List Value → A × List Value) → Has {S = S} {A = A} Q (λ s. Ok ((f s.frames).0, record s { frames = (f s.frames).1 }))
  -- a value may be stored at a place of an instance
  pub stored : (p : List ℕ) (x : ℕ) (way : List ℕ) (v : Value) → Has {S = S} {A = Unit {0}} Q (λ s. put_in_instance S on (fin.get (on.core s.state).instances p) p x way v s)

module _ (S : Type 0) (on : Offers S) (Q : (A : Type 0) → Running S → StepResult S A → Type 0) (closed : IsClosed S on Q) where
  pub then_kept : (A B : Type 0) (p : Step S A) (f : A → Step S B) → Has Q p → ((a : A) → Has Q (f a)) → Has Q (p >>= f)
  then_kept A B p f h k s = closed.then A B s (p s) f (h s) k

  pub pure_kept : (A : Type 0) (a : A) → Has {A = A} Q (pure a)
  pure_kept A a = closed.pure A a

  pub stop_kept : (A : Type 0) (e : Stop) → Has {A = A} Q (stop e)
  stop_kept A e = closed.stop A e

  pub spend_kept : Has {A = Unit {0}} Q spend
  spend_kept = closed.spend

  pub checked_kept : (A : Type 0) (x : Result A Stop) → Has {A = A} Q (checked x)
  checked_kept A (Ok a) = closed.pure A a
  checked_kept A (Err e) = closed.stop A e

  -- what is read of the state, or what stops it
  pub read_kept : (A : Type 0) (f : Running S → Result A Stop) → Has {A = A} Q (λ s. checked (f s) s)
  read_kept A f s = checked_kept A (f s) s

  pub if_kept : (A : Type 0) (b : Bool) (p q : Step S A) → Has Q p → Has Q q → Has Q (cond b p q)
  if_kept A true p q h k = h
  if_kept A false p q h k = k

  pub seq_kept : (A : Type 0) (p : Do S) (q : Step S A) → Has Q p → Has Q q → Has Q (p >> q)
  seq_kept A p q h k = then_kept (Unit {0}) A p (λ _. q) h (λ _. k)

  pub all_kept : (ps : List (Do S)) → Each (Has {A = Unit {0}} Q) ps → Has Q (all ps)
  all_kept [] h = pure_kept (Unit {0}) tt
  all_kept (p ∷ ps) h = seq_kept (Unit {0}) p (all ps) h.0 (all_kept ps h.1)

  -- ---- operands

  pub record OperandKept (e : Operand S) : Type 0 where
    pub value : Has Q e.value
    pub place : IfThere (Has {A = Place} Q) e.place

  abbrev pub AccessKept : Access S → Type 0
  AccessKept a = Has Q a.place

  abbrev pub SelectingKept : Selecting S → Type 0
  SelectingKept x = (a : Access S) → AccessKept a → AccessKept (x.over a)

  abbrev pub CallKept : Call S → Type 0
  CallKept call = (r : Routine) (g : ActualParameters) → Has Q (call r g)

  pub of_value_kept : (A : Type 0) (f : Value → Result A Stop) (p : Step S Value) → Has Q p → Has Q (p >>= λ v. checked (f v))
  of_value_kept A f p h = then_kept Value A p (λ v. checked (f v)) h (λ v. checked_kept A (f v))

  pub both_kept : (f : Value → Value → Result Value Stop) (p q : Step S Value) → Has Q p → Has Q q → Has Q (both f p q)
  both_kept f p q h k = then_kept Value Value p (λ v. q >>= λ w. checked (f v w)) h (λ v. of_value_kept Value (f v) q k)

  bool_value_kept : (q : Step S Value) → Has Q q → Has Q (bool_step q >>= λ c. pure (pascal.Bool c))
  bool_value_kept q h = then_kept Bool Value (bool_step q) (λ c. pure (pascal.Bool c)) (of_value_kept Bool bool_of q h) (λ c. pure_kept Value (pascal.Bool c))

  conjunction_kept : (p q : Step S Value) → Has Q p → Has Q q → Has Q (conjunction p q)
  unfolding conjunction
  conjunction_kept p q h k = then_kept Bool Value (bool_step p) (λ b. cond b (bool_step q >>= λ c. pure (pascal.Bool c)) (pure (pascal.Bool false))) (of_value_kept Bool bool_of p h)
      (λ b. if_kept Value b (bool_step q >>= λ c. pure (pascal.Bool c)) (pure (pascal.Bool false)) (bool_value_kept q k) (pure_kept Value (pascal.Bool false)))

  disjunction_kept : (p q : Step S Value) → Has Q p → Has Q q → Has Q (disjunction p q)
  unfolding disjunction
  disjunction_kept p q h k = then_kept Bool Value (bool_step p) (λ b. cond b (pure (pascal.Bool true)) (bool_step q >>= λ c. pure (pascal.Bool c))) (of_value_kept Bool bool_of p h)
      (λ b. if_kept Value b (pure (pascal.Bool true)) (bool_step q >>= λ c. pure (pascal.Bool c)) (pure_kept Value (pascal.Bool true)) (bool_value_kept q k))

  pub multiplied_kept : (op : Multiplying) (p q : Step S Value) → Has Q p → Has Q q → Has Q (multiplied op p q)
  multiplied_kept multiplying.Star p q h k = both_kept times p q h k
  multiplied_kept multiplying.Div p q h k = both_kept divided p q h k
  multiplied_kept multiplying.Mod p q h k = both_kept modulo p q h k
  multiplied_kept multiplying.And p q h k = conjunction_kept p q h k

  pub added_kept : (op : Adding) (p q : Step S Value) → Has Q p → Has Q q → Has Q (added op p q)
  added_kept adding.Plus p q h k = both_kept plus p q h k
  added_kept adding.Minus p q h k = both_kept minus p q h k
  added_kept adding.Or p q h k = disjunction_kept p q h k

  place_of_kept : (o : Option (Step S Place)) → IfThere (Has {A = Place} Q) o → Has Q (place_of_operand o)
  place_of_kept None h = stop_kept Place Broken
  place_of_kept (Some p) h = h

  give_kept : (p : Passing) (e : Operand S) (g : ActualParameters) → OperandKept e → Has Q (give p e g)
  give_kept (ByValue t) e g h = then_kept Value ActualParameters e.value (λ v. checked (stopping (assignable (shape_of t) v)) >>= λ ok. pure (record g { values = g.values ++ v ∷ [] })) h.value
      (λ v. then_kept (Unit {0}) ActualParameters (checked (stopping (assignable (shape_of t) v))) (λ ok. pure (record g { values = g.values ++ v ∷ [] })) (checked_kept (Unit {0}) (stopping (assignable (shape_of t) v))) (λ ok. pure_kept ActualParameters (record g { values = g.values ++ v ∷ [] })))
  give_kept ByPlace e g h = then_kept Place ActualParameters (place_of_operand e.place) (λ p. pure (record g { references = g.references ++ p ∷ [] })) (place_of_kept e.place h.place) (λ p. pure_kept ActualParameters (record g { references = g.references ++ p ∷ [] }))

  pub give_all_kept : (ps : List Passing) (es : List (Operand S)) (g : ActualParameters) → Each OperandKept es → Has Q (give_all ps es g)
  give_all_kept [] [] g h = pure_kept ActualParameters g
  give_all_kept [] (e ∷ es) g h = stop_kept ActualParameters Broken
  give_all_kept (p ∷ ps) [] g h = stop_kept ActualParameters Broken
  give_all_kept (p ∷ ps) (e ∷ es) g h = then_kept ActualParameters ActualParameters (give p e g) (λ k. give_all ps es k) (give_kept p e g h.0) (λ k. give_all_kept ps es k h.1)

  pub member_kept : (e : Operand S) (o : Option (Operand S)) → OperandKept e → IfThere OperandKept o → Has Q (member_step e o)
  member_kept e None h k = then_kept ℤ (List ℕ) (ordinal_step e.value) (λ n. checked (one_member n)) (of_value_kept ℤ ordinal_of e.value h.value) (λ n. checked_kept (List ℕ) (one_member n))
  member_kept e (Some f) h k = then_kept ℤ (List ℕ) (ordinal_step e.value) (λ a. ordinal_step f.value >>= λ b. checked (members_from a b)) (of_value_kept ℤ ordinal_of e.value h.value)
      (λ a. then_kept ℤ (List ℕ) (ordinal_step f.value) (λ b. checked (members_from a b)) (of_value_kept ℤ ordinal_of f.value k.value) (λ b. checked_kept (List ℕ) (members_from a b)))

  pub set_kept : (made : List ℕ) (ps : List (Step S (List ℕ))) → Each (Has {A = List ℕ} Q) ps → Has Q (set_step made ps)
  set_kept made [] h = pure_kept Value (pascal.Set made)
  set_kept made (p ∷ ps) h = then_kept (List ℕ) Value p (λ ns. set_step (union made ns) ps) h.0 (λ ns. set_kept (union made ns) ps h.1)

  -- ---- places

  pub load_kept : (a : Place) → Has {A = Value} Q (load S on a)
  unfolding load
  load_kept a = read_kept Value (λ s. known (held S on a s))

  held_kept : (a : Place) → Has {A = Option Value} Q (held_step S on a)
  held_kept a = read_kept (Option Value) (λ s. held S on a s)

  pub put_kept : (a : Place) (v : Value) → Has {A = Unit {0}} Q (put S on a v)
  unfolding put
  put_kept (Of p x way) v = closed.stored p x way v
  put_kept (In f x way) v = closed.framed (Unit {0}) (λ fs. (tt, changed_at fs f (λ frame. with_part frame (x ∷ way) v)))

  pub store_kept : (d : Denoter) (a : Place) (v : Value) → Has {A = Unit {0}} Q (store S on d a v)
  unfolding store
  store_kept d a v = seq_kept (Unit {0}) (held_step S on a >> checked (stopping (assignable (shape_of d) v))) (put S on a v)
      (then_kept (Option Value) (Unit {0}) (held_step S on a) (λ o. checked (stopping (assignable (shape_of d) v))) (held_kept a) (λ o. checked_kept (Unit {0}) (stopping (assignable (shape_of d) v)))) (put_kept a v)

  blank_there_kept : (a : Place) (o : Option Value) → Has {A = Unit {0}} Q (blank_there S on a o)
  blank_there_kept a None = stop_kept (Unit {0}) Broken
  blank_there_kept a (Some v) = put_kept a (blanked v)

  pub blank_kept : (a : Place) → Has {A = Unit {0}} Q (blank_at S on a)
  unfolding blank_at
  blank_kept a = then_kept (Option Value) (Unit {0}) (held_step S on a) (blank_there S on a) (held_kept a) (blank_there_kept a)

  pub store_ordinal_kept : (d : Denoter) (a : Place) (n : ℤ) → Has {A = Unit {0}} Q (store_ordinal S on d a n)
  unfolding store_ordinal
  store_ordinal_kept d a n = then_kept Value (Unit {0}) (checked (value_in (host_of d) n)) (λ v. store S on d a v) (checked_kept Value (value_in (host_of d) n)) (λ v. store_kept d a v)

  pub child_kept : (p : List ℕ) (k : ℕ) → Has {A = List ℕ} Q (child_step S on p k)
  unfolding child_step
  child_kept p k = read_kept (List ℕ) (λ s. held_in (slice_get (module_variables_of (fin.get (on.core s.state).instances p)) k))
