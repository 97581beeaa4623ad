-- What every expression keeps: an invariant of the state, and that the sets in values rise.
-- It is stated once, over any invariant; expressions and statements stand above in SoundExpressions and SoundStatements.
use Rattle.std.proofs.Common.{◌≡◌, ℕ, ◌-◌, ◌<◌, Bool, true, false, List, [], ◌∷◌, ◌++◌, ℤ, Result, Ok, Err, Option, Some, None, refl, cond}
use Rattle.std.proofs.lemmas.Bool.{ltb-true}
use Rattle.std.specs.Prelude.{slice_get, nat_lt}
use Rattle.std.specs.FinMap as fin
use Rattle.pascal_values.specs.declared.fault.Fault.TheVariants.{StepLimit}
use Rattle.pascal_values.specs.declared.value.Value.{Value}
use Rattle.pascal_values.specs.declared.value.Value.TheVariants as pascal
use Rattle.pascal_values.specs.Values.{changed_at, with_part}
use Rattle.pascal_values.specs.Sets.{IsSet, union}
use Rattle.estelle_tree.specs.declared.tree.expression.Adding.{Adding}
use Rattle.estelle_tree.specs.declared.tree.expression.Adding.TheVariants as adding
use Rattle.estelle_tree.specs.declared.tree.expression.Multiplying.{Multiplying}
use Rattle.estelle_tree.specs.declared.tree.expression.Multiplying.TheVariants as multiplying
use Rattle.estelle_model.specs.Core.{Instance}
use Rattle.estelle_model.specs.Effects.{Store}
use Rattle.estelle_model.specs.Belonging.{may_store}
use Rattle.estelle_model.specs.declared.denoter.Denoter.{Denoter}
use Rattle.estelle_model.specs.Types.{ordinal_of, shape_of, host_of, value_in, assignable}
use Rattle.estelle_model.specs.Operators.{bool_of, plus, minus, times, divided, modulo, one_member, members_from}
use Rattle.estelle_model.specs.States.{Offers}
use Rattle.estelle_model.specs.Stops.{Stop, Faults, Broken, stopping}
use Rattle.estelle_model.specs.Steps.{Running, StepResult, Step, Do, and_then, ◌>>=◌, ◌>>◌, pure, checked, all, spend, stop}
use Rattle.estelle_model.specs.declared.meaning.Routine.{Routine}
use Rattle.estelle_model.specs.declared.meaning.Passing.{Passing}
use Rattle.estelle_model.specs.declared.meaning.Passing.TheVariants.{ByValue, ByPlace}
use Rattle.estelle_model.specs.declared.place.Place.{Place}
use Rattle.estelle_model.specs.declared.place.Place.TheVariants.{Of, In}
use Rattle.estelle_model.specs.Places.{known, blanked, held, held_in, held_step, module_variables_of, load, put, put_in_instance, store, store_ordinal, blank_there, blank_at, child_step}
use Rattle.estelle_model.specs.declared.place.ActualParameters.{ActualParameters}
use Rattle.estelle_model.specs.Expressions.{Call, Operand, Access, Selecting, bool_step, ordinal_step, both, conjunction, disjunction, multiplied, added, place_of_operand, give, give_all, member_step, set_step}
use Rattle.estelle_model.proofs.Units.{Each, IfThere}
use Rattle.trace_forms.proofs.Values.{Rises, AllRise, Yields, bool_rises, set_rises, union_is, plus_yields, minus_yields, times_yield, divided_yields, modulo_yields, value_in_yields, set_value_yields, blanked_rises}
use Rattle.trace_forms.proofs.Lists.{all_append}

-- of every result it is said
abbrev pub Any : {A : Type 0} → A → Type 0
Any a = Unit {0}

abbrev pub GivenRise : ActualParameters → Type 0
GivenRise g = AllRise g.values

-- an invariant of what runs, which taking a unit and storing values keep; what is loaded has sets that rise
pub record IsClosed (S : Type 0) (on : Offers S) (I : Running S → Type 0) : Type 0 where
  pub spent : (s : Running S) → I s → 0 < s.left → I (record s { left = s.left - 1 })
  pub loaded : (s : Running S) → I s → (a : Place) (v : Value) → held S on a s ≡ Ok (Some v) → Rises v
  pub stored : (s : Running S) → I s → (p : List ℕ) (x : ℕ) (way : List ℕ) (v : Value) → Rises v → I (record s { state = on.keeps p (Store x way v) s.state })
  pub framed : (s : Running S) → I s → (f x : ℕ) (way : List ℕ) (v : Value) → Rises v → I (record s { frames = changed_at s.frames f (λ frame. with_part frame (x ∷ way) v) })

module _ (S : Type 0) (I : Running S → Type 0) where
  -- where a step ends, the invariant holds, and this of its result
  abbrev pub Comes : {A : Type 0} → (A → Type 0) → StepResult S A → Type 0
  Comes P (Ok r) = P r.0 × I r.1
  Comes P (Err e) = Unit {0}

  abbrev pub Gives : {A : Type 0} → (A → Type 0) → Step S A → Type 0
  Gives P p = (s : Running S) → I s → Comes P (p s)

  pub comes_then : (A B : Type 0) (P : A → Type 0) (R : B → Type 0) (o : StepResult S A) (f : A → Step S B) → Comes P o → ((a : A) → P a → Gives R (f a)) → Comes R (and_then o f)
  comes_then A B P R (Ok r) f h k = k r.0 h.0 r.1 h.1
  comes_then A B P R (Err e) f h k = tt

  pub then_sound : (A B : Type 0) (P : A → Type 0) (R : B → Type 0) (p : Step S A) (f : A → Step S B) → Gives P p → ((a : A) → P a → Gives R (f a)) → Gives R (p >>= f)
  then_sound A B P R p f h k s i = comes_then A B P R (p s) f (h s i) k

  pub then_any : (A B : Type 0) (R : B → Type 0) (p : Step S A) (f : A → Step S B) → Gives Any p → ((a : A) → Gives R (f a)) → Gives R (p >>= f)
  then_any A B R p f h k = then_sound A B Any R p f h (λ a _. k a)

  pub pure_sound : (A : Type 0) (P : A → Type 0) (a : A) → P a → Gives P (pure a)
  pure_sound A P a h s i = (h, i)

  pub pure_any : (A : Type 0) (a : A) → Gives Any (pure a)
  pure_any A a s i = (tt, i)

  pub stop_sound : (A : Type 0) (P : A → Type 0) (e : Stop) → Gives P (stop e)
  stop_sound A P e s i = tt

  weaker : (A : Type 0) (P : A → Type 0) (o : StepResult S A) → Comes P o → Comes Any o
  weaker A P (Ok r) h = (tt, h.1)
  weaker A P (Err e) h = tt

  pub gives_any : (A : Type 0) (P : A → Type 0) (p : Step S A) → Gives P p → Gives Any p
  gives_any A P p h s i = weaker A P (p s) (h s i)

  pub checked_any : (A : Type 0) (x : Result A Stop) → Gives Any (checked x)
  checked_any A (Ok a) s i = (tt, i)
  checked_any A (Err f) s i = tt

  pub checked_sound : (x : Result Value Stop) → Yields x → Gives Rises (checked x)
  checked_sound (Ok a) h s i = (h, i)
  checked_sound (Err f) h s i = tt

  pub read_any : (A : Type 0) (f : Running S → Result A Stop) → Gives Any (λ s. checked (f s) s)
  read_any A f s i = checked_any A (f s) s i

  pub if_sound : (A : Type 0) (P : A → Type 0) (b : Bool) (p q : Step S A) → Gives P p → Gives P q → Gives P (cond b p q)
  if_sound A P true p q h k = h
  if_sound A P false p q h k = k

  pub seq_sound : (A : Type 0) (P : A → Type 0) (p : Do S) (q : Step S A) → Gives Any p → Gives P q → Gives P (p >> q)
  seq_sound A P p q h k = then_any (Unit {0}) A P p (λ _. q) h (λ _. k)

  pub all_sound : (ps : List (Do S)) → Each (Gives {A = Unit {0}} Any) ps → Gives Any (all ps)
  all_sound [] h = pure_any (Unit {0}) tt
  all_sound (p ∷ ps) h = seq_sound (Unit {0}) Any p (all ps) h.0 (all_sound ps h.1)

  -- ---- operands

  pub record OperandSound (e : Operand S) : Type 0 where
    pub value : Gives Rises e.value
    pub place : IfThere (Gives {A = Place} Any) e.place

  abbrev pub AccessSound : Access S → Type 0
  AccessSound a = Gives Any a.place

  abbrev pub SelectingSound : Selecting S → Type 0
  SelectingSound x = (a : Access S) → AccessSound a → AccessSound (x.over a)

  -- calls of the routines that are told
  abbrev pub CallSound : (Routine → Type 0) → Call S → Type 0
  CallSound Told call = (r : Routine) (g : ActualParameters) → Told r → GivenRise g → Gives Rises (call r g)

  pub of_value_any : (A : Type 0) (f : Value → Result A Stop) (p : Step S Value) → Gives Rises p → Gives Any (p >>= λ v. checked (f v))
  of_value_any A f p h = then_sound Value A Rises Any p (λ v. checked (f v)) h (λ v _. checked_any A (f v))

  pub of_value_sound : (f : Value → Result Value Stop) → ((v : Value) → Yields (f v)) → (p : Step S Value) → Gives Rises p → Gives Rises (p >>= λ v. checked (f v))
  of_value_sound f y p h = then_sound Value Value Rises Rises p (λ v. checked (f v)) h (λ v _. checked_sound (f v) (y v))

  pub both_sound : (f : Value → Value → Result Value Stop) → ((v w : Value) → Yields (f v w)) → (p q : Step S Value) → Gives Rises p → Gives Rises q → Gives Rises (both f p q)
  both_sound f y p q h k = then_sound Value Value Rises Rises p (λ v. q >>= λ w. checked (f v w)) h (λ v _. of_value_sound (f v) (y v) q k)

  bool_value_sound : (q : Step S Value) → Gives Rises q → Gives Rises (bool_step q >>= λ c. pure (pascal.Bool c))
  bool_value_sound q h = then_any Bool Value Rises (bool_step q) (λ c. pure (pascal.Bool c)) (of_value_any Bool bool_of q h) (λ c. pure_sound Value Rises (pascal.Bool c) (bool_rises c))

  conjunction_sound : (p q : Step S Value) → Gives Rises p → Gives Rises q → Gives Rises (conjunction p q)
  unfolding conjunction
  conjunction_sound p q h k = then_any Bool Value Rises (bool_step p) (λ b. cond b (bool_step q >>= λ c. pure (pascal.Bool c)) (pure (pascal.Bool false))) (of_value_any Bool bool_of p h)
      (λ b. if_sound Value Rises b (bool_step q >>= λ c. pure (pascal.Bool c)) (pure (pascal.Bool false)) (bool_value_sound q k) (pure_sound Value Rises (pascal.Bool false) (bool_rises false)))

  disjunction_sound : (p q : Step S Value) → Gives Rises p → Gives Rises q → Gives Rises (disjunction p q)
  unfolding disjunction
  disjunction_sound p q h k = then_any Bool Value Rises (bool_step p) (λ b. cond b (pure (pascal.Bool true)) (bool_step q >>= λ c. pure (pascal.Bool c))) (of_value_any Bool bool_of p h)
      (λ b. if_sound Value Rises b (pure (pascal.Bool true)) (bool_step q >>= λ c. pure (pascal.Bool c)) (pure_sound Value Rises (pascal.Bool true) (bool_rises true)) (bool_value_sound q k))

  pub multiplied_sound : (op : Multiplying) (p q : Step S Value) → Gives Rises p → Gives Rises q → Gives Rises (multiplied op p q)
  multiplied_sound multiplying.Star p q h k = both_sound times times_yield p q h k
  multiplied_sound multiplying.Div p q h k = both_sound divided divided_yields p q h k
  multiplied_sound multiplying.Mod p q h k = both_sound modulo modulo_yields p q h k
  multiplied_sound multiplying.And p q h k = conjunction_sound p q h k

  pub added_sound : (op : Adding) (p q : Step S Value) → Gives Rises p → Gives Rises q → Gives Rises (added op p q)
  added_sound adding.Plus p q h k = both_sound plus plus_yields p q h k
  added_sound adding.Minus p q h k = both_sound minus minus_yields p q h k
  added_sound adding.Or p q h k = disjunction_sound p q h k

  place_of_sound : (o : Option (Step S Place)) → IfThere (Gives {A = Place} Any) o → Gives Any (place_of_operand o)
  place_of_sound None h = stop_sound Place Any Broken
  place_of_sound (Some p) h = h

  give_sound : (p : Passing) (e : Operand S) (g : ActualParameters) → GivenRise g → OperandSound e → Gives GivenRise (give p e g)
  give_sound (ByValue t) e g r h = then_sound Value ActualParameters Rises GivenRise e.value (λ v. checked (stopping (assignable (shape_of t) v)) >>= λ ok. pure (record g { values = g.values ++ v ∷ [] })) h.value
      (λ v y. then_any (Unit {0}) ActualParameters GivenRise (checked (stopping (assignable (shape_of t) v))) (λ ok. pure (record g { values = g.values ++ v ∷ [] })) (checked_any (Unit {0}) (stopping (assignable (shape_of t) v))) (λ ok. pure_sound ActualParameters GivenRise (record g { values = g.values ++ v ∷ [] }) (all_append Rises g.values (v ∷ []) r (y, tt))))
  give_sound ByPlace e g r h = then_any Place ActualParameters GivenRise (place_of_operand e.place) (λ p. pure (record g { references = g.references ++ p ∷ [] })) (place_of_sound e.place h.place) (λ p. pure_sound ActualParameters GivenRise (record g { references = g.references ++ p ∷ [] }) r)

  pub give_all_sound : (ps : List Passing) (es : List (Operand S)) (g : ActualParameters) → GivenRise g → Each OperandSound es → Gives GivenRise (give_all ps es g)
  give_all_sound [] [] g r h = pure_sound ActualParameters GivenRise g r
  give_all_sound [] (e ∷ es) g r h = stop_sound ActualParameters GivenRise Broken
  give_all_sound (p ∷ ps) [] g r h = stop_sound ActualParameters GivenRise Broken
  give_all_sound (p ∷ ps) (e ∷ es) g r h = then_sound ActualParameters ActualParameters GivenRise GivenRise (give p e g) (λ k. give_all ps es k) (give_sound p e g r h.0) (λ k y. give_all_sound ps es k y h.1)

  pub member_sound : (e : Operand S) (o : Option (Operand S)) → OperandSound e → IfThere OperandSound o → Gives Any (member_step e o)
  member_sound e None h k = then_any ℤ (List ℕ) Any (ordinal_step e.value) (λ n. checked (one_member n)) (of_value_any ℤ ordinal_of e.value h.value) (λ n. checked_any (List ℕ) (one_member n))
  member_sound e (Some f) h k = then_any ℤ (List ℕ) Any (ordinal_step e.value) (λ a. ordinal_step f.value >>= λ b. checked (members_from a b)) (of_value_any ℤ ordinal_of e.value h.value)
      (λ a. then_any ℤ (List ℕ) Any (ordinal_step f.value) (λ b. checked (members_from a b)) (of_value_any ℤ ordinal_of f.value k.value) (λ b. checked_any (List ℕ) (members_from a b)))

  pub set_sound : (made : List ℕ) → IsSet made → (ps : List (Step S (List ℕ))) → Each (Gives {A = List ℕ} Any) ps → Gives Rises (set_step made ps)
  set_sound made is [] h = pure_sound Value Rises (pascal.Set made) (set_rises made is)
  set_sound made is (p ∷ ps) h = then_any (List ℕ) Value Rises p (λ ns. set_step (union made ns) ps) h.0 (λ ns. set_sound (union made ns) (union_is made ns) ps h.1)

  -- ---- places

  module _ (on : Offers S) (closed : IsClosed S on I) where
    pub spend_sound : Gives {A = Unit {0}} Any spend
    unfolding spend
    spend_sound s i = by (nat_lt 0 s.left) refl
      where
        by : (b : Bool) → nat_lt 0 s.left ≡ b → Comes Any (cond b (Ok (tt {0}, record s { left = s.left - 1 })) (Err (Faults StepLimit, s.left)))
        by true is = (tt, closed.spent s i (ltb-true 0 s.left is))
        by false is = tt

    known_yields : (r : Result (Option Value) Stop) → ((v : Value) → r ≡ Ok (Some v) → Rises v) → Yields (known r)
    known_yields (Ok None) h = tt
    known_yields (Ok (Some v)) h = set_value_yields v (h v refl)
    known_yields (Err e) h = tt

    pub load_sound : (a : Place) → Gives Rises (load S on a)
    unfolding load
    load_sound a s i = checked_sound (known (held S on a s)) (known_yields (held S on a s) (closed.loaded s i a)) s i

    put_at_sound : (p : List ℕ) (x : ℕ) (way : List ℕ) (v : Value) → Rises v → (s : Running S) → I s → (o : Option Instance) → Comes Any (put_in_instance S on o p x way v s)
    put_at_sound p x way v y s i None = tt
    put_at_sound p x way v y s i (Some z) = by (may_store ((on.core s.state).types z.body) x way v)
      where
        by : (b : Bool) → Comes {A = Unit {0}} Any (cond b (Ok (tt {0}, record s { state = on.keeps p (Store x way v) s.state })) (Err (Broken, s.left)))
        by true = (tt, closed.stored s i p x way v y)
        by false = tt

    pub put_sound : (a : Place) (v : Value) → Rises v → Gives {A = Unit {0}} Any (put S on a v)
    unfolding put
    put_sound (Of p x way) v y s i = put_at_sound p x way v y s i (fin.get (on.core s.state).instances p)
    put_sound (In f x way) v y s i = (tt, closed.framed s i f x way v y)

    pub store_sound : (d : Denoter) (a : Place) (v : Value) → Rises v → Gives {A = Unit {0}} Any (store S on d a v)
    unfolding store
    store_sound d a v y = seq_sound (Unit {0}) Any (held_step S on a >> checked (stopping (assignable (shape_of d) v))) (put S on a v)
        (then_any (Option Value) (Unit {0}) Any (held_step S on a) (λ o. checked (stopping (assignable (shape_of d) v))) (read_any (Option Value) (λ s. held S on a s)) (λ o. checked_any (Unit {0}) (stopping (assignable (shape_of d) v)))) (put_sound a v y)

    blank_there_sound : (a : Place) (o : Option Value) → Gives {A = Unit {0}} Any (blank_there S on a o)
    blank_there_sound a None = stop_sound (Unit {0}) Any Broken
    blank_there_sound a (Some v) = put_sound a (blanked v) (blanked_rises v)

    pub blank_sound : (a : Place) → Gives {A = Unit {0}} Any (blank_at S on a)
    unfolding blank_at
    blank_sound a = then_any (Option Value) (Unit {0}) Any (held_step S on a) (blank_there S on a) (read_any (Option Value) (λ s. held S on a s)) (blank_there_sound a)

    pub store_ordinal_sound : (d : Denoter) (a : Place) (n : ℤ) → Gives {A = Unit {0}} Any (store_ordinal S on d a n)
    unfolding store_ordinal
    store_ordinal_sound d a n = then_sound Value (Unit {0}) Rises Any (checked (value_in (host_of d) n)) (λ v. store S on d a v) (checked_sound (value_in (host_of d) n) (value_in_yields (host_of d) n)) (λ v y. store_sound d a v y)

    pub child_sound : (p : List ℕ) (k : ℕ) → Gives {A = List ℕ} Any (child_step S on p k)
    unfolding child_step
    child_sound p k = read_any (List ℕ) (λ s. held_in (slice_get (module_variables_of (fin.get (on.core s.state).instances p)) k))
