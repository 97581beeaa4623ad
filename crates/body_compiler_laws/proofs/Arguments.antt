-- Arguments of a call: what they are compiled to leaves what is given for each parameter, the last on top.
use Rattle.std.proofs.Common.{◌≡◌, ◌∙◌, refl, sym, ap, ℕ, Bool, List, [], ◌∷◌, ◌++◌, length, append_assoc, append-nil, Result, Ok, Err, Option, Some, None, arith}
use Rattle.pascal_values.specs.declared.value.Value.{Value}
use Rattle.estelle_tree.specs.declared.tree.name.Name.{Name}
use Rattle.body_code.specs.declared.instr.Instr.TheVariants as op
use Rattle.estelle_model.specs.declared.denoter.Denoter.{Denoter}
use Rattle.estelle_model.specs.Types.{shape_of, assignable}
use Rattle.estelle_model.specs.Stops.{Stop, stopping}
use Rattle.estelle_model.specs.States.{Logged, on_log}
use Rattle.estelle_model.specs.Steps.{Running, StepResult, Step, and_then, ◌>>=◌, ◌>>◌, pure, breaks, checked, checked_at}
use Rattle.estelle_model.specs.declared.meaning.Passing.{Passing}
use Rattle.estelle_model.specs.declared.meaning.Passing.TheVariants.{ByValue, ByPlace}
use Rattle.estelle_model.specs.declared.meaning.Routine.{Routine}
use Rattle.estelle_model.specs.declared.meaning.Meaning.TheVariants.{Called}
use Rattle.estelle_model.specs.declared.place.Place.{Place}
use Rattle.estelle_model.specs.declared.place.ActualParameters.{ActualParameters}
use Rattle.estelle_model.specs.Places.{set_value}
use Rattle.estelle_model.specs.Expressions as model
use Rattle.estelle_model.specs.Expressions.{Call, place_of_operand, give_all, no_arguments, called}
use Rattle.estelle_model.proofs.Alike.{EachAlike, MaybeAlike}
use Rattle.body_machine.specs.declared.item.Item.{Item}
use Rattle.body_machine.specs.declared.item.Item.TheVariants.{Datum, Spot}
use Rattle.body_numbers.specs.Numbers.{shape_numbered}
use Rattle.body_machine.specs.Rows.{row, leaves, fit_as}
use Rattle.body_machine.specs.Steps.{goes_on}
use Rattle.body_compiler_pieces.specs.Pieces.{Piece, one, ◌⨾◌}
use Rattle.body_compiler_pieces.specs.ExpressionCode as code
use Rattle.body_compiler_pieces.specs.ExpressionCode.{Scope, by_number}
use Rattle.body_compiler_pieces.specs.StatementCode as compiled
use Rattle.body_compiler_laws.proofs.Frames.{outline}
use Rattle.body_compiler_laws.proofs.Does.{Site, machine, full, AreNamed, Does, Does1, then_does, under_does, instr_does, as_does, none_does, mapped_does, unmapped_does}
use Rattle.body_compiler_laws.proofs.Single.{datum, spot, no_item, result}
use Rattle.body_compiler_laws.proofs.Operands.{OperandDoes, computed_does, refused_does, by_number_does, IsScope}

-- what is given for each parameter
abbrev pub Given : List Passing → Type 0
Given [] = Unit {0}
Given (ByValue t ∷ ps) = Value × Given ps
Given (ByPlace ∷ ps) = Place × Given ps

abbrev pub values_of : (ps : List Passing) → Given ps → List Value
values_of [] a = []
values_of (ByValue t ∷ ps) a = a.0 ∷ values_of ps a.1
values_of (ByPlace ∷ ps) a = values_of ps a.1

abbrev pub places_of : (ps : List Passing) → Given ps → List Place
places_of [] a = []
places_of (ByValue t ∷ ps) a = places_of ps a.1
places_of (ByPlace ∷ ps) a = a.0 ∷ places_of ps a.1

-- in order
abbrev pub items_of : (ps : List Passing) → Given ps → List Item
items_of [] a = []
items_of (ByValue t ∷ ps) a = Datum a.0 ∷ items_of ps a.1
items_of (ByPlace ∷ ps) a = Spot a.0 ∷ items_of ps a.1

-- the last on top
abbrev pub stack_of : (ps : List Passing) → Given ps → List Item → List Item
stack_of [] a more = more
stack_of (ByValue t ∷ ps) a more = stack_of ps a.1 (Datum a.0 ∷ more)
stack_of (ByPlace ∷ ps) a more = stack_of ps a.1 (Spot a.0 ∷ more)

-- behind what was given before
abbrev pub with_given : ActualParameters → (ps : List Passing) → Given ps → ActualParameters
with_given g ps a = record { values = g.values ++ values_of ps a; references = g.references ++ places_of ps a }

abbrev pub actual : (ps : List Passing) → Given ps → ActualParameters
actual = with_given no_arguments

-- a value that fits
abbrev fitted : Denoter → Step Logged Value → Step Logged Value
fitted t x = x >>= λ v. checked (stopping (assignable (shape_of t) v)) >>= λ ok. pure v

-- arguments from left to right
abbrev given_steps : (ps : List Passing) → List (model.Operand Logged) → Step Logged (Given ps)
given_steps [] [] = pure tt
given_steps [] (e ∷ es) = breaks
given_steps (ByValue t ∷ ps) (e ∷ es) = fitted t e.value >>= λ v. given_steps ps es >>= λ a. pure (v, a)
given_steps (ByPlace ∷ ps) (e ∷ es) = place_of_operand e.place >>= λ p. given_steps ps es >>= λ a. pure (p, a)
given_steps (p ∷ ps) [] = breaks

then_pure : {A B D : Type 0} (o : StepResult Logged A) (f : A → B) (k : B → Step Logged D) → and_then (and_then o (λ a. pure (f a))) k ≡ and_then o (λ a. k (f a))
then_pure (Ok x) f k = refl
then_pure (Err e) f k = refl

-- they come to what the meaning gives
given_is : (ps : List Passing) (es : List (model.Operand Logged)) (g : ActualParameters) (r : Running Logged) → and_then (given_steps ps es r) (λ a. pure (with_given g ps a)) ≡ give_all ps es g r
given_is [] [] g r = ap (λ vs. Ok (record { values = vs; references = g.references ++ [] }, r)) (append-nil g.values) ∙ ap (λ ps. Ok (record { values = g.values; references = ps }, r)) (append-nil g.references)
given_is [] (e ∷ es) g r = refl
given_is (ByValue t ∷ ps) [] g r = refl
given_is (ByPlace ∷ ps) [] g r = refl
given_is (ByValue t ∷ ps) (e ∷ es) g r = of_value (λ h q. given_is ps es h q) (e.value r)
  where
    Rest : Type 0
    Rest = (h : ActualParameters) (q : Running Logged) → and_then (given_steps ps es q) (λ a. pure (with_given h ps a)) ≡ give_all ps es h q

    more : (v : Value) (q : Running Logged) (o : StepResult Logged (Given ps)) → and_then (and_then o (λ a. pure (v, a))) (λ a. pure (with_given g (ByValue t ∷ ps) a)) ≡ and_then o (λ a. pure (with_given (record g { values = g.values ++ v ∷ [] }) ps a))
    more v q (Ok x) = ap (λ vs. Ok (record { values = vs; references = g.references ++ places_of ps x.0 }, x.1)) (sym (append_assoc g.values (v ∷ []) (values_of ps x.0)))
    more v q (Err f) = refl

    of_fit : Rest → (v : Value) (q : Running Logged) (o : Result (Unit {0}) Stop) → and_then (and_then (and_then (checked_at o q) (λ ok. pure v)) (λ w. given_steps ps es >>= λ a. pure (w, a))) (λ a. pure (with_given g (ByValue t ∷ ps) a))
        ≡ and_then (and_then (checked_at o q) (λ ok. pure (record g { values = g.values ++ v ∷ [] }))) (λ h. give_all ps es h)
    of_fit rest v q (Ok done) = more v q (given_steps ps es q) ∙ rest (record g { values = g.values ++ v ∷ [] }) q
    of_fit rest v q (Err f) = refl

    of_value : Rest → (o : StepResult Logged Value) → and_then (and_then (and_then o (λ v. checked (stopping (assignable (shape_of t) v)) >>= λ ok. pure v)) (λ w. given_steps ps es >>= λ a. pure (w, a))) (λ a. pure (with_given g (ByValue t ∷ ps) a))
        ≡ and_then (and_then o (λ v. checked (stopping (assignable (shape_of t) v)) >>= λ ok. pure (record g { values = g.values ++ v ∷ [] }))) (λ h. give_all ps es h)
    of_value rest (Ok x) = of_fit rest x.0 x.1 (stopping (assignable (shape_of t) x.0))
    of_value rest (Err f) = refl
given_is (ByPlace ∷ ps) (e ∷ es) g r = of_place (λ h q. given_is ps es h q) (place_of_operand e.place r)
  where
    Rest : Type 0
    Rest = (h : ActualParameters) (q : Running Logged) → and_then (given_steps ps es q) (λ a. pure (with_given h ps a)) ≡ give_all ps es h q

    more : (p : Place) (q : Running Logged) (o : StepResult Logged (Given ps)) → and_then (and_then o (λ a. pure (p, a))) (λ a. pure (with_given g (ByPlace ∷ ps) a)) ≡ and_then o (λ a. pure (with_given (record g { references = g.references ++ p ∷ [] }) ps a))
    more p q (Ok x) = ap (λ places. Ok (record { values = g.values ++ values_of ps x.0; references = places }, x.1)) (sym (append_assoc g.references (p ∷ []) (places_of ps x.0)))
    more p q (Err f) = refl

    of_place : Rest → (o : StepResult Logged Place) → and_then (and_then o (λ p. given_steps ps es >>= λ a. pure (p, a))) (λ a. pure (with_given g (ByPlace ∷ ps) a)) ≡ and_then (and_then o (λ p. pure (record g { references = g.references ++ p ∷ [] }))) (λ h. give_all ps es h)
    of_place rest (Ok x) = more x.0 x.1 (given_steps ps es x.1) ∙ rest (record g { references = g.references ++ x.0 ∷ [] }) x.1
    of_place rest (Err f) = refl

-- what a call leaves: of a function its result, which is set
abbrev pub back : Option Denoter → Value → Step Logged (Option Value)
back None v = pure None
back (Some t) v = checked (set_value (Some v)) >>= λ w. pure (Some w)

abbrev pub result_item : Option Value → List Item
result_item None = []
result_item (Some v) = datum v

-- a call with all that is given does what the routine does
abbrev pub CallsDo : Site → Scope → Call Logged → Type 0
CallsDo c scope call = (x : Name) (r : Routine) (u : ℕ × ℕ) → scope.meant x ≡ Called r → scope.routine x ≡ Some u → (a : Given r.parameters) → AreNamed c (stack_of r.parameters a [])
    → Does c (one (op.Call u.0 u.1 (length r.parameters))) (stack_of r.parameters a []) (call r (actual r.parameters a) >>= back r.result) result_item

-- one after another, and what is computed at last
last_regrouped : {A B D E : Type 0} (o : StepResult Logged A) (f : A → Step Logged B) (g : B → Step Logged D) (h : D → E) → and_then o (λ a. f a >>= λ b. g b >>= λ d. pure (h d)) ≡ and_then (and_then o (λ a. f a >>= g)) (λ d. pure (h d))
last_regrouped (Err e) f g h = refl
last_regrouped {A} {B} {D} {E} (Ok x) f g h = by (f x.0 x.1)
  where
    by : (o : StepResult Logged B) → and_then o (λ b. g b >>= λ d. pure (h d)) ≡ and_then (and_then o g) (λ d. pure (h d))
    by (Ok y) = refl
    by (Err e) = refl

module _ (c : Site) (scope : Scope) (within : IsScope c scope) where
  pub fit_does : (k : ℕ) (t : Denoter) → shape_numbered c.numbers k ≡ Some (shape_of t) → (v : Value) → Does c (one (op.Fit k)) (datum v) (checked (stopping (assignable (shape_of t) v)) >>= λ ok. pure v) datum
  unfolding row
  fit_does k t is v = instr_does c (op.Fit k) (datum v) (checked (stopping (assignable (shape_of t) v)) >>= λ ok. pure v) datum
      (λ at turned old r below same. by at turned old r below same (stopping (assignable (shape_of t) v)) (ap (λ o. goes_on ((checked (fit_as o v) >> leaves (Datum v)) (full c old r)) below (machine c at (Datum v ∷ below) turned (full c old r))) is))
    where
      by : (at : ℕ) (turned : Bool) (old : List Value) (r : Running Logged) (below : List Item) → outline r.frames ≡ c.counts → (o : Result (Unit {0}) Stop)
          → result c (op.Fit k) (Datum v ∷ below) at turned old r ≡ goes_on ((checked o >> leaves (Datum v)) (full c old r)) below (machine c at (Datum v ∷ below) turned (full c old r))
          → Does1 c (op.Fit k) (datum v) datum at turned old r below ((checked o >>= λ ok. pure v) r)
      by at turned old r below same (Err e) h = h
      by at turned old r below same (Ok done) h = (h, same, omega arith, tt)

  fitted_does : (t : Denoter) (x : Step Logged Value) (p : Piece) (more : List Item) → AreNamed c more → Does c p [] x datum → Does c (p ⨾ by_number (scope.number (shape_of t)) (λ n. one (op.Fit n))) more (fitted t x) (λ v. Datum v ∷ more)
  fitted_does t x p more named h = under_does c (p ⨾ by_number (scope.number (shape_of t)) (λ n. one (op.Fit n))) [] more (fitted t x) datum named
      (then_does c p (by_number (scope.number (shape_of t)) (λ n. one (op.Fit n))) [] x (λ v. checked (stopping (assignable (shape_of t) v)) >>= λ ok. pure v) datum datum h
      (λ v none. by_number_does c (scope.number (shape_of t)) (λ n. one (op.Fit n)) (datum v) (checked (stopping (assignable (shape_of t) v)) >>= λ ok. pure v) datum (λ k is. fit_does k t (within.number (shape_of t) k is) v)))

  placed_does : (o : Option (Step Logged Place)) (o' : Option Piece) (more : List Item) → AreNamed c more → MaybeAlike (λ p q. Does c q [] p spot) o o' → Does c (code.place_of_operand scope o') more (place_of_operand o) (λ p. Spot p ∷ more)
  placed_does None None more named h = refused_does c more breaks (λ p. Spot p ∷ more)
  placed_does None (Some q) more named h = absurd h
  placed_does (Some p) None more named h = absurd h
  placed_does (Some p) (Some q) more named h = under_does c q [] more p spot named h

  given_does : (ps : List Passing) (es : List (model.Operand Logged)) (fs : List code.Operand) (more : List Item) → AreNamed c more → EachAlike (OperandDoes c) es fs → Does c (code.give_all scope ps fs) more (given_steps ps es) (λ a. stack_of ps a more)
  given_does [] [] [] more named h = none_does c more (tt {0}) (λ a. more) refl named
  given_does ps [] (f ∷ fs) more named h = absurd h
  given_does ps (e ∷ es) [] more named h = absurd h
  given_does [] (e ∷ es) (f ∷ fs) more named h = refused_does c {A = Given []} more breaks (λ a. more)
  given_does (ByValue t ∷ ps) [] [] more named h = refused_does c more breaks (λ a. stack_of (ByValue t ∷ ps) a more)
  given_does (ByPlace ∷ ps) [] [] more named h = refused_does c more breaks (λ a. stack_of (ByPlace ∷ ps) a more)
  given_does (ByValue t ∷ ps) (e ∷ es) (f ∷ fs) more named h = then_does c (code.give scope (ByValue t) f) (code.give_all scope ps fs) more (fitted t e.value) (λ v. given_steps ps es >>= λ a. pure (v, a)) (λ v. Datum v ∷ more) (λ a. stack_of (ByValue t ∷ ps) a more)
      (fitted_does t e.value f.value more named h.0.value)
      (λ v all. mapped_does c (code.give_all scope ps fs) (Datum v ∷ more) (given_steps ps es) (λ a. (v, a)) (λ a. stack_of (ByValue t ∷ ps) a more) (given_does ps es fs (Datum v ∷ more) all h.1))
  given_does (ByPlace ∷ ps) (e ∷ es) (f ∷ fs) more named h = then_does c (code.give scope ByPlace f) (code.give_all scope ps fs) more (place_of_operand e.place) (λ p. given_steps ps es >>= λ a. pure (p, a)) (λ p. Spot p ∷ more) (λ a. stack_of (ByPlace ∷ ps) a more)
      (placed_does e.place f.place more named h.0.place)
      (λ p all. mapped_does c (code.give_all scope ps fs) (Spot p ∷ more) (given_steps ps es) (λ a. (p, a)) (λ a. stack_of (ByPlace ∷ ps) a more) (given_does ps es fs (Spot p ∷ more) all h.1))

  -- arguments, and then what is done with all that is given
  pub arguments_do : (ps : List Passing) (es : List (model.Operand Logged)) (fs : List code.Operand) (q : Piece) {A : Type 0} (k : ActualParameters → Step Logged A) (left : A → List Item) → EachAlike (OperandDoes c) es fs
      → ((a : Given ps) → AreNamed c (stack_of ps a []) → Does c q (stack_of ps a []) (k (actual ps a)) left) → Does c (code.give_all scope ps fs ⨾ q) [] (give_all ps es no_arguments >>= k) left
  arguments_do ps es fs q k left h does = as_does c (code.give_all scope ps fs ⨾ q) [] (given_steps ps es >>= λ a. k (actual ps a)) (give_all ps es no_arguments >>= k) left
      (λ r. sym (then_pure (given_steps ps es r) (actual ps) k) ∙ ap (λ o. and_then o k) (given_is ps es no_arguments r))
      (then_does c (code.give_all scope ps fs) q [] (given_steps ps es) (λ a. k (actual ps a)) (λ a. stack_of ps a []) left (given_does ps es fs [] tt h) does)

  module _ (call : Call Logged) (calls : CallsDo c scope call) where
    call_does : (x : Name) (r : Routine) → scope.meant x ≡ Called r → (es : List (model.Operand Logged)) (fs : List code.Operand) → EachAlike (OperandDoes c) es fs
        → Does c (code.call scope (scope.routine x) r fs) [] (give_all r.parameters es no_arguments >>= λ g. call r g >>= back r.result) result_item
    call_does x r is es fs h = by (scope.routine x) (λ u found. calls x r u is found)
      where
        by : (o : Option (ℕ × ℕ)) → ((u : ℕ × ℕ) → o ≡ Some u → (a : Given r.parameters) → AreNamed c (stack_of r.parameters a []) → Does c (one (op.Call u.0 u.1 (length r.parameters))) (stack_of r.parameters a []) (call r (actual r.parameters a) >>= back r.result) result_item)
            → Does c (code.call scope o r fs) [] (give_all r.parameters es no_arguments >>= λ g. call r g >>= back r.result) result_item
        by None k = refused_does c [] (give_all r.parameters es no_arguments >>= λ g. call r g >>= back r.result) result_item
        by (Some u) k = arguments_do r.parameters es fs (one (op.Call u.0 u.1 (length r.parameters))) (λ g. call r g >>= back r.result) result_item h (k u refl)

    -- where a routine leaves this, the code leaves it
    abbrev CallLeaves : Routine → List (model.Operand Logged) → Piece → Option Denoter → Type 0
    CallLeaves r es p o = Does c p [] (give_all r.parameters es no_arguments >>= λ g. call r g >>= back o) result_item

    pub called_does : (x : Name) (r : Routine) → scope.meant x ≡ Called r → (es : List (model.Operand Logged)) (fs : List code.Operand) → EachAlike (OperandDoes c) es fs
        → OperandDoes c (model.computed (model.result_host r.result) (called Logged on_log scope.meant call c.here r es)) (code.called scope x r fs)
    unfolding called
    called_does x r is es fs h = computed_does c _ _ _ (by r.result (call_does x r is es fs h))
      where
        by : (o : Option Denoter) → CallLeaves r es (code.call scope (scope.routine x) r fs) o
            → Does c (code.where_result scope o (code.call scope (scope.routine x) r fs)) [] (give_all r.parameters es no_arguments >>= λ g. call r g >>= λ v. checked (set_value (Some v))) datum
        by None k = refused_does c [] _ datum
        by (Some t) k = unmapped_does c (code.call scope (scope.routine x) r fs) [] (give_all r.parameters es no_arguments >>= λ g. call r g >>= λ v. checked (set_value (Some v))) Some result_item
            (as_does c (code.call scope (scope.routine x) r fs) [] (give_all r.parameters es no_arguments >>= λ g. call r g >>= back (Some t)) ((give_all r.parameters es no_arguments >>= λ g. call r g >>= λ v. checked (set_value (Some v))) >>= λ w. pure (Some w)) result_item
            (λ q. last_regrouped (give_all r.parameters es no_arguments q) (λ g. call r g) (λ v. checked (set_value (Some v))) Some) k)

    pub invoked_does : (x : Name) (r : Routine) → scope.meant x ≡ Called r → (es : List (model.Operand Logged)) (fs : List code.Operand) → EachAlike (OperandDoes c) es fs
        → Does c (compiled.where_no_result scope r.result (code.call scope (scope.routine x) r fs)) [] (give_all r.parameters es no_arguments >>= λ g. call r g >>= λ v. pure tt) no_item
    invoked_does x r is es fs h = by r.result (call_does x r is es fs h)
      where
        by : (o : Option Denoter) → CallLeaves r es (code.call scope (scope.routine x) r fs) o
            → Does c (compiled.where_no_result scope o (code.call scope (scope.routine x) r fs)) [] (give_all r.parameters es no_arguments >>= λ g. call r g >>= λ v. pure tt) no_item
        by (Some t) k = refused_does c [] _ no_item
        by None k = unmapped_does c (code.call scope (scope.routine x) r fs) [] (give_all r.parameters es no_arguments >>= λ g. call r g >>= λ v. pure tt) (λ done. None) result_item
            (as_does c (code.call scope (scope.routine x) r fs) [] (give_all r.parameters es no_arguments >>= λ g. call r g >>= back None) ((give_all r.parameters es no_arguments >>= λ g. call r g >>= λ v. pure tt) >>= λ done. pure None) result_item
            (λ q. last_regrouped (give_all r.parameters es no_arguments q) (λ g. call r g) (λ v. pure tt) (λ done. None)) k)
