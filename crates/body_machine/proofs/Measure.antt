-- Each instruction brings a run nearer to its end: it takes a unit, or goes on in its unit, or ends it.
use Rattle.std.proofs.Common.{◌≡◌, refl, sym, subst, ℕ, zero, suc, ◌+◌, ◌-◌, ◌<◌, ◌≤◌, Bool, true, false, cond, List, [], ◌∷◌, length, Option, Some, None, Result, Ok, Err, arith}
use Rattle.std.specs.Prelude.{slice_get, nat_le, nat_lt}
use Rattle.std.specs.Map.{lookup}
use Rattle.std.proofs.lemmas.Bool.{leb-false, ltb-true}
use Rattle.std.proofs.lemmas.Option.{slice_get_within}
use Rattle.pascal_values.specs.declared.fault.Fault.TheVariants.{StepLimit, CallDepth}
use Rattle.pascal_values.specs.declared.value.Value.{Value}
use Rattle.estelle_tree.specs.Paths.{Path, child}
use Rattle.body_code.specs.declared.instr.Instr.{Instr}
use Rattle.body_code.specs.declared.unit.Entry.{Entry}
use Rattle.body_code.specs.declared.unit.Entry.TheVariants as entry
use Rattle.body_code.specs.declared.unit.CodeUnit.{CodeUnit}
use Rattle.body_code.specs.Units as units
use Rattle.body_code.specs.Units.{is_at, placed, place_of, body_behind, unit_of}
use Rattle.estelle_model.specs.declared.place.Place.{Place}
use Rattle.estelle_model.specs.declared.place.ActualParameters.{ActualParameters}
use Rattle.estelle_model.specs.Core.{Instance}
use Rattle.estelle_model.specs.States.{Logged, on_log}
use Rattle.estelle_model.specs.Stops.{Stop, Faults, Broken}
use Rattle.estelle_model.specs.Steps.{Running, StepResult, Step, and_then, ◌>>◌, pure, spend}
use Rattle.estelle_model.specs.Plans.{carry}
use Rattle.estelle_model.specs.Calls.{max_depth}
use Rattle.estelle_model.specs.Subject.{Subject, child_of}
use Rattle.estelle_model.specs.Actions.{may_begin, begins_child, holds_child}
use Rattle.estelle_model.specs.Operators.{bool_of}
use Rattle.body_actions.specs.Children as children
use Rattle.estelle_model.proofs.LoopLaws.{AtMost, NeverRaises}
use Rattle.estelle_model.proofs.Units.{seq_never, pure_never}
use Rattle.body_machine.specs.Machine.{Item, Datum, Spot, Return, ToNone, ToCaller, ToParent, Activation, Machine, Next, Goes, Stops}
use Rattle.body_numbers.specs.declared.numbers.Numbers.{Numbers}
use Rattle.body_machine.specs.Frames.{frame_with, push_frame, pop_frame, deeper_than}
use Rattle.body_machine.specs.Ends.{makes_child}
use Rattle.body_machine.specs.Rows.{Row, Nullary, OfValue, OfPlace, OfValues, OfBoth, OfMany, Jumps, JumpsWhere, Turns, Calls, Begins, Returns, row}
use Rattle.body_machine.specs.Steps.{goes_on, taken_from, values_from, with_values, jump_back, jump, decide, turn, given_to, nothing_given, begun, enter, call_given, call_with, call_unit, initialize, init_with, resume, held, return_to, by_row, act, next}
use Rattle.body_machine.proofs.Sparing.{Spares, carry_never, row_spares}

-- ---- the lengths of units

abbrev pub instructions_of : List CodeUnit → ℕ
instructions_of [] = 0
instructions_of (u ∷ us) = length u.instrs + instructions_of us

found_within : (p : units.Place) (here : Option ℕ) (us : List CodeUnit) (u : CodeUnit) → lookup (is_at p) (placed here us) ≡ Some u → length u.instrs ≤ instructions_of us
found_within p here [] u e = absurd (cc)
found_within p here (x ∷ us) u e = by (is_at p (place_of here x.heading)) (found_within p (body_behind here x.heading) us u) e
  where
    by : (b : Bool) → (lookup (is_at p) (placed (body_behind here x.heading) us) ≡ Some u → length u.instrs ≤ instructions_of us) → cond b (Some x) (lookup (is_at p) (placed (body_behind here x.heading) us)) ≡ Some u → length u.instrs ≤ instructions_of (x ∷ us)
    by true more e = let same : x ≡ u = cc in subst (λ (y : CodeUnit). length y.instrs ≤ instructions_of (x ∷ us)) same (omega arith)
    by false more e = let l = more e in omega (arith, l)

-- no unit of a code is longer
abbrev pub IsBound : ℕ → List CodeUnit → Type 0
IsBound bound code = instructions_of code ≤ bound

unit_within : (bound : ℕ) (code : List CodeUnit) → IsBound bound code → (body : ℕ) (e : Entry) (u : CodeUnit) → unit_of code body e ≡ Some u → length u.instrs ≤ bound
unfolding unit_of
unit_within bound code all body e u is = let found = found_within (body, e) None code u is in omega (arith, all, found)

module _ (bound : ℕ) where
  -- ---- what is left to do

  -- a turn may be used once, and then the unit goes on from its first instruction
  abbrev pub weight : Activation → ℕ
  weight a = cond a.turned bound 0 + (bound - a.address)

  abbrev pub total : List Activation → ℕ
  total [] = 0
  total (a ∷ more) = weight a + total more

  -- a unit of the budget begins at most a unit of the code, and a turn
  unfoldable pub spent : ℕ → ℕ
  spent zero = 0
  spent (suc n) = bound + bound + bound + spent n

  abbrev pub measure : Machine → ℕ
  measure m = spent m.running.left + (weight m.active + total m.waiting)

  abbrev pub IsWithin : Activation → Type 0
  IsWithin a = length a.unit.instrs ≤ bound

  abbrev pub AreWithin : List Activation → Type 0
  AreWithin [] = Unit {0}
  AreWithin (a ∷ more) = IsWithin a × AreWithin more

  -- each unit that runs or waits is within the bound
  abbrev pub AllWithin : Machine → Type 0
  AllWithin m = IsWithin m.active × AreWithin m.waiting

  -- where it goes on, less is left to do
  abbrev pub Nearer : Machine → Next → Type 0
  Nearer m (Goes n) = (measure n < measure m) × AllWithin n
  Nearer m _ = Unit {0}

  fewer : (left before : ℕ) → left ≤ before → spent left ≤ spent before
  unfolding spent
  fewer zero before less = omega arith
  fewer (suc left) zero less = absurd (omega (arith, less))
  fewer (suc left) (suc before) less = let more = fewer left before (omega (arith, less)) in omega (arith, more)

  taken : (left before : ℕ) → suc left ≤ before → spent left + bound + bound + bound ≤ spent before
  unfolding spent
  taken left before less = let all = fewer (suc left) before less in omega (arith, all)

  -- a unit was taken
  abbrev Took : {A : Type 0} → ℕ → StepResult Logged A → Type 0
  Took before (Ok r) = suc r.1.left ≤ before
  Took before (Err e) = Unit {0}

  spend_took : (s : Running Logged) → Took s.left (spend s)
  unfolding spend
  spend_took s = by (nat_lt 0 s.left) (ltb-true 0 s.left)
    where
      by : (b : Bool) → (b ≡ true → 0 < s.left) → Took s.left (cond b (Ok (tt {0}, record s { left = s.left - 1 })) (Err (Faults StepLimit, s.left)))
      by true some = let l = some refl in omega (arith, l)
      by false some = tt

  took_then : (A B : Type 0) (before : ℕ) (o : StepResult Logged A) (f : A → Step Logged B) → Took before o → ((a : A) → NeverRaises (f a)) → Took before (and_then o f)
  took_then A B before (Ok r) f h k = by (f r.0 r.1) (k r.0 r.1)
    where
      by : (o : StepResult Logged B) → AtMost r.1.left o → Took before o
      by (Ok t) l = omega (arith, h, l)
      by (Err e) l = tt
  took_then A B before (Err e) f h k = tt

  took_less : (A : Type 0) (less before : ℕ) (o : StepResult Logged A) → Took less o → less ≤ before → Took before o
  took_less A less before (Ok r) h l = omega (arith, h, l)
  took_less A less before (Err e) h l = tt

  after_took : (A B : Type 0) (before : ℕ) (o : StepResult Logged A) (f : A → Step Logged B) → AtMost before o → ((a : A) (s : Running Logged) → Took s.left (f a s)) → Took before (and_then o f)
  after_took A B before (Ok r) f h k = took_less B r.1.left before (f r.0 r.1) (k r.0 r.1) h
  after_took A B before (Err e) f h k = tt

  deep_never : (frame : ℕ) → NeverRaises {S = Logged} {A = Unit {0}} (λ s. cond (nat_lt frame max_depth) (Ok (tt, s)) (Err (Faults CallDepth, s.left)))
  deep_never frame s = by (nat_lt frame max_depth)
    where
      by : (b : Bool) → AtMost s.left (cond b (Ok (tt {0}, s)) (Err (Faults CallDepth, s.left)))
      by true = omega arith
      by false = tt

  deeper_took : (frame : ℕ) (s : Running Logged) → Took s.left (deeper_than frame s)
  deeper_took frame s = took_then (Unit {0}) (Unit {0}) s.left (spend s) (λ u. λ x. cond (nat_lt frame max_depth) (Ok (tt, x)) (Err (Faults CallDepth, x.left))) (spend_took s) (λ u. deep_never frame)

  push_never : (frame : Value) → NeverRaises (push_frame frame)
  push_never frame s = omega arith

  -- ---- what instructions do

  module _ (m : Machine) (within : AllWithin m) (there : m.active.address < bound) where
    goes_on_nearer : (o : StepResult Logged (List Item)) (below : List Item) → AtMost m.running.left o → Nearer m (goes_on o below m)
    goes_on_nearer (Ok r) below h = let l = fewer r.1.left m.running.left h in (omega (arith, l, there), within)
    goes_on_nearer (Err e) below h = tt

    with_values_nearer : (o : Option (List Value × List Item)) (f : List Value → Step Logged (List Item)) → ((vs : List Value) → NeverRaises (f vs)) → Nearer m (with_values o f m)
    with_values_nearer None f k = tt
    with_values_nearer (Some x) f k = goes_on_nearer (f x.0 m.running) x.1 (k x.0 m.running)

    back_nearer : (to : ℕ) (items : List Item) (turned : Bool) → turned ≡ m.active.turned → Nearer m (cond turned (Goes (record m { active = record m.active { address = to; stack = items; turned = false } })) (Stops Broken m.running.left))
    back_nearer to items true is =
        let turn : cond m.active.turned bound 0 ≡ bound = subst (λ b. cond b bound 0 ≡ bound) is refl in
        (omega (arith, turn, there), within)
    back_nearer to items false is = tt

    jump_nearer : (to : ℕ) (items : List Item) → Nearer m (jump to items m)
    jump_nearer to items = by (nat_le to m.active.address) (leb-false to m.active.address)
      where
        by : (b : Bool) → (b ≡ false → m.active.address < to) → Nearer m (cond b (jump_back to items m) (Goes (record m { active = record m.active { address = to; stack = items } })))
        by true up = back_nearer to items m.active.turned refl
        by false up = let l = up refl in (omega (arith, l, there), within)

    decide_nearer : (r : Result Bool Stop) (wanted : Bool) (to : ℕ) (items : List Item) → Nearer m (decide r wanted to items m)
    decide_nearer (Err e) wanted to items = tt
    decide_nearer (Ok true) true to items = jump_nearer to items
    decide_nearer (Ok false) false to items = jump_nearer to items
    decide_nearer (Ok true) false to items = goes_on_nearer (Ok ([], m.running)) items (omega arith)
    decide_nearer (Ok false) true to items = goes_on_nearer (Ok ([], m.running)) items (omega arith)

    turn_nearer : (o : StepResult Logged (Unit {0})) → Took m.running.left o → Nearer m (turn o m)
    turn_nearer (Ok r) h = let l = taken r.1.left m.running.left h in (omega (arith, l, there), within)
    turn_nearer (Err e) h = tt

    enter_nearer : (o : StepResult Logged (Unit {0})) (body : ℕ) (unit : CodeUnit) (path : Path) (frame : ℕ) (references : List Place) (to : Return) (below : List Item) → Took m.running.left o → length unit.instrs ≤ bound → Nearer m (enter o (begun body unit path frame references to) below m)
    enter_nearer (Ok r) body unit path frame references to below h inside = let l = taken r.1.left m.running.left h in (omega (arith, l, there), (inside, within))
    enter_nearer (Err e) body unit path frame references to below h inside = tt

  module _ (s : Subject) (n : Numbers) (code : List CodeUnit) (all : IsBound bound code) (m : Machine) (within : AllWithin m) (there : m.active.address < bound) where
    call_nearer : (body : ℕ) (o : Option CodeUnit) → ((u : CodeUnit) → o ≡ Some u → length u.instrs ≤ bound) → (arguments : ℕ) (items : List Item) → Nearer m (call_unit s n code body o arguments items m)
    call_nearer body None inside arguments items = tt
    call_nearer body (Some u) inside arguments items = by (taken_from arguments items)
      where
        given : (g : Option ActualParameters) (below : List Item) → Nearer m (call_given s n code body u arguments g below m)
        given None below = tt
        given (Some g) below = enter_nearer m within there ((deeper_than m.active.here.frame >> push_frame (frame_with u.locals arguments g.values)) m.running) body u m.active.here.path (suc m.active.here.frame) g.references ToCaller below
            (took_then (Unit {0}) (Unit {0}) m.running.left (deeper_than m.active.here.frame m.running) (λ t. push_frame (frame_with u.locals arguments g.values)) (deeper_took m.active.here.frame m.running) (λ t. push_never (frame_with u.locals arguments g.values)))
            (inside u refl)

        by : (o : Option (List Item × List Item)) → Nearer m (call_with s n code body u arguments o m)
        by None = tt
        by (Some x) = given (given_to u.locals x.0 nothing_given) x.1

    makes_took : (p : Path) (frame modvar body : ℕ) (values : List Value) (r : Running Logged) → Took r.left (makes_child s p frame modvar body values r)
    makes_took p frame modvar body values r = after_took Instance Path r.left (carry Logged on_log (may_begin s p modvar body values) r) (λ i. deeper_than frame >> children.begins_child s p modvar i ((child_of s body).with_parameters values)) (carry_never (may_begin s p modvar body values) r)
        (λ i x. took_then (Unit {0}) Path x.left (deeper_than frame x) (λ u. children.begins_child s p modvar i ((child_of s body).with_parameters values)) (deeper_took frame x)
        (λ u. seq_never Logged Path (carry Logged on_log (begins_child s p modvar i ((child_of s body).with_parameters values))) (pure (child p (suc i.births))) (carry_never (begins_child s p modvar i ((child_of s body).with_parameters values))) (pure_never Logged Path (child p (suc i.births)))))

    init_nearer : (modvar body : ℕ) (o : Option CodeUnit) → ((u : CodeUnit) → o ≡ Some u → length u.instrs ≤ bound) → (x : Option (List Value × List Item)) → Nearer m (init_with s n code modvar body o x m)
    init_nearer modvar body o inside None = tt
    init_nearer modvar body None inside (Some x) = tt
    init_nearer modvar body (Some u) inside (Some x) = by (makes_child s m.active.here.path m.active.here.frame modvar body x.0 m.running) (makes_took m.active.here.path m.active.here.frame modvar body x.0 m.running)
      where
        by : (o : StepResult Logged Path) → Took m.running.left o → Nearer m (initialize s n code modvar body u o x.1 m)
        by (Ok r) h = enter_nearer m within there (push_frame (frame_with u.locals 0 []) r.1) body u r.0 (suc m.active.here.frame) [] (ToParent modvar body r.0) x.1 h (inside u refl)
        by (Err e) h = tt

    -- the unit that waits goes on
    resumed_nearer : (a : Activation) (waiting : List Activation) (items : List Item) (r : Running Logged) → m.waiting ≡ a ∷ waiting → r.left ≤ m.running.left → Nearer m (resume s n code a waiting items r)
    resumed_nearer a waiting items r is h =
        let l = fewer r.left m.running.left h in
        let all : total m.waiting ≡ weight a + total waiting = subst (λ xs. total xs ≡ weight a + total waiting) (sym is) refl in
        (omega (arith, l, all, there), subst AreWithin is within.1)

    return_nearer : (to : Return) (waiting : List Activation) (items : List Item) (r : Running Logged) → m.waiting ≡ waiting → r.left ≤ m.running.left → Nearer m (return_to s n code to waiting items r)
    return_nearer to [] items r is h = tt
    return_nearer ToNone (a ∷ waiting) items r is h = resumed_nearer a waiting items r is h
    return_nearer ToCaller (a ∷ waiting) items r is h = resumed_nearer a waiting items r is h
    return_nearer (ToParent variable body c) (a ∷ waiting) items r is h = by (carry Logged on_log (holds_child s a.here.path variable (child_of s body).to c) r) (carry_never (holds_child s a.here.path variable (child_of s body).to c) r)
      where
        by : (o : StepResult Logged (Unit {0})) → AtMost r.left o → Nearer m (held s n code o a waiting items)
        by (Ok x) l = resumed_nearer a waiting items x.1 is (omega (arith, h, l))
        by (Err e) l = tt

    by_row_nearer : (r : Row) → Spares r → (items : List Item) → Nearer m (by_row s n code r items m)
    by_row_nearer (Nullary p) k items = goes_on_nearer m within there (p m.running) items (k m.running)
    by_row_nearer (OfValue f) k (Datum v ∷ items) = goes_on_nearer m within there (f v m.running) items (k v m.running)
    by_row_nearer (OfValue f) k (Spot p ∷ items) = tt
    by_row_nearer (OfValue f) k [] = tt
    by_row_nearer (OfPlace f) k (Spot p ∷ items) = goes_on_nearer m within there (f p m.running) items (k p m.running)
    by_row_nearer (OfPlace f) k (Datum v ∷ items) = tt
    by_row_nearer (OfPlace f) k [] = tt
    by_row_nearer (OfValues f) k (Datum w ∷ (Datum v ∷ items)) = goes_on_nearer m within there (f v w m.running) items (k v w m.running)
    by_row_nearer (OfValues f) k (Datum w ∷ (Spot p ∷ items)) = tt
    by_row_nearer (OfValues f) k (Datum w ∷ []) = tt
    by_row_nearer (OfValues f) k (Spot p ∷ items) = tt
    by_row_nearer (OfValues f) k [] = tt
    by_row_nearer (OfBoth f) k (Datum v ∷ (Spot p ∷ items)) = goes_on_nearer m within there (f p v m.running) items (k p v m.running)
    by_row_nearer (OfBoth f) k (Datum v ∷ (Datum w ∷ items)) = tt
    by_row_nearer (OfBoth f) k (Datum v ∷ []) = tt
    by_row_nearer (OfBoth f) k (Spot p ∷ items) = tt
    by_row_nearer (OfBoth f) k [] = tt
    by_row_nearer (OfMany count f) k items = with_values_nearer m within there (values_from (taken_from count items)) f k
    by_row_nearer (Jumps to) k items = jump_nearer m within there to items
    by_row_nearer (JumpsWhere wanted to) k (Datum v ∷ items) = decide_nearer m within there (bool_of v) wanted to items
    by_row_nearer (JumpsWhere wanted to) k (Spot p ∷ items) = tt
    by_row_nearer (JumpsWhere wanted to) k [] = tt
    by_row_nearer Turns k items = turn_nearer m within there (spend m.running) (spend_took m.running)
    by_row_nearer (Calls body routine arguments) k items = call_nearer body (unit_of code body (entry.Routine routine)) (unit_within bound code all body (entry.Routine routine)) arguments items
    by_row_nearer (Begins modvar body arguments) k items = init_nearer modvar body (unit_of code body entry.Initialize) (unit_within bound code all body entry.Initialize) (values_from (taken_from arguments items))
    by_row_nearer Returns k items = return_nearer m.active.return m.waiting items (pop_frame m.running) refl (omega arith)

  module _ (s : Subject) (n : Numbers) (code : List CodeUnit) (all : IsBound bound code) (m : Machine) (within : AllWithin m) where
    -- each instruction
    pub next_nearer : Nearer m (next s n code m)
    unfolding next
    next_nearer = by (slice_get m.active.unit.instrs m.active.address) (slice_get_within m.active.unit.instrs m.active.address)
      where
        by : (o : Option Instr) → ((i : Instr) → o ≡ Some i → m.active.address < length m.active.unit.instrs) → Nearer m (act s n code o m)
        by None inside = tt
        by (Some i) inside = let l = inside i refl in let k = within.0 in by_row_nearer s n code all m within (omega (arith, l, k)) (row s n m.active i) (row_spares s n m.active i) m.active.stack
