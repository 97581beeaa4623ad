-- A code that a specification is compiled to makes of each job and guard what is computed of them.
use Rattle.std.proofs.Common.{◌≡◌, ◌∙◌, refl, sym, ap, subst, ℕ, zero, suc, Bool, true, false, cond, List, [], ◌∷◌, length, map, Result, Ok, Err, Option, Some, None}
use Rattle.std.proofs.lemmas.List.{length-map}
use Rattle.std.specs.Prelude.{◌&&◌, ◌||◌, is_none, slice_get}
use Rattle.std.specs.FinMap as finmap
use Rattle.pascal_values.specs.declared.value.Value.{Value}
use Rattle.pascal_values.specs.declared.value.Value.TheVariants as pascal
use Rattle.pascal_values.specs.declared.value.Value.TheVariants.{outs-Bool}
use Rattle.pascal_values.specs.declared.value.Value.TheOpen.{Value-F}
use Rattle.pascal_values.specs.Shapes.{each_passes}
use Rattle.estelle_tree.specs.declared.tree.expression.Expr.{Expr}
use Rattle.estelle_tree.specs.declared.tree.clause.DelayHigh.{DelayHigh}
use Rattle.estelle_tree.specs.declared.tree.clause.DelayHigh.TheVariants as high
use Rattle.estelle_tree.specs.Paths.{Path}
use Rattle.body_code.specs.declared.instr.Instr.{Instr}
use Rattle.body_code.specs.declared.instr.Instr.TheVariants as op
use Rattle.body_code.specs.declared.unit.Entry.TheVariants as entry
use Rattle.body_code.specs.declared.unit.CodeUnit.{CodeUnit}
use Rattle.body_code.specs.Units.{unit_of}
use Rattle.estelle_model.specs.declared.denoter.Denoter.{Denoter}
use Rattle.estelle_model.specs.declared.image.Image.{Image}
use Rattle.estelle_model.specs.declared.image.Interaction.{Interaction}
use Rattle.estelle_model.specs.declared.job.Guard.{Guard}
use Rattle.estelle_model.specs.declared.job.Guard.TheVariants.{Off}
use Rattle.estelle_model.specs.declared.job.Job.{Job}
use Rattle.estelle_model.specs.declared.job.Outcome.{Outcome}
use Rattle.estelle_model.specs.declared.meaning.Passing.{Passing}
use Rattle.estelle_model.specs.declared.meaning.Passing.TheVariants.{ByValue}
use Rattle.estelle_model.specs.declared.meaning.Routine.{Routine}
use Rattle.estelle_model.specs.Core.{Instance}
use Rattle.estelle_model.specs.Meant.{Meanings, value_types}
use Rattle.estelle_model.specs.States.{Logged, on_log}
use Rattle.estelle_model.specs.Stops.{Stop}
use Rattle.estelle_model.specs.Steps.{Running, StepResult, Step, Do, and_then, ◌>>=◌, ◌>>◌, pure, breaks, checked, checked_at}
use Rattle.estelle_model.specs.Operators.{bool_at, bool_of}
use Rattle.estelle_model.specs.Expressions.{bool_step}
use Rattle.estelle_model.specs.Plans.{carry}
use Rattle.estelle_model.specs.Actions.{enters_state}
use Rattle.estelle_model.specs.Acts.{act}
use Rattle.estelle_model.specs.Blocks.{fresh, with_values, leave_values, block_step, clause_value}
use Rattle.estelle_model.specs.Belonging.{belongs, are_values_of}
use Rattle.estelle_model.specs.Types.{shape_of}
use Rattle.estelle_model.specs.Transitions.{Transition, Delay}
use Rattle.estelle_model.specs.Clauses as clauses
use Rattle.estelle_model.specs.Clauses.{answered}
use Rattle.estelle_model.specs.Firing.{transition_at, is_in_state, bare}
use Rattle.estelle_model.specs.Computed.{core_of, log_from, values_of, start_run, IsMadeBy, IsOfTransition, IsComputedOf}
use Rattle.estelle_model.specs.Asked.{is_received, guard_run, guard_by, guard_for}
use Rattle.estelle_model.specs.Subject.{Subject, meant_with, begins, of_block, transition}
use Rattle.body_numbers.specs.declared.numbers.Numbers.{Numbers}
use Rattle.body_machine.specs.declared.item.Item.{Item}
use Rattle.body_machine.specs.declared.item.Item.TheVariants.{Datum}
use Rattle.body_machine.specs.Machine.{Machine, Goes, Ends}
use Rattle.body_machine.specs.Rows.{row}
use Rattle.body_machine.specs.Steps as machine
use Rattle.body_machine.specs.Steps.{next}
use Rattle.body_machine_meaning.specs.Executed.{started, value_left, state_taken, delay_left, RunsTo, ReceivesTo, FiresIf, FiresOf, Starts, Executes, DelaysTo, HoldsTo, Guards, GuardsWhere, GuardsIf, GuardsOf}
use Rattle.body_machine_meaning.specs.Faithful.{IsFaithful}
use Rattle.body_compiler_pieces.specs.Pieces.{one}
use Rattle.body_compiler_pieces.specs.UnitCode.{Known, IsMadeOf, IsUnit, IsClause}
use Rattle.body_compiler_laws.specs.Compiled.{IsCode}
use Rattle.body_compiler_laws.specs.Codes.{where_meant, in_clause, provided_code, high_bound, delay_code, HasClause, HasTransition, IsCompiled}
use Rattle.body_compiler_laws.proofs.Single.{datum, no_item}
use Rattle.body_compiler_laws.proofs.Calls.{block_is}
use Rattle.body_compiler_laws.proofs.Blocks.{stacked, runs_to, block_does, clause_steps, clause_values, clause_does, value_does, values_long}
use Rattle.body_compiler_laws.proofs.ExtendedCodes.{chosen_extends}
use Rattle.body_compiler_laws.proofs.Once.{runs_once}

-- ---- values of types

passing_long : (tests : List (Value → Bool)) (vs : List Value) → each_passes tests vs ≡ true → length vs ≡ length tests
passing_long [] [] h = refl
passing_long [] (v ∷ vs) h = absurd (cc)
passing_long (test ∷ tests) [] h = absurd (cc)
passing_long (test ∷ tests) (v ∷ vs) h = ap suc (passing_long tests vs (second (test v) h))
  where
    second : (b : Bool) → (b && each_passes tests vs) ≡ true → each_passes tests vs ≡ true
    second true e = e
    second false e = absurd (cc)

-- there is a value for each type
pub are_long : (ts : List Denoter) (vs : List Value) → are_values_of ts vs ≡ true → length vs ≡ length ts
are_long ts vs h = passing_long (map (λ t. belongs (shape_of t)) ts) vs h ∙ length-map ts (λ t. belongs (shape_of t))

-- ---- steps

-- a step that is known without its items
mapped_then : {A B : Type 0} (o : StepResult Logged A) (f : A → List Item) (k : List Item → Step Logged B) → and_then (and_then o (λ a. pure (f a))) k ≡ and_then o (λ a. k (f a))
mapped_then (Ok x) f k = refl
mapped_then (Err e) f k = refl

-- a test before the frame is left, or behind that
left_after : {A : Type 0} (o : Result A Stop) (r : Running Logged) → checked_at o (record r { frames = [] }) ≡ and_then (checked_at o r) leave_values
left_after (Ok a) r = refl
left_after (Err e) r = refl

module _ (s : Subject) (n : Numbers) (code : List CodeUnit) (known : Known) (is_code : IsCode s n code known) (body : ℕ) (path : Path) (values : List Value) where
  abbrev To : Option CodeUnit → Running Logged → StepResult Logged (List Item) → Type 0
  To unit start o = RunsTo s n code body unit path values start o

  -- ---- units

  abbrev first : Value → CodeUnit → Running Logged → Machine
  first v unit start = started body unit path values start

  abbrev second : Value → CodeUnit → Running Logged → Machine
  second v unit start = record (first v unit start) { active = machine.behind (Datum v ∷ []) (first v unit start).active }

  -- a constant alone
  constant_runs : (passed : List Passing) (v : Value) (unit : CodeUnit) → IsMadeOf passed [] (one (op.Push v)) unit → (start : Running Logged) → To (Some unit) start (Ok (Datum v ∷ [], record start { frames = [] }))
  unfolding next row
  constant_runs passed v unit made start = (Ends (Datum v ∷ []) (record start { frames = [] }), (2, two), refl)
    where
      pushes : next s n code (first v unit start) ≡ Goes (second v unit start)
      pushes = ap (λ (is : List Instr). machine.act s n code (slice_get is 0) (first v unit start)) made.instrs

      returns : next s n code (second v unit start) ≡ Ends (Datum v ∷ []) (record start { frames = [] })
      returns = ap (λ (is : List Instr). machine.act s n code (slice_get is 1) (second v unit start)) made.instrs

      two : machine.run s n code 2 (Goes (first v unit start)) ≡ Ends (Datum v ∷ []) (record start { frames = [] })
      two = ap (machine.run s n code 1) pushes ∙ returns

  block_runs : (r : Routine) (unit : CodeUnit) → IsUnit known body r unit → length values ≡ length r.parameters → length values ≡ length (value_types r.parameters) → r.result ≡ None → (state : Logged) (budget : ℕ)
      → To (Some unit) (fresh state budget) (and_then (block_step Logged on_log known.meant (act Logged on_log s known.meant) path r values (fresh state budget)) (λ done. pure []))
  block_runs r unit made fits all nothing state budget = runs_to s n code known is_code body unit path values (fresh state budget) no_item _ (block_does s n code known is_code body unit path values r made fits all nothing state budget)

  value_runs : (received : List Denoter) (e : Expr) (unit : CodeUnit) → IsClause known body received (e ∷ []) unit → length values ≡ length received → (start : Running Logged)
      → To (Some unit) start (and_then (with_values values (clause_value Logged on_log known.meant (act Logged on_log s known.meant) path e) start) (λ v. pure (Datum v ∷ [])))
  value_runs received e unit made fits start = runs_to s n code known is_code body unit path values start datum _ (value_does s n code known is_code body unit path values received e made fits start.state start.left)

  module _ (unit : CodeUnit) where
    abbrev on_stack : List Value → List Item
    on_stack vs = stacked s n code known is_code body unit path values vs []

    abbrev each_value : List Expr → Step Logged (List Value)
    each_value es = clause_values s n code known is_code body unit path values es

    values_run : (received : List Denoter) (es : List Expr) → IsClause known body received es unit → length values ≡ length received → (start : Running Logged) → To (Some unit) start (and_then (each_value es start) (λ vs. pure (on_stack vs)))
    values_run received es made fits start = runs_to s n code known is_code body unit path values start on_stack _ (clause_does s n code known is_code body unit path values received es made fits start.state start.left)

-- ---- a transition

module _ (s : Subject) (n : Numbers) (code : List CodeUnit) (before : Known) (t : Transition) (is_code : IsCode s n code (where_meant before (meant_with s t.chosen))) (body number : ℕ) (has : HasTransition code (where_meant before (meant_with s t.chosen)) body number t) (path : Path) (values : List Value) where
  abbrev known : Known
  known = where_meant before (meant_with s t.chosen)

  abbrev routine : Routine
  routine = of_block (meant_with s t.chosen) t.received t.block

  abbrev block : Do Logged
  block = block_step Logged on_log (meant_with s t.chosen) (act Logged on_log s (meant_with s t.chosen)) path routine values

  fits_all : are_values_of t.received values ≡ true → length values ≡ length (map ByValue t.received)
  fits_all e = are_long t.received values e ∙ sym (length-map t.received ByValue)

  fits_values : (unit : CodeUnit) → are_values_of t.received values ≡ true → length values ≡ length (value_types (map ByValue t.received))
  fits_values unit e = are_long t.received values e ∙ sym (values_long s n code known is_code body unit path values t.received)

  -- its block comes to what the block means
  pub block_once : (state : Logged) (budget : ℕ) (o : StepResult Logged (List Item)) → ReceivesTo s n code (are_values_of t.received values) body (unit_of code body (entry.Block number)) path values (fresh state budget) o
      → o ≡ and_then ((clauses.receives Logged on_log s t values >> block) (fresh state budget)) (λ done. pure [])
  block_once state budget o = by (are_values_of t.received values) refl
    where
      by : (b : Bool) → are_values_of t.received values ≡ b → ReceivesTo s n code b body (unit_of code body (entry.Block number)) path values (fresh state budget) o
          → o ≡ and_then (and_then (cond b (pure (tt {0})) breaks (fresh state budget)) (λ received. block)) (λ done. pure [])
      by false e h = h
      by true e h = runs_once s n code body (Some has.block.unit) path values (fresh state budget) o _ (subst (λ u. RunsTo s n code body u path values (fresh state budget) o) has.block.found h)
          (block_runs s n code known is_code body path values routine has.block.unit has.block.is (fits_all e) (fits_values has.block.unit e) refl state budget)

  -- ---- `provided`

  abbrev value : Expr → Step Logged Value
  value e = clauses.value_of_expr Logged on_log s path t e

  abbrev truth_left : List Item → Step Logged Bool
  truth_left items = bool_step (value_left items)

  tested : (o : StepResult Logged Value) → and_then (and_then o (λ v. leave_values v)) (λ v. checked (bool_of v)) ≡ and_then (and_then o (λ v. checked (bool_of v))) (λ b. leave_values b)
  tested (Ok x) = left_after (bool_of x.0) x.1
  tested (Err e) = refl

  provided_by : (e : Option Expr) → HasClause code body (entry.Guard number) t.received (provided_code (in_clause known body t.received) e) → (state : Logged) (budget : ℕ) (o : StepResult Logged (List Item))
      → ReceivesTo s n code (is_none e || are_values_of t.received values) body (unit_of code body (entry.Guard number)) path values (fresh state budget) o → and_then o truth_left ≡ clauses.provided_step Logged on_log s path t values e (fresh state budget)
  provided_by None h state budget o runs =
      ap (λ q. and_then q truth_left) (runs_once s n code body (Some h.unit) path values (fresh state budget) o _ (subst (λ u. RunsTo s n code body u path values (fresh state budget) o) h.found runs)
      (constant_runs s n code known is_code body path values (map ByValue t.received) (pascal.Bool true) h.unit h.is (fresh state budget)))
      ∙ ap (λ (l : Value-F Value). checked_at (bool_at l) (fresh state budget)) (outs-Bool true)
  provided_by (Some e) h state budget o runs = by (are_values_of t.received values) refl runs
    where
      by : (b : Bool) → are_values_of t.received values ≡ b → ReceivesTo s n code b body (unit_of code body (entry.Guard number)) path values (fresh state budget) o
          → and_then o truth_left ≡ and_then (cond b (pure (tt {0})) breaks (fresh state budget)) (λ received. with_values values (bool_step (value e)))
      by false w runs = ap (λ q. and_then q truth_left) runs
      by true w runs = ap (λ q. and_then q truth_left) (runs_once s n code body (Some h.unit) path values (fresh state budget) o _ (subst (λ u. RunsTo s n code body u path values (fresh state budget) o) h.found runs)
          (value_runs s n code known is_code body path values t.received e h.unit h.is (are_long t.received values w) (fresh state budget)))
          ∙ mapped_then (with_values values (value e) (fresh state budget)) datum truth_left
          ∙ tested (value e (record { state = state; frames = pascal.Fields values ∷ []; left = budget }))

  -- ---- the delay

  delay_by : (d : Delay) → HasClause code body (entry.Delay number) t.received (delay_code (in_clause known body t.received) d) → (start : Running Logged) (o : StepResult Logged (List Item))
      → ReceivesTo s n code (are_values_of t.received values) body (unit_of code body (entry.Delay number)) path values start o
      → and_then o (delay_left s d.high) ≡ clauses.in_clause Logged on_log s t values (value d.low >>= λ v. clauses.high_step Logged on_log s path t v d.high) start
  unfolding clause_value
  delay_by d h start o = by (are_values_of t.received values) refl
    where
      inside : Running Logged
      inside = record start { frames = pascal.Fields values ∷ [] }

      each : List Expr → Step Logged (List Value)
      each es = each_value s n code known is_code body path values h.unit es

      steps : List Expr → Step Logged (List Value)
      steps es = clause_steps s n code known is_code body h.unit path values es

      stack : List Value → List Item
      stack vs = on_stack s n code known is_code body path values h.unit vs

      Values : Option DelayHigh → Type 0
      Values x = and_then (each (d.low ∷ high_bound x) start) (λ vs. delay_left s x (stack vs)) ≡ with_values values (value d.low >>= λ v. clauses.high_step Logged on_log s path t v x) start

      -- the low one alone
      alone : (x : Option DelayHigh) (f : Value → Result Guard Stop) → ((v : Value) (r : Running Logged) → delay_left s x (Datum v ∷ []) r ≡ checked_at (f v) r) → (q : StepResult Logged Value)
          → and_then (and_then (and_then q (λ v. pure (v ∷ []))) (λ vs. leave_values vs)) (λ vs. delay_left s x (stack vs)) ≡ and_then (and_then q (λ v. checked (f v))) (λ g. leave_values g)
      alone x f is (Ok y) = is y.0 (record y.1 { frames = [] }) ∙ left_after (f y.0) y.1
      alone x f is (Err e) = refl

      -- and the high one behind it
      above : (e : Expr) (v : Value) (q : StepResult Logged Value)
          → and_then (and_then (and_then (and_then q (λ w. pure (w ∷ []))) (λ vs. pure (v ∷ vs))) (λ vs. leave_values vs)) (λ vs. delay_left s (Some (high.Expr e)) (stack vs)) ≡ and_then (and_then q (λ w. checked (clauses.from_both Logged on_log s v w))) (λ g. leave_values g)
      above e v (Ok y) = left_after (clauses.from_both Logged on_log s v y.0) y.1
      above e v (Err f) = refl

      both : (e : Expr) (q : StepResult Logged Value)
          → and_then (and_then (and_then q (λ v. steps (e ∷ []) >>= λ vs. pure (v ∷ vs))) (λ vs. leave_values vs)) (λ vs. delay_left s (Some (high.Expr e)) (stack vs)) ≡ and_then (and_then q (λ v. value e >>= λ w. checked (clauses.from_both Logged on_log s v w))) (λ g. leave_values g)
      both e (Ok y) = above e y.0 (value e y.1)
      both e (Err f) = refl

      values_by : (x : Option DelayHigh) → Values x
      values_by None = alone None (λ v. clauses.from_both Logged on_log s v v) (λ v r. refl) (value d.low inside)
      values_by (Some high.Star) = alone (Some high.Star) (λ v. clauses.from_one Logged on_log s v) (λ v r. refl) (value d.low inside)
      values_by (Some (high.Expr e)) = both e (value d.low inside)

      by : (b : Bool) → are_values_of t.received values ≡ b → ReceivesTo s n code b body (unit_of code body (entry.Delay number)) path values start o
          → and_then o (delay_left s d.high) ≡ and_then (cond b (pure (tt {0})) breaks start) (λ received. with_values values (value d.low >>= λ v. clauses.high_step Logged on_log s path t v d.high))
      by false w runs = ap (λ q. and_then q (delay_left s d.high)) runs
      by true w runs = ap (λ q. and_then q (delay_left s d.high)) (runs_once s n code body (Some h.unit) path values start o _ (subst (λ u. RunsTo s n code body u path values start o) h.found runs)
          (values_run s n code known is_code body path values h.unit t.received (d.low ∷ high_bound d.high) h.is (are_long t.received values w) start))
          ∙ mapped_then (each (d.low ∷ high_bound d.high) start) stack (delay_left s d.high) ∙ values_by d.high

  -- ---- guards

  delays_are : (o : Option Delay) → ((d : Delay) → o ≡ Some d → HasClause code body (entry.Delay number) t.received (delay_code (in_clause known body t.received) d)) → (timed : Bool) (q : Running Logged) (result : StepResult Logged Guard)
      → DelaysTo s n code path values timed body number t o q result → result ≡ clauses.delay_step Logged on_log s path t values timed o q
  delays_are None h timed q result is = is
  delays_are (Some d) h true q result is = is
  delays_are (Some d) h false q result is = is.2 ∙ delay_by d (h d refl) q is.0 is.1

  holds_is : (timed : Bool) (holds : StepResult Logged Bool) (result : StepResult Logged Guard) → HoldsTo s n code path values timed body number t holds result
      → result ≡ and_then holds (λ b. cond b (clauses.delay_step Logged on_log s path t values timed t.delay) (pure Off))
  holds_is timed (Err e) result is = is
  holds_is timed (Ok (false, q)) result is = is
  holds_is timed (Ok (true, q)) result is = delays_are t.delay has.delay timed q result is

  -- its guard comes to what the clauses mean
  pub guard_once : (image : Image) (timed : Bool) (budget : ℕ) (answer : Guard) → Guards s n code path image values timed budget body number t answer
      → answer ≡ answered (clauses.guard_step Logged on_log s path t values timed (fresh (log_from (core_of s image)) budget))
  guard_once image timed budget answer g = g.answers ∙ ap answered (holds_is timed _ g.result (subst (λ holds. HoldsTo s n code path values timed body number t holds g.result) (provided_by t.provided has.provided (log_from (core_of s image)) budget g.provided g.runs) g.then_delays))

-- ---- whole codes

module _ (s : Subject) (n : Numbers) (known : Known) (code : List CodeUnit) (h : IsCompiled s n known code) where
  abbrev chosen : Transition → Known
  chosen t = where_meant known (meant_with s t.chosen)

  chosen_code : (body number : ℕ) (t : Transition) → transition s body number ≡ Some t → IsCode s n code (chosen t)
  chosen_code body number t e = chosen_extends s n code known h.meant h.is t.chosen (h.apart body number t e)

  -- ---- jobs

  fires : (job : Job) (body : ℕ) (o : Option Transition) → transition s body job.trans ≡ o → (outcome : Outcome) (left : ℕ) → FiresIf s n code job body o outcome left → IsOfTransition s job o outcome left
  fires job body None e outcome left f = tt
  fires job body (Some t) e outcome left f = subst (λ o. IsMadeBy s o outcome left)
      (ap (λ o. and_then o (state_taken s job.path t.to)) (block_once s n code known t (chosen_code body job.trans t e) body job.trans (h.transitions body job.trans t e) job.path (values_of job.head) (log_from (core_of s job.image)) job.budget f.block f.runs)
      ∙ mapped_then _ no_item (state_taken s job.path t.to))
      f.made

  fires_of : (job : Job) (o : Option Instance) (outcome : Outcome) (left : ℕ) → FiresOf s n code job o outcome left → IsOfTransition s job (transition_at s job.trans o) outcome left
  fires_of job None outcome left f = tt
  fires_of job (Some i) outcome left f = fires job i.body (transition s i.body job.trans) refl outcome left f

  starts : (job : Job) (outcome : Outcome) (left : ℕ) → Starts s n code job outcome left → IsMadeBy s (start_run s job.budget) outcome left
  starts job outcome left f = subst (λ (m : Meanings). IsMadeBy s (and_then (block_of m) (λ done. carry Logged on_log (enters_state s [] (begins s 0).to))) outcome left) h.meant
      (subst (λ o. IsMadeBy s o outcome left) (ap (λ o. and_then o (state_taken s [] (begins s 0).to)) block ∙ mapped_then (block_of known.meant) no_item (state_taken s [] (begins s 0).to)) f.made)
    where
      start : Running Logged
      start = fresh (log_from (bare s).core) job.budget

      block_of : Meanings → StepResult Logged (Unit {0})
      block_of m = block_step Logged on_log m (act Logged on_log s m) [] (begins s 0).block [] start

      block : f.block ≡ and_then (block_of known.meant) (λ done. pure [])
      block = runs_once s n code 0 (Some h.begins.unit) [] [] start f.block _ (subst (λ u. RunsTo s n code 0 u [] [] start f.block) h.begins.found f.runs)
          (block_runs s n code known h.is 0 [] [] (begins s 0).block h.begins.unit h.begins.is (ap (λ (r : Routine). length r.parameters) (sym (block_is s 0))) (ap (λ (r : Routine). length (value_types r.parameters)) (sym (block_is s 0)))
          (ap (λ (r : Routine). r.result) (block_is s 0)) (log_from (bare s).core) job.budget)

  executes : (job : Job) (trans : ℕ) (outcome : Outcome) (left : ℕ) → Executes s n code job trans outcome left → IsComputedOf s job trans outcome left
  executes job zero outcome left f = starts job outcome left f
  executes job (suc k) outcome left f = fires_of job (finmap.get (core_of s job.image).instances job.path) outcome left f

  -- ---- guards

  module _ (path : Path) (image : Image) (trans : ℕ) (head : Option Interaction) (timed : Bool) (budget : ℕ) (answer : Guard) where
    guards_where : (b : Bool) (body : ℕ) (t : Transition) → transition s body trans ≡ Some t → GuardsWhere s n code b path image head timed budget body trans t answer
        → answer ≡ cond b (guard_run s path image head timed budget t) Off
    guards_where false body t e g = g
    guards_where true body t e g = guard_once s n code known t (chosen_code body trans t e) body trans (h.transitions body trans t e) path (values_of head) image timed budget answer g

    guards_if : (i : Instance) (o : Option Transition) → transition s i.body trans ≡ o → GuardsIf s n code path image head timed budget trans i o answer → answer ≡ guard_by s path image head timed budget i o
    guards_if i None e g = g
    guards_if i (Some t) e g = guards_where (is_in_state t.from i.state && is_received t.when head) i.body t e g

    guards_of : (o : Option Instance) → GuardsOf s n code path image head timed budget trans o answer → answer ≡ guard_for s path image trans head timed budget o
    guards_of None g = g
    guards_of (Some i) g = guards_if i (transition s i.body trans) refl g

  pub is_faithful : IsFaithful s n code
  is_faithful = record {
    jobs = λ job outcome left. executes job job.trans outcome left;
    guards = λ path image trans head timed budget answer g. guards_of path image trans head timed budget answer (finmap.get (core_of s image).instances path) g;
  }
