-- Units that begin for themselves: blocks of an instance, and expressions in its clauses.
use Rattle.std.proofs.Common.{◌≡◌, ◌∙◌, refl, sym, ap, ap₂, subst, ℕ, suc, ◌+◌, ◌-◌, ◌<◌, false, List, [], ◌∷◌, ◌++◌, length, map, take, append-nil, length-append, Ok, Err, Option, Some, None, arith}
use Rattle.std.proofs.lemmas.List.{length-map}
use Rattle.pascal_values.specs.declared.value.Value.{Value}
use Rattle.pascal_values.specs.declared.value.Value.TheVariants as pascal
use Rattle.pascal_values.specs.Shapes.{blank_of}
use Rattle.estelle_tree.specs.declared.tree.expression.Expr.{Expr}
use Rattle.estelle_tree.specs.Paths.{Path}
use Rattle.body_code.specs.declared.unit.CodeUnit.{CodeUnit}
use Rattle.estelle_model.specs.declared.denoter.Denoter.{Denoter}
use Rattle.estelle_model.specs.States.{Logged, on_log}
use Rattle.estelle_model.specs.Steps.{Running, StepResult, Step, Do, and_then, ◌>>=◌, ◌>>◌, pure}
use Rattle.estelle_model.specs.declared.meaning.Passing.TheVariants.{ByValue}
use Rattle.estelle_model.specs.declared.meaning.Routine.{Routine}
use Rattle.estelle_model.specs.declared.place.Place.TheVariants.{In}
use Rattle.estelle_model.specs.Meant.{value_types}
use Rattle.estelle_model.specs.Subject.{Subject}
use Rattle.estelle_model.specs.Expressions as model
use Rattle.estelle_model.specs.Expressions.{Call}
use Rattle.estelle_model.specs.Statements.{stmts}
use Rattle.estelle_model.specs.Calls.{call_by, leave, frame_of, max_depth}
use Rattle.estelle_model.specs.Blocks.{fresh, enter_values, leave_values, with_values, from_block, block_step, clause_value}
use Rattle.body_machine.specs.declared.item.Item.{Item}
use Rattle.body_machine.specs.declared.item.Item.TheVariants.{Datum}
use Rattle.body_machine.specs.declared.activation.Return.TheVariants.{ToNone}
use Rattle.body_machine.specs.Machine.{Machine, Goes, Ends, Stops}
use Rattle.body_numbers.specs.declared.numbers.Numbers.{Numbers}
use Rattle.body_machine.specs.Slots.{slot, reference_number}
use Rattle.body_machine.specs.Frames.{frame_with}
use Rattle.body_machine.specs.Steps.{Comes}
use Rattle.body_machine_meaning.specs.Executed.{started, RunsTo}
use Rattle.body_compiler_pieces.specs.Pieces.{Piece}
use Rattle.body_compiler_pieces.specs.ExpressionCode as code
use Rattle.body_compiler_pieces.specs.ExpressionCode.{Scope}
use Rattle.body_compiler_pieces.specs.StatementCode as compiled
use Rattle.body_compiler_pieces.specs.UnitCode.{Known, variable, own_shapes, within, result_code, routine_code, IsMadeOf, IsUnit, clause_code, of_clause, IsClause}
use Rattle.body_compiler_laws.specs.Compiled.{IsCode}
use Rattle.body_compiler_laws.proofs.Frames.{joined, outline, IsNamed, length_joined, joined_one, length_outline}
use Rattle.body_compiler_laws.proofs.Does.{Site, machine, full, AreNamed, Does, then_does, none_does, mapped_does}
use Rattle.body_compiler_laws.proofs.Single.{datum, no_item, above_does}
use Rattle.body_compiler_laws.proofs.Operands.{IsScope}
use Rattle.body_compiler_laws.proofs.Arguments.{CallsDo, back, result_item}
use Rattle.body_compiler_laws.proofs.Expressions.{expr_does}
use Rattle.body_compiler_laws.proofs.Locals.{slot_is, temporary_slot, reference_is, frame_is, frame_count}
use Rattle.body_compiler_laws.proofs.Units.{IsPlaced, result_step, result_does, leave_back, AtEnd, ends_do}
use Rattle.body_compiler_laws.proofs.Temporaries.{HasTemporaries}
use Rattle.body_compiler_laws.proofs.Calls.{Act, Nested, statements_do, depth_calls}

-- ---- a unit that begins for itself

-- no other unit waits for it
abbrev outermost : Subject → Numbers → List CodeUnit → (body : ℕ) → CodeUnit → Path → (base number count : ℕ) → Site
outermost s n units body unit path base number count = record {
  subject = s;
  numbers = n;
  code = units;
  body = body;
  unit = unit;
  here = record { path = path; frame = 0; references = [] };
  return = ToNone;
  waiting = [];
  base = base;
  number = number;
  counts = Some count ∷ [];
  callers = [];
}

module _ (s : Subject) (n : Numbers) (units : List CodeUnit) (known : Known) (is_code : IsCode s n units known) (body : ℕ) (unit : CodeUnit) (path : Path) (values : List Value) where
  -- what is come to: the end with what is left, or what stops it
  abbrev pub ComesTo : Machine → {A : Type 0} → (A → List Item) → StepResult Logged A → Type 0
  ComesTo start left (Ok r) = Comes s n units (Goes start) (Ends (left r.0) r.1)
  ComesTo start left (Err e) = Comes s n units (Goes start) (Stops e.0 e.1)

  -- as a run of the unit for itself
  pub runs_to : (start : Running Logged) {A : Type 0} (left : A → List Item) (o : StepResult Logged A) → ComesTo (started body unit path values start) left o → RunsTo s n units body (Some unit) path values start (and_then o (λ a. pure (left a)))
  runs_to start left (Ok r) h = (Ends (left r.0) r.1, h, refl)
  runs_to start left (Err e) h = (Stops e.0 e.1, h, refl)

  -- with the parameters and the variables of a routine
  module _ (r : Routine) (p : Piece) (made : IsMadeOf r.parameters (own_shapes r) p unit) (fits : length values ≡ length r.parameters) (all_values : length values ≡ length (value_types r.parameters)) where
    abbrev pub site : Site
    site = outermost s n units body unit path (length (made.parameters ++ map variable (own_shapes r))) (length p.temporaries) (length (value_types r.parameters) + length (own_shapes r))

    pub site_placed : IsPlaced site
    site_placed = record { deep = refl; others = refl }

    pub site_scope : IsScope site (within known body r)
    site_scope = record {
      local = λ k i is. local k i (slot_is r.parameters (length (own_shapes r)) made.parameters (own_shapes r ++ p.temporaries) k i made.are (let l : length (own_shapes r ++ p.temporaries) ≡ length (own_shapes r) + length p.temporaries = length-append (own_shapes r) _ in omega (arith, l)) is);
      reference = λ k i is. ap (λ ls. reference_number ls i) made.locals ∙ reference_is r.parameters made.parameters _ k i made.are is;
      named = λ k q is. absurd (cc);
      export = is_code.export body;
      number = is_code.number;
      interaction = is_code.interaction body;
      parameters = is_code.parameters;
    }
      where
        local : (k i : ℕ) → (slot (made.parameters ++ map variable (own_shapes r ++ p.temporaries)) i ≡ k) × (k < length (value_types r.parameters) + length (own_shapes r))
            → (slot unit.locals i ≡ k) × IsNamed site.counts (In 0 k [])
        local k i h = (ap (λ ls. slot ls i) made.locals ∙ h.0, h.1)

    pub site_has : HasTemporaries site
    site_has = record {
      variables = length (value_types r.parameters) + length (own_shapes r);
      frame = refl;
      slots = λ i less. ap (λ ls. slot ls (length (made.parameters ++ map variable (own_shapes r)) + i)) made.locals ∙ temporary_slot r.parameters made.parameters (own_shapes r) p.temporaries i made.are less;
    }

    -- as it begins, and as it ends
    abbrev begins : Logged → ℕ → Running Logged
    begins state budget = record { state = state; frames = frame_of r values ∷ []; left = budget }

    abbrev pub finished : (List Value → List Value) → {A : Type 0} → StepResult Logged A → StepResult Logged A
    finished last (Ok y) = Ok (y.0, record y.1 { frames = last y.1.frames })
    finished last (Err e) = Err e

    unit_does : (last : List Value → List Value) → ((F : List Value) → length F ≡ 1 → last F ≡ []) → {A : Type 0} (x : Step Logged A) (left : A → List Item) → Does site p [] x left → (state : Logged) (budget : ℕ)
        → ComesTo (started body unit path values (fresh state budget)) left (finished last (x (begins state budget)))
    unit_does last none_last {A} x left h state budget = subst (λ frames. ComesTo (record (machine site 0 [] false (record (begins state budget) { frames = frames })) { waiting = [] }) left (finished last (x (begins state budget)))) (sym frames_are)
        (by (x (begins state budget)) (ends_do site p made.instrs made.fine x left h refl (map blank_of p.temporaries) (length-map p.temporaries blank_of) (begins state budget) counted))
      where
        frames_are : frame_with unit.locals (length values) values ∷ [] ≡ joined (frame_of r values ∷ []) (map blank_of p.temporaries ∷ [])
        frames_are = ap₂ (λ ls k. frame_with ls k values ∷ []) made.locals fits ∙ ap (λ v. v ∷ []) (frame_is r made.parameters p.temporaries values made.are) ∙ sym (joined_one (frame_of r values) (map blank_of p.temporaries))

        counted : outline (frame_of r values ∷ []) ≡ site.counts
        counted = ap (λ k. k ∷ []) (frame_count r values ∙ ap (λ k. Some (k + length (own_shapes r))) all_values)

        start : Machine
        start = machine site 0 [] false (full site (map blank_of p.temporaries) (begins state budget))

        by : (o : StepResult Logged A) → AtEnd site start budget left o → ComesTo start left (finished last o)
        by (Err e) l = l
        by (Ok y) l = subst (λ frames. Comes s n units (Goes start) (Ends (left y.0) (record y.1 { frames = frames }))) (ap (λ k. take k (joined y.1.frames (l.0.0 ∷ []))) one_less ∙ sym (none_last y.1.frames one)) l.0.1
          where
            one : length y.1.frames ≡ 1
            one = sym (length_outline y.1.frames) ∙ ap length l.1

            one_less : length (joined y.1.frames (l.0.0 ∷ [])) - 1 ≡ 0
            one_less = let j : length (joined y.1.frames (l.0.0 ∷ [])) ≡ length y.1.frames = length_joined y.1.frames (l.0.0 ∷ []) in omega (arith, j, one)

  -- ---- blocks

  -- the unit of a block comes to what the block means
  pub block_does : (r : Routine) → IsUnit known body r unit → length values ≡ length r.parameters → length values ≡ length (value_types r.parameters) → r.result ≡ None → (state : Logged) (budget : ℕ)
      → ComesTo (started body unit path values (fresh state budget)) no_item (block_step Logged on_log known.meant (Act known s) path r values (fresh state budget))
  unfolding block_step
  block_does r made fits all_values nothing state budget = plainly (and_then o (λ done. leave r)) (subst (λ (t : Option Denoter). ComesTo start result_item (and_then (and_then o (λ done. leave r)) (λ v. back t v))) nothing
      (subst (ComesTo start result_item) (sym (leave_back r o)) (unit_does r P made fits all_values (λ F. take (length F - 1) F) (λ F e. ap (λ k. take (k - 1) F) e) (x >>= λ done. result_step r) result_item
      (then_does here (compiled.stmts (within known body r) r.body) (result_code (within known body r) r r.result) [] x (λ done. result_step r) no_item result_item
      (statements_do known max_depth here placed (site_has r P made fits all_values) refl is_code r scope) (λ done none. result_does here placed (within known body r) scope r)) state budget)))
    where
      P : Piece
      P = routine_code known body r

      here : Site
      here = site r P made fits all_values

      placed : IsPlaced here
      placed = site_placed r P made fits all_values

      scope : IsScope here (within known body r)
      scope = site_scope r P made fits all_values

      start : Machine
      start = started body unit path values (fresh state budget)

      x : Do Logged
      x = stmts Logged on_log known.meant (Act known s (Nested known s max_depth)) (call_by (Nested known s max_depth) path) (record { path = path; frame = 0; references = [] }) r.body

      o : StepResult Logged (Unit {0})
      o = x (record { state = state; frames = frame_of r values ∷ []; left = budget })

      plainly : (q : StepResult Logged Value) → ComesTo start result_item (and_then q (λ v. pure None)) → ComesTo start no_item (and_then q (λ v. pure tt))
      plainly (Ok y) h = h
      plainly (Err e) h = h

  -- ---- clauses

  -- values, the last on top
  abbrev pub stacked : List Value → List Item → List Item
  stacked [] more = more
  stacked (v ∷ vs) more = stacked vs (Datum v ∷ more)

  abbrev call : Call Logged
  call = call_by (from_block Logged on_log known.meant (Act known s)) path

  abbrev value_of_expr : Expr → Step Logged Value
  value_of_expr e = (model.expr Logged on_log known.meant call (record { path = path; frame = 0; references = [] }) e).value

  -- expressions of a clause in one frame
  abbrev pub clause_steps : List Expr → Step Logged (List Value)
  clause_steps [] = pure []
  clause_steps (e ∷ es) = value_of_expr e >>= λ v. clause_steps es >>= λ vs. pure (v ∷ vs)

  abbrev pub clause_values : List Expr → Step Logged (List Value)
  clause_values es = enter_values values >> clause_steps es >>= λ vs. λ q. Ok (vs, record q { frames = [] })

  pub values_long : (ts : List Denoter) → length (value_types (map ByValue ts)) ≡ length ts
  values_long [] = refl
  values_long (t ∷ ts) = ap suc (values_long ts)

  module _ (received : List Denoter) (es : List Expr) (made : IsClause known body received es unit) (fits : length values ≡ length received) where
    abbrev R : Routine
    R = of_clause received

    by_all : length values ≡ length (map ByValue received)
    by_all = fits ∙ sym (length-map received ByValue)

    by_values : length values ≡ length (value_types (map ByValue received))
    by_values = fits ∙ sym (values_long received)

    abbrev scope : Scope
    scope = within known body R

    abbrev here : Site
    here = site R (clause_code scope es) made by_all by_values

    here_scope : IsScope here scope
    here_scope = site_scope R (clause_code scope es) made by_all by_values

    calls : CallsDo here scope call
    calls = depth_calls known max_depth here (site_placed R (clause_code scope es) made by_all by_values) refl is_code body R

    each_does : (xs : List Expr) (more : List Item) → AreNamed here more → Does here (clause_code scope xs) more (clause_steps xs) (λ vs. stacked vs more)
    each_does [] more named = none_does here more [] (λ vs. stacked vs more) refl named
    each_does (x ∷ xs) more named = then_does here (code.expr scope x).value (clause_code scope xs) more (value_of_expr x) (λ v. clause_steps xs >>= λ vs. pure (v ∷ vs)) (λ v. Datum v ∷ more) (λ vs. stacked vs more)
        (above_does here (code.expr scope x).value (value_of_expr x) more named (expr_does here scope here_scope call calls x).value)
        (λ v all. mapped_does here (clause_code scope xs) (Datum v ∷ more) (clause_steps xs) (λ vs. v ∷ vs) (λ vs. stacked vs more) (each_does xs (Datum v ∷ more) all))

    -- the unit of a clause comes to its values
    pub clause_does : (state : Logged) (budget : ℕ) → ComesTo (started body unit path values (fresh state budget)) (λ vs. stacked vs []) (clause_values es (fresh state budget))
    clause_does state budget = subst (λ vs. ComesTo (started body unit path values (fresh state budget)) (λ ws. stacked ws []) (and_then (clause_steps es (record { state = state; frames = pascal.Fields vs ∷ []; left = budget })) (λ ws. λ q. Ok (ws, record q { frames = [] })))) (append-nil values)
        (by (clause_steps es (record { state = state; frames = pascal.Fields (values ++ []) ∷ []; left = budget })) (unit_does R (clause_code scope es) made by_all by_values (λ F. []) (λ F e. refl) (clause_steps es) (λ vs. stacked vs []) (each_does es [] tt) state budget))
      where
        by : (o : StepResult Logged (List Value)) → ComesTo (started body unit path values (fresh state budget)) (λ ws. stacked ws []) (finished R (clause_code scope es) made by_all by_values (λ F. []) o)
            → ComesTo (started body unit path values (fresh state budget)) (λ ws. stacked ws []) (and_then o (λ ws. λ q. Ok (ws, record q { frames = [] })))
        by (Ok y) h = h
        by (Err e) h = h

  -- the unit of one expression comes to its value
  pub value_does : (received : List Denoter) (e : Expr) → IsClause known body received (e ∷ []) unit → length values ≡ length received → (state : Logged) (budget : ℕ)
      → ComesTo (started body unit path values (fresh state budget)) datum (with_values values (clause_value Logged on_log known.meant (Act known s) path e) (fresh state budget))
  unfolding clause_value
  value_does received e made fits state budget = by (value_of_expr e (record { state = state; frames = pascal.Fields values ∷ []; left = budget })) (clause_does received (e ∷ []) made fits state budget)
    where
      by : (o : StepResult Logged Value) → ComesTo (started body unit path values (fresh state budget)) (λ vs. stacked vs []) (and_then (and_then o (λ v. pure (v ∷ []))) (λ vs. λ q. Ok (vs, record q { frames = [] })))
          → ComesTo (started body unit path values (fresh state budget)) datum (and_then o (λ v. leave_values v))
      by (Ok y) h = h
      by (Err e) h = h
