-- Examples of what calls mean, over any state.
use Rattle.std.proofs.Common.{◌≡◌, ℕ, zero, suc, ◌+◌, ◌-◌, List, [], ◌∷◌, ◌++◌, pos, Ok, Err, Some, None, ap, ◌∙◌, arith}
use Rattle.pascal_values.specs.declared.fault.Fault.TheVariants as fault
use Rattle.pascal_values.specs.declared.value.Value.{Value}
use Rattle.pascal_values.specs.declared.value.Value.TheVariants as pascal
use Rattle.pascal_values.specs.declared.value.Value.TheVariants.{outs-Int, outs-Unset, outs-Fields, outs-Array}
use Rattle.estelle_tree.specs.declared.tree.expression.Expr.{Expr}
use Rattle.estelle_tree.specs.declared.tree.statement.Stmt.{Stmt}
use Rattle.estelle_model.specs.declared.denoter.Denoter.TheVariants.{outs-Array as outs-ArrayType}
use Rattle.estelle_tree.specs.Paths.{Path}
use Rattle.estelle_model.specs.States.{Offers}
use Rattle.estelle_model.specs.Stops.{Faults}
use Rattle.estelle_model.specs.Steps.{Running, StepResult, Do, and_then, pure, fail, spend}
use Rattle.estelle_model.specs.declared.meaning.Passing.TheVariants.{ByPlace}
use Rattle.estelle_model.specs.declared.meaning.Routine.{Routine}
use Rattle.estelle_model.specs.declared.meaning.Meaning.TheVariants.{Local, Var, Called}
use Rattle.estelle_model.specs.Meant.{Meanings}
use Rattle.estelle_model.specs.Places.{load, store, put}
use Rattle.estelle_model.specs.declared.place.Environment.{Environment}
use Rattle.estelle_model.specs.Expressions.{called, no_arguments}
use Rattle.estelle_model.specs.Statements.{Acts}
use Rattle.estelle_model.specs.Calls.{Enters, call_by, nested, within, leave, max_depth}
use Rattle.estelle_model.proofs.Trees as tree
use Rattle.estelle_model.proofs.Fitting.{shape_ordinal, assignable_ordinal, within_int, blank_int}
use Rattle.estelle_model.proofs.Forms.{mean, run, alone_is, access_is}
use Rattle.estelle_model.proofs.FrameLemmas.{leave_last}
use Rattle.estelle_model.proofs.Points.{number_at, value_at, index_at, sequence_at, empty_at, assignment_at, call_at, plain_call_at}
use Rattle.estelle_model.proofs.WorkedStatements.{meanings, integer, pair, spend_some}

-- procedure p(var x, y: integer) begin x := 1; y := 2 end
abbrev pub both_set : Routine
both_set = record {
  parameters = ByPlace ∷ ByPlace ∷ [];
  locals = [];
  result = None;
  body = tree.sequence (tree.assignment (tree.access 1 []) (tree.alone (tree.number (pos 1))) ∷ tree.assignment (tree.access 2 []) (tree.alone (tree.number (pos 2))) ∷ []);
}

-- procedure q(var x: integer; var i: integer) begin i := 2; x := 5 end
abbrev pub moved_on : Routine
moved_on = record {
  parameters = ByPlace ∷ ByPlace ∷ [];
  locals = [];
  result = None;
  body = tree.sequence (tree.assignment (tree.access 3 []) (tree.alone (tree.number (pos 2))) ∷ tree.assignment (tree.access 2 []) (tree.alone (tree.number (pos 5))) ∷ []);
}

-- function f: integer begin end
abbrev pub without_result : Routine
without_result = record { parameters = []; locals = []; result = Some integer; body = tree.sequence (tree.empty ∷ []) }

-- function f: integer begin f := 7 end
abbrev pub gives_seven : Routine
gives_seven = record { parameters = []; locals = []; result = Some integer; body = tree.sequence (tree.assignment (tree.access 0 []) (tree.alone (tree.number (pos 7))) ∷ []) }

-- procedure r begin r end
abbrev pub endless : Routine
endless = record { parameters = []; locals = []; result = None; body = tree.sequence (tree.plain_call 0 ∷ []) }

-- procedure t begin end
abbrev pub idle : Routine
idle = record { parameters = []; locals = []; result = None; body = tree.sequence (tree.empty ∷ []) }

module _ (S : Type 0) (on : Offers S) (act : Enters S → Acts S) (path : Path) (st : S) where
  abbrev pub running : List Value → ℕ → Running S
  running vs n = record { state = st; frames = pascal.Fields vs ∷ []; left = n }

  -- what a statement of a block does
  abbrev pub does : Meanings → Stmt → List Value → ℕ → StepResult S (Unit {0})
  does meant p vs n = run S on meant (act (nested S on meant act max_depth)) (call_by (nested S on meant act max_depth) path) (record { path = path; frame = 0; references = [] }) p (running vs n)

  abbrev pub aliasing : Meanings
  aliasing = meanings (Local 0 integer ∷ Var 0 integer ∷ Var 1 integer ∷ Called both_set ∷ [])

  -- p(n, n): x and y are both n
  pub aliased : (v : Value) → does aliasing (tree.procedure_call 3 (tree.alone (tree.named 0) ∷ tree.alone (tree.named 0) ∷ [])) (v ∷ []) 10 ≡ Ok (tt, running (pascal.Int (pos 2) ∷ []) 9)
  unfolding load store put spend leave
  aliased v = simp (call_at, alone_is, access_is, sequence_at, assignment_at, number_at, outs-Int, outs-Fields, shape_ordinal, assignable_ordinal, within_int)

  abbrev pub moving : Meanings
  moving = meanings (Local 0 pair ∷ Local 1 integer ∷ Var 0 integer ∷ Var 1 integer ∷ Called moved_on ∷ [])

  -- q(a[i], i) with i = 1: x is a[1] although i becomes 2
  pub fixed_at_call : (v w : Value) → does moving (tree.procedure_call 4 (tree.alone (tree.accessing 0 (tree.index (tree.alone (tree.named 1) ∷ []) ∷ [])) ∷ tree.alone (tree.named 1) ∷ [])) (pascal.Array (v ∷ w ∷ []) ∷ pascal.Int (pos 1) ∷ []) 10
      ≡ Ok (tt, running (pascal.Array (pascal.Int (pos 5) ∷ w ∷ []) ∷ pascal.Int (pos 2) ∷ []) 9)
  unfolding load store put spend leave
  fixed_at_call v w = simp (call_at, alone_is, access_is, index_at, sequence_at, assignment_at, number_at, outs-Int, outs-Fields, outs-Array, outs-ArrayType, shape_ordinal, assignable_ordinal, within_int)

  -- what an expression of a block comes to
  abbrev pub comes_to : Meanings → Expr → ℕ → StepResult S Value
  comes_to meant e n = (mean S on meant (call_by (nested S on meant act max_depth) path) (record { path = path; frame = 0; references = [] }) e).value (running [] n)

  -- a function that did not assign its result
  pub unset_result : comes_to (meanings (Called without_result ∷ [])) (tree.alone (tree.named 0)) 10 ≡ Err (Faults fault.Unset, 9)
  unfolding called spend leave
  unset_result = simp (value_at, sequence_at, empty_at, outs-Fields, outs-Unset, shape_ordinal, blank_int)

  -- and one that did
  pub result : comes_to (meanings (Called gives_seven ∷ [])) (tree.alone (tree.named 0)) 10 ≡ Ok (pascal.Int (pos 7), running [] 9)
  unfolding called spend leave store put
  result = simp (value_at, sequence_at, assignment_at, number_at, outs-Int, outs-Fields, shape_ordinal, assignable_ordinal, within_int, blank_int)

  -- ---- how deep calls nest

  abbrev pub recursion : Meanings
  recursion = meanings (Called endless ∷ [])

  abbrev entered : Running S → ℕ → Running S
  entered s n = record { state = s.state; frames = s.frames ++ pascal.Fields [] ∷ []; left = n }

  -- where k more calls may be nested, a routine that calls itself is too deep after k calls; each takes its unit, and the one that is too deep takes it too
  pub too_deep : (k m : ℕ) (s : Running S) → s.left ≡ suc (k + m) → nested S on recursion act k (pure tt) path endless no_arguments s ≡ Err (Faults fault.CallDepth, m)
  too_deep zero m s e = ap (λ o. and_then o (λ _. fail fault.CallDepth)) (spend_some s m (omega arith))
  too_deep (suc k) m s e =
      ap (λ o. and_then (and_then o (λ _. pure tt)) (λ _. within S on recursion act (nested S on recursion act k) (max_depth - k) path endless no_arguments)) (spend_some s (suc k + m) (omega arith))
      ∙ simp (sequence_at, plain_call_at, too_deep k m (entered s (suc k + m)) (omega arith))

  -- a block with 201 units: 200 calls are nested, and the next one is too deep
  pub call_201 : (vs : List Value) (m : ℕ) → does recursion (tree.plain_call 0) vs (201 + m) ≡ Err (Faults fault.CallDepth, m)
  call_201 vs m = simp (plain_call_at, too_deep 200 m (running vs (201 + m)) (omega arith))

  -- where one more call may be nested, it runs
  pub last_call : (meant : Meanings) (s : Running S) (n : ℕ) → s.left ≡ suc n → nested S on meant act 1 (pure tt) path idle no_arguments s ≡ Ok (pascal.Unset, record s { left = n })
  last_call meant s n e =
      ap (λ o. and_then (and_then o (λ _. pure tt)) (λ _. within S on meant act (nested S on meant act 0) (max_depth - 0) path idle no_arguments)) (spend_some s n e)
      ∙ simp (sequence_at, empty_at, leave_last idle (pascal.Fields []) (record s { left = n }), outs-Fields)
