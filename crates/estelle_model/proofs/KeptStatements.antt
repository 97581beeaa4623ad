-- What each step keeps every statement keeps, where calls and the statements of Estelle do.
use Rattle.std.proofs.Common.{ℕ, zero, suc, Bool, List, [], ◌∷◌, map, ℤ, Option, Some, None, cond}
use Rattle.pascal_values.specs.declared.fault.Fault.TheVariants as fault
use Rattle.pascal_values.specs.declared.value.Value.{Value}
use Rattle.estelle_tree.specs.declared.tree.name.Name.{Name}
use Rattle.estelle_tree.specs.declared.tree.type_expr.Const.{Const}
use Rattle.estelle_tree.specs.declared.tree.expression.Expr.{Expr}
use Rattle.estelle_tree.specs.declared.tree.expression.Args.{Args}
use Rattle.estelle_tree.specs.declared.tree.expression.Variable.{Variable}
use Rattle.estelle_tree.specs.declared.tree.statement.Direction.{Direction}
use Rattle.estelle_tree.specs.declared.tree.statement.Stmt.{Stmt}
use Rattle.estelle_tree.specs.declared.tree.statement.Stmts.{Stmts}
use Rattle.estelle_tree.specs.declared.tree.statement.Stmt.TheOpen.{Stmt-F}
use Rattle.estelle_tree.proofs.Folds.{Related, Pairs, KeepsAt, folds_related}
use Rattle.estelle_tree.proofs.StatementFolds as kind
use Rattle.estelle_tree.proofs.StatementFolds.{Kind, Layer, statements}
use Rattle.estelle_model.specs.declared.denoter.Denoter.{Denoter}
use Rattle.estelle_model.specs.declared.denoter.Host.{Host}
use Rattle.estelle_model.specs.Types.{host_of}
use Rattle.estelle_model.specs.Operators.{bool_of}
use Rattle.estelle_model.specs.States.{Offers}
use Rattle.estelle_model.specs.Stops.{Faults, Broken}
use Rattle.estelle_model.specs.Steps.{Running, StepResult, Step, Do, ◌>>=◌, ◌>>◌, pure, fail, spend}
use Rattle.estelle_model.specs.declared.meaning.Routine.{Routine}
use Rattle.estelle_model.specs.declared.meaning.Meaning.{Meaning}
use Rattle.estelle_model.specs.declared.meaning.Meaning.TheVariants.{Called}
use Rattle.estelle_model.specs.Meant.{Meanings, result_number}
use Rattle.estelle_model.specs.declared.place.Place.{Place}
use Rattle.estelle_model.specs.declared.place.Place.TheVariants.{In}
use Rattle.estelle_model.specs.Places.{blank_at, store, store_ordinal}
use Rattle.estelle_model.specs.declared.place.Environment.{Environment}
use Rattle.estelle_model.specs.declared.place.ActualParameters.{ActualParameters}
use Rattle.estelle_model.specs.Expressions.{Call, Operand, Access, Selecting, bool_step, bound_of, bound_step, selector_of, selector_step, give_all, no_arguments, accessed, result_of, assigned, target, variable}
use Rattle.estelle_model.specs.Loops.{while_turns, repeat_turns, while_loop, repeat_loop, next_of, turns_of, count_turns, count_loop}
use Rattle.estelle_model.specs.Statements.{Statement, statement_of, Acts, is_labelled, chosen, or_nothing, value_of_expr, arguments, assign_to, assign, invoke_of, invoke, choose, count_over, count, select, acted, stmt, branch, stmts}
use Rattle.estelle_model.proofs.Kept.{Each, IfThere, each_has, Has, IsClosed, OperandKept, AccessKept, SelectingKept, CallKept, then_kept, pure_kept, stop_kept, if_kept, seq_kept, all_kept, spend_kept, of_value_kept, give_all_kept, blank_kept, store_kept, store_ordinal_kept}
use Rattle.estelle_model.proofs.KeptExpressions.{accessed_kept, args_kept, expr_kept, variable_kept}
use Rattle.estelle_model.proofs.StatementEquations.{Results, layers}

-- ---- loops

module _ (S : Type 0) (on : Offers S) (Q : (A : Type 0) → Running S → StepResult S A → Type 0) (closed : IsClosed S on Q) where
  turns_kept : (n : ℕ) (p : Step S Bool) (b : Do S) → Has Q p → Has Q b → Has Q (while_turns n p b)
  turns_kept zero p b h k = then_kept S on Q closed Bool (Unit {0}) p (λ again. cond again (fail fault.StepLimit) (pure tt)) h (λ again. if_kept S on Q closed (Unit {0}) again (fail fault.StepLimit) (pure tt) (stop_kept S on Q closed (Unit {0}) (Faults fault.StepLimit)) (pure_kept S on Q closed (Unit {0}) tt))
  turns_kept (suc n) p b h k = then_kept S on Q closed Bool (Unit {0}) p (λ again. cond again (spend >> b >> while_turns n p b) (pure tt)) h
      (λ again. if_kept S on Q closed (Unit {0}) again (spend >> b >> while_turns n p b) (pure tt) (seq_kept S on Q closed (Unit {0}) (spend >> b) (while_turns n p b) (seq_kept S on Q closed (Unit {0}) spend b (spend_kept S on Q closed) k) (turns_kept n p b h k)) (pure_kept S on Q closed (Unit {0}) tt))

  pub while_kept : (p : Step S Bool) (b : Do S) → Has Q p → Has Q b → Has Q (while_loop p b)
  unfolding while_loop
  while_kept p b h k s = turns_kept s.left p b h k s

  rounds_kept : (n : ℕ) (b : Do S) (p : Step S Bool) → Has Q b → Has Q p → Has Q (repeat_turns n b p)
  rounds_kept zero b p h k = stop_kept S on Q closed (Unit {0}) (Faults fault.StepLimit)
  rounds_kept (suc n) b p h k = then_kept S on Q closed Bool (Unit {0}) (spend >> b >> p) (λ done. cond done (pure tt) (repeat_turns n b p)) (seq_kept S on Q closed Bool (spend >> b) p (seq_kept S on Q closed (Unit {0}) spend b (spend_kept S on Q closed) h) k)
      (λ done. if_kept S on Q closed (Unit {0}) done (pure tt) (repeat_turns n b p) (pure_kept S on Q closed (Unit {0}) tt) (rounds_kept n b p h k))

  pub repeat_kept : (b : Do S) (p : Step S Bool) → Has Q b → Has Q p → Has Q (repeat_loop b p)
  unfolding repeat_loop
  repeat_kept b p h k s = rounds_kept s.left b p h k s

  counts_kept : (k : ℕ) (dir : Direction) (n : ℤ) (f : ℤ → Do S) (u b : Do S) → ((i : ℤ) → Has Q (f i)) → Has Q u → Has Q b → Has Q (count_turns k dir n f u b)
  counts_kept zero dir n f u b h i j = i
  counts_kept (suc k) dir n f u b h i j = seq_kept S on Q closed (Unit {0}) (spend >> f n >> b) (count_turns k dir (next_of dir n) f u b) (seq_kept S on Q closed (Unit {0}) (spend >> f n) b (seq_kept S on Q closed (Unit {0}) spend (f n) (spend_kept S on Q closed) (h n)) j) (counts_kept k dir (next_of dir n) f u b h i j)

  pub count_kept : (dir : Direction) (first last : ℤ) (f : ℤ → Do S) (u b : Do S) → ((i : ℤ) → Has Q (f i)) → Has Q u → Has Q b → Has Q (count_loop dir first last f u b)
  unfolding count_loop
  count_kept dir first last f u b h i j = counts_kept (turns_of dir first last) dir first f u b h i j

  -- what a statement of Estelle with such arguments does has the property
  abbrev pub ActKept : Acts S → Environment → Type 0
  ActKept act here = (st : Statement) (es : List (Operand S)) → Each (OperandKept S on Q closed) es → Has Q (act here st es)

-- ---- statements

module _ (S : Type 0) (on : Offers S) (Q : (A : Type 0) → Running S → StepResult S A → Type 0) (closed : IsClosed S on Q) (meant : Meanings) (act : Acts S) (here : Environment) (acts : ActKept S on Q closed act here) (call : Call S) (calls : CallKept S on Q closed call) where
  value_kept : (e : Expr) → Has Q (value_of_expr S on meant act call here e)
  value_kept e = (expr_kept S on Q closed meant call calls here e).value

  arguments_kept : (es : Option Args) → Each (OperandKept S on Q closed) (arguments S on meant act call here es)
  arguments_kept None = tt
  arguments_kept (Some es) = args_kept S on Q closed meant call calls here es

  assign_to_kept : (o : Option (Access S)) (p : Step S Value) → IfThere (AccessKept S on Q closed) o → Has Q p → Has Q (assign_to S on meant act call here o p)
  assign_to_kept None p h k = stop_kept S on Q closed (Unit {0}) Broken
  assign_to_kept (Some a) p h k = then_kept S on Q closed Place (Unit {0}) a.place (λ x. p >>= λ v. store S on a.denoter x v) h (λ x. then_kept S on Q closed Value (Unit {0}) p (λ v. store S on a.denoter x v) k (λ v. store_kept S on Q closed a.denoter x v))

  result_kept : (r : Routine) (o : Option Denoter) → IfThere (AccessKept S on Q closed) (result_of S on meant call here r o)
  result_kept r None = tt
  result_kept r (Some d) = pure_kept S on Q closed Place (In here.frame (result_number r) [])

  assigned_kept : (x : Meaning) (xs : List (Selecting S)) → Each (SelectingKept S on Q closed) xs → IfThere (AccessKept S on Q closed) (assigned S on meant call here x xs)
  assigned_kept (Called r) xs h = result_kept r r.result
  assigned_kept x xs h = accessed_kept S on Q closed meant call calls here x xs h

  assign_kept : (v : Variable) (e : Expr) → Has Q (assign S on meant act call here v e)
  unfolding assign target
  assign_kept v e = assign_to_kept (assigned S on meant call here (meant (variable S on meant call here v).name) (variable S on meant call here v).selectors) (value_of_expr S on meant act call here e) (assigned_kept (meant (variable S on meant call here v).name) (variable S on meant call here v).selectors (variable_kept S on Q closed meant call calls here v)) (value_kept e)

  invoke_of_kept : (x : Meaning) (es : List (Operand S)) → Each (OperandKept S on Q closed) es → Has Q (invoke_of S on meant act call here x es)
  invoke_of_kept (Called r) es h = then_kept S on Q closed ActualParameters (Unit {0}) (give_all r.parameters es no_arguments) (λ g. call r g >>= λ v. pure tt) (give_all_kept S on Q closed r.parameters es no_arguments h)
      (λ g. then_kept S on Q closed Value (Unit {0}) (call r g) (λ v. pure tt) (calls r g) (λ v. pure_kept S on Q closed (Unit {0}) tt))
  invoke_of_kept _ es h = stop_kept S on Q closed (Unit {0}) Broken

  invoke_kept : (x : Name) (es : Option Args) → Has Q (invoke S on meant act call here x es)
  unfolding invoke
  invoke_kept x es = invoke_of_kept (meant x) (arguments S on meant act call here es) (arguments_kept es)

  test_kept : (e : Expr) → Has Q (bool_step (value_of_expr S on meant act call here e))
  test_kept e = of_value_kept S on Q closed Bool bool_of (value_of_expr S on meant act call here e) (value_kept e)

  or_nothing_kept : (o : Option (Do S)) → IfThere (Has {A = Unit {0}} Q) o → Has Q (or_nothing o)
  or_nothing_kept None h = pure_kept S on Q closed (Unit {0}) tt
  or_nothing_kept (Some p) h = h

  choose_kept : (e : Expr) (p : Do S) (o : Option (Do S)) → Has Q p → IfThere (Has {A = Unit {0}} Q) o → Has Q (choose S on meant act call here e p o)
  unfolding choose
  choose_kept e p o h k = then_kept S on Q closed Bool (Unit {0}) (bool_step (value_of_expr S on meant act call here e)) (λ b. cond b p (or_nothing o)) (test_kept e) (λ b. if_kept S on Q closed (Unit {0}) b p (or_nothing o) h (or_nothing_kept o k))

  bound_kept : (h : Host) (e : Expr) → Has Q (bound_step h (value_of_expr S on meant act call here e))
  bound_kept h e = of_value_kept S on Q closed ℤ (bound_of h) (value_of_expr S on meant act call here e) (value_kept e)

  count_over_kept : (o : Option (Access S)) (first : Expr) (dir : Direction) (last : Expr) (b : Do S) → IfThere (AccessKept S on Q closed) o → Has Q b → Has Q (count_over S on meant act call here o (value_of_expr S on meant act call here first) dir (value_of_expr S on meant act call here last) b)
  count_over_kept None first dir last b h k = stop_kept S on Q closed (Unit {0}) Broken
  count_over_kept (Some a) first dir last b h k = then_kept S on Q closed ℤ (Unit {0}) (bound_step (host_of a.denoter) (value_of_expr S on meant act call here first)) (λ i. bound_step (host_of a.denoter) (value_of_expr S on meant act call here last) >>= λ j. a.place >>= λ p. count_loop dir i j (λ n. store_ordinal S on a.denoter p n) (blank_at S on p) b) (bound_kept (host_of a.denoter) first)
      (λ i. then_kept S on Q closed ℤ (Unit {0}) (bound_step (host_of a.denoter) (value_of_expr S on meant act call here last)) (λ j. a.place >>= λ p. count_loop dir i j (λ n. store_ordinal S on a.denoter p n) (blank_at S on p) b) (bound_kept (host_of a.denoter) last)
      (λ j. then_kept S on Q closed Place (Unit {0}) a.place (λ p. count_loop dir i j (λ n. store_ordinal S on a.denoter p n) (blank_at S on p) b) h
      (λ p. count_kept S on Q closed dir i j (λ n. store_ordinal S on a.denoter p n) (blank_at S on p) b (λ n. store_ordinal_kept S on Q closed a.denoter p n) (blank_kept S on Q closed p) k)))

  for_kept : (x : Name) (first : Expr) (dir : Direction) (last : Expr) (b : Do S) → Has Q b → Has Q (count S on meant act call here x first dir last b)
  unfolding count
  for_kept x first dir last b k = count_over_kept (accessed S on meant call here (meant x) []) first dir last b (accessed_kept S on Q closed meant call calls here (meant x) [] tt) k

  abbrev CaseKept : List Const × Do S → Type 0
  CaseKept x = Has Q x.1

  chosen_kept : (n : ℤ) (xs : List (List Const × Do S)) → Each CaseKept xs → Has Q (chosen meant n xs)
  chosen_kept n [] h = stop_kept S on Q closed (Unit {0}) (Faults fault.NoCase)
  chosen_kept n (x ∷ xs) h = if_kept S on Q closed (Unit {0}) (is_labelled meant n x.0) x.1 (chosen meant n xs) h.0 (chosen_kept n xs h.1)

  select_kept : (e : Expr) (xs : List (List Const × Do S)) → Each CaseKept xs → Has Q (select S on meant act call here e xs)
  unfolding select
  select_kept e xs h = then_kept S on Q closed ℤ (Unit {0}) (selector_step (value_of_expr S on meant act call here e)) (λ n. chosen meant n xs) (of_value_kept S on Q closed ℤ selector_of (value_of_expr S on meant act call here e) (value_kept e)) (λ n. chosen_kept n xs h)

  acted_kept : (o : Option (Statement × Option Args)) → Has Q (acted S on meant act call here o)
  acted_kept None = stop_kept S on Q closed (Unit {0}) Broken
  acted_kept (Some x) = acts x.0 _ (arguments_kept x.1)

  -- ---- trees

  abbrev NodeKept : (k : Kind) → Results S k → Results S k → Type 0
  NodeKept kind.stmt x y = Has {A = Unit {0}} Q x
  NodeKept kind.branch x y = CaseKept x
  NodeKept kind.stmts x y = Has {A = Unit {0}} Q x

  keeps : (k : Kind) (l : Layer k (Pairs statements (Results S) (Results S) (layers S on meant act call here) (layers S on meant act call here) NodeKept)) → KeepsAt statements (Results S) (Results S) (layers S on meant act call here) (layers S on meant act call here) NodeKept k l
  keeps kind.stmt Stmt-F.Empty = pure_kept S on Q closed (Unit {0}) tt
  keeps kind.stmt (Stmt-F.Assign v e span) = assign_kept v e
  keeps kind.stmt (Stmt-F.Call x es span) = invoke_kept x es
  keeps kind.stmt (Stmt-F.Begin body span) = body.holds
  keeps kind.stmt (Stmt-F.If test then_part None span) = choose_kept test then_part.left None then_part.holds tt
  keeps kind.stmt (Stmt-F.If test then_part (Some p) span) = choose_kept test then_part.left (Some p.left) then_part.holds p.holds
  keeps kind.stmt (Stmt-F.While test body span) = while_kept S on Q closed (bool_step (value_of_expr S on meant act call here test)) body.left (test_kept test) body.holds
  keeps kind.stmt (Stmt-F.Repeat body test span) = repeat_kept S on Q closed body.left (bool_step (value_of_expr S on meant act call here test)) body.holds (test_kept test)
  keeps kind.stmt (Stmt-F.Count x first dir last body span) = for_kept x first dir last body.left body.holds
  keeps kind.stmt (Stmt-F.Case e cases semicolon span) = select_kept e (map (λ (c : Related (List Const × Do S) (List Const × Do S) (λ x y. CaseKept x)). c.left) cases) (each_has CaseKept cases)
  keeps kind.stmt l = acted_kept (statement_of l)
  keeps kind.branch l = l.body.holds
  keeps kind.stmts l = all_kept S on Q closed (map (λ (x : Related (Do S) (Do S) (λ x y. Has {A = Unit {0}} Q x)). x.left) l.stmts) (each_has (Has {A = Unit {0}} Q) l.stmts)

  pub stmt_kept : (x : Stmt) → Has {A = Unit {0}} Q (stmt S on meant act call here x)
  unfolding stmt branch stmts
  stmt_kept = folds_related statements (Results S) (Results S) (layers S on meant act call here) (layers S on meant act call here) NodeKept keeps kind.stmt

  pub stmts_kept : (x : Stmts) → Has {A = Unit {0}} Q (stmts S on meant act call here x)
  unfolding stmt branch stmts
  stmts_kept = folds_related statements (Results S) (Results S) (layers S on meant act call here) (layers S on meant act call here) NodeKept keeps kind.stmts
