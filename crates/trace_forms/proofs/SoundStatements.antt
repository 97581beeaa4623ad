-- Every statement whose outputs are named by identifiers keeps the invariant, where calls and the statements of Estelle do.
use Rattle.std.proofs.Common.{◌≡◌, ℕ, zero, suc, Bool, List, [], ◌∷◌, map, ℤ, Option, Some, None, cond, true}
use Rattle.pascal_values.specs.declared.fault.Fault.TheVariants as fault
use Rattle.pascal_values.specs.declared.value.Value.{Value}
use Rattle.estelle_tree.specs.declared.tree.name.Name.{Name}
use Rattle.estelle_tree.specs.declared.tree.type_expr.Const.{Const}
use Rattle.estelle_tree.specs.declared.tree.expression.Expr.{Expr}
use Rattle.estelle_tree.specs.declared.tree.expression.Args.{Args}
use Rattle.estelle_tree.specs.declared.tree.expression.Variable.{Variable}
use Rattle.estelle_tree.specs.declared.tree.statement.Direction.{Direction}
use Rattle.estelle_tree.specs.declared.tree.statement.Stmts.{Stmts}
use Rattle.estelle_tree.specs.declared.tree.statement.Stmt.TheOpen.{Stmt-F}
use Rattle.estelle_tree.proofs.Folds.{Related, Pairs, KeepsAt, folds_related}
use Rattle.estelle_tree.proofs.StatementFolds as kind
use Rattle.estelle_tree.proofs.StatementFolds.{Kind, Layer, statements}
use Rattle.estelle_model.specs.declared.denoter.Denoter.{Denoter}
use Rattle.estelle_model.specs.declared.denoter.Host.{Host}
use Rattle.estelle_model.specs.Types.{host_of}
use Rattle.estelle_model.specs.Operators.{bool_of}
use Rattle.estelle_model.specs.States.{Offers}
use Rattle.estelle_model.specs.Stops.{Faults, Broken}
use Rattle.estelle_model.specs.Steps.{Running, Step, Do, ◌>>=◌, ◌>>◌, pure, fail, spend}
use Rattle.estelle_model.specs.declared.meaning.Routine.{Routine}
use Rattle.estelle_model.specs.declared.meaning.Meaning.{Meaning}
use Rattle.estelle_model.specs.declared.meaning.Meaning.TheVariants.{Called}
use Rattle.estelle_model.specs.Meant.{Meanings, result_number}
use Rattle.estelle_model.specs.declared.place.Place.{Place}
use Rattle.estelle_model.specs.declared.place.Place.TheVariants.{In}
use Rattle.estelle_model.specs.Places.{blank_at, store, store_ordinal}
use Rattle.estelle_model.specs.declared.place.Environment.{Environment}
use Rattle.estelle_model.specs.declared.place.ActualParameters.{ActualParameters}
use Rattle.estelle_model.specs.Expressions.{Call, Operand, Access, Selecting, bool_step, bound_of, bound_step, selector_of, selector_step, give_all, no_arguments, accessed, result_of, assigned, target, variable}
use Rattle.estelle_model.specs.Loops.{while_turns, repeat_turns, while_loop, repeat_loop, next_of, turns_of, count_turns, count_loop}
use Rattle.estelle_model.specs.Statements.{Statement, statement_of, Acts, Output, is_labelled, chosen, or_nothing, value_of_expr, arguments, assign_to, assign, invoke_of, invoke, choose, count_over, count, select, acted, stmt, branch, stmts}
use Rattle.estelle_model.proofs.Units.{Each, IfThere}
use Rattle.trace_forms.proofs.Sound.{Any, IsClosed, Gives, OperandSound, AccessSound, SelectingSound, CallSound, GivenRise, then_sound, then_any, pure_any, stop_sound, if_sound, seq_sound, all_sound, spend_sound, of_value_any, give_all_sound, blank_sound, store_sound, store_ordinal_sound}
use Rattle.trace_forms.proofs.Values.{Rises}
use Rattle.std.specs.List.{list_all}
use Rattle.trace_forms.proofs.Named.{are_names, named_stmts}
use Rattle.trace_forms.proofs.Named as named
use Rattle.trace_forms.proofs.SoundExpressions.{MeaningTold, accessed_sound, args_sound, expr_sound, variable_sound}
use Rattle.estelle_model_legality.proofs.Lists.{and_both}
use Rattle.estelle_model.proofs.StatementEquations.{Results, layers}

-- ---- loops

module _ (S : Type 0) (on : Offers S) (I : Running S → Type 0) (closed : IsClosed S on I) where
  turns_sound : (n : ℕ) (p : Step S Bool) (b : Do S) → Gives S I Any p → Gives S I Any b → Gives S I Any (while_turns n p b)
  turns_sound zero p b h k = then_any S I Bool (Unit {0}) Any p (λ again. cond again (fail fault.StepLimit) (pure tt)) h (λ again. if_sound S I (Unit {0}) Any again (fail fault.StepLimit) (pure tt) (stop_sound S I (Unit {0}) Any (Faults fault.StepLimit)) (pure_any S I (Unit {0}) tt))
  turns_sound (suc n) p b h k = then_any S I Bool (Unit {0}) Any p (λ again. cond again (spend >> b >> while_turns n p b) (pure tt)) h
      (λ again. if_sound S I (Unit {0}) Any again (spend >> b >> while_turns n p b) (pure tt) (seq_sound S I (Unit {0}) Any (spend >> b) (while_turns n p b) (seq_sound S I (Unit {0}) Any spend b (spend_sound S I on closed) k) (turns_sound n p b h k)) (pure_any S I (Unit {0}) tt))

  pub while_sound : (p : Step S Bool) (b : Do S) → Gives S I Any p → Gives S I Any b → Gives S I Any (while_loop p b)
  unfolding while_loop
  while_sound p b h k s = turns_sound s.left p b h k s

  rounds_sound : (n : ℕ) (b : Do S) (p : Step S Bool) → Gives S I Any b → Gives S I Any p → Gives S I Any (repeat_turns n b p)
  rounds_sound zero b p h k = stop_sound S I (Unit {0}) Any (Faults fault.StepLimit)
  rounds_sound (suc n) b p h k = then_any S I Bool (Unit {0}) Any (spend >> b >> p) (λ done. cond done (pure tt) (repeat_turns n b p)) (seq_sound S I Bool Any (spend >> b) p (seq_sound S I (Unit {0}) Any spend b (spend_sound S I on closed) h) k)
      (λ done. if_sound S I (Unit {0}) Any done (pure tt) (repeat_turns n b p) (pure_any S I (Unit {0}) tt) (rounds_sound n b p h k))

  pub repeat_sound : (b : Do S) (p : Step S Bool) → Gives S I Any b → Gives S I Any p → Gives S I Any (repeat_loop b p)
  unfolding repeat_loop
  repeat_sound b p h k s = rounds_sound s.left b p h k s

  counts_sound : (k : ℕ) (dir : Direction) (n : ℤ) (f : ℤ → Do S) (u b : Do S) → ((i : ℤ) → Gives S I Any (f i)) → Gives S I Any u → Gives S I Any b → Gives S I Any (count_turns k dir n f u b)
  counts_sound zero dir n f u b h i j = i
  counts_sound (suc k) dir n f u b h i j = seq_sound S I (Unit {0}) Any (spend >> f n >> b) (count_turns k dir (next_of dir n) f u b) (seq_sound S I (Unit {0}) Any (spend >> f n) b (seq_sound S I (Unit {0}) Any spend (f n) (spend_sound S I on closed) (h n)) j) (counts_sound k dir (next_of dir n) f u b h i j)

  pub count_sound : (dir : Direction) (first last : ℤ) (f : ℤ → Do S) (u b : Do S) → ((i : ℤ) → Gives S I Any (f i)) → Gives S I Any u → Gives S I Any b → Gives S I Any (count_loop dir first last f u b)
  unfolding count_loop
  count_sound dir first last f u b h i j = counts_sound (turns_of dir first last) dir first f u b h i j

  -- ---- what statements of Estelle are given

  -- an output names its interaction point and its interaction by identifiers
  abbrev pub ActNamed : Statement → Type 0
  ActNamed (Output p n) = are_names p n ≡ true
  ActNamed st = Unit {0}

  abbrev pub ActSound : Acts S → Environment → Type 0
  ActSound act here = (st : Statement) (es : List (Operand S)) → ActNamed st → Each (OperandSound S I) es → Gives S I Any (act here st es)

-- ---- statements

module _ (S : Type 0) (on : Offers S) (I : Running S → Type 0) (closed : IsClosed S on I) (meant : Meanings) (act : Acts S) (here : Environment) (acts : ActSound S on I closed act here) (Told : Routine → Type 0) (told : (x : Name) → MeaningTold Told (meant x)) (call : Call S) (calls : CallSound S I Told call) where
  value_sound : (e : Expr) → Gives S I Rises (value_of_expr S on meant act call here e)
  value_sound e = (expr_sound S on I closed meant Told told call calls here e).value

  arguments_sound : (es : Option Args) → Each (OperandSound S I) (arguments S on meant act call here es)
  arguments_sound None = tt
  arguments_sound (Some es) = args_sound S on I closed meant Told told call calls here es

  assign_to_sound : (o : Option (Access S)) (p : Step S Value) → IfThere (AccessSound S I) o → Gives S I Rises p → Gives S I Any (assign_to S on meant act call here o p)
  assign_to_sound None p h k = stop_sound S I (Unit {0}) Any Broken
  assign_to_sound (Some a) p h k = then_any S I Place (Unit {0}) Any a.place (λ x. p >>= λ v. store S on a.denoter x v) h (λ x. then_sound S I Value (Unit {0}) Rises Any p (λ v. store S on a.denoter x v) k (λ v y. store_sound S I on closed a.denoter x v y))

  result_sound : (r : Routine) (o : Option Denoter) → IfThere (AccessSound S I) (result_of S on meant call here r o)
  result_sound r None = tt
  result_sound r (Some d) = pure_any S I Place (In here.frame (result_number r) [])

  assigned_sound : (x : Meaning) (xs : List (Selecting S)) → Each (SelectingSound S I) xs → IfThere (AccessSound S I) (assigned S on meant call here x xs)
  assigned_sound (Called r) xs h = result_sound r r.result
  assigned_sound x xs h = accessed_sound S on I closed meant Told told call calls here x xs h

  assign_sound : (v : Variable) (e : Expr) → Gives S I Any (assign S on meant act call here v e)
  unfolding assign target
  assign_sound v e = assign_to_sound (assigned S on meant call here (meant (variable S on meant call here v).name) (variable S on meant call here v).selectors) (value_of_expr S on meant act call here e) (assigned_sound (meant (variable S on meant call here v).name) (variable S on meant call here v).selectors (variable_sound S on I closed meant Told told call calls here v)) (value_sound e)

  invoke_of_sound : (x : Meaning) → MeaningTold Told x → (es : List (Operand S)) → Each (OperandSound S I) es → Gives S I Any (invoke_of S on meant act call here x es)
  invoke_of_sound (Called r) m es h = then_sound S I ActualParameters (Unit {0}) GivenRise Any (give_all r.parameters es no_arguments) (λ g. call r g >>= λ v. pure tt) (give_all_sound S I r.parameters es no_arguments tt h)
      (λ g y. then_sound S I Value (Unit {0}) Rises Any (call r g) (λ v. pure tt) (calls r g m y) (λ v _. pure_any S I (Unit {0}) tt))
  invoke_of_sound _ m es h = stop_sound S I (Unit {0}) Any Broken

  invoke_sound : (x : Name) (es : Option Args) → Gives S I Any (invoke S on meant act call here x es)
  unfolding invoke
  invoke_sound x es = invoke_of_sound (meant x) (told x) (arguments S on meant act call here es) (arguments_sound es)

  test_sound : (e : Expr) → Gives S I Any (bool_step (value_of_expr S on meant act call here e))
  test_sound e = of_value_any S I Bool bool_of (value_of_expr S on meant act call here e) (value_sound e)

  or_nothing_sound : (o : Option (Do S)) → IfThere (Gives S I {A = Unit {0}} Any) o → Gives S I Any (or_nothing o)
  or_nothing_sound None h = pure_any S I (Unit {0}) tt
  or_nothing_sound (Some p) h = h

  choose_sound : (e : Expr) (p : Do S) (o : Option (Do S)) → Gives S I Any p → IfThere (Gives S I {A = Unit {0}} Any) o → Gives S I Any (choose S on meant act call here e p o)
  unfolding choose
  choose_sound e p o h k = then_any S I Bool (Unit {0}) Any (bool_step (value_of_expr S on meant act call here e)) (λ b. cond b p (or_nothing o)) (test_sound e) (λ b. if_sound S I (Unit {0}) Any b p (or_nothing o) h (or_nothing_sound o k))

  bound_sound : (h : Host) (e : Expr) → Gives S I Any (bound_step h (value_of_expr S on meant act call here e))
  bound_sound h e = of_value_any S I ℤ (bound_of h) (value_of_expr S on meant act call here e) (value_sound e)

  count_over_sound : (o : Option (Access S)) (first : Expr) (dir : Direction) (last : Expr) (b : Do S) → IfThere (AccessSound S I) o → Gives S I Any b → Gives S I Any (count_over S on meant act call here o (value_of_expr S on meant act call here first) dir (value_of_expr S on meant act call here last) b)
  count_over_sound None first dir last b h k = stop_sound S I (Unit {0}) Any Broken
  count_over_sound (Some a) first dir last b h k = then_any S I ℤ (Unit {0}) Any (bound_step (host_of a.denoter) (value_of_expr S on meant act call here first)) (λ i. bound_step (host_of a.denoter) (value_of_expr S on meant act call here last) >>= λ j. a.place >>= λ p. count_loop dir i j (λ n. store_ordinal S on a.denoter p n) (blank_at S on p) b) (bound_sound (host_of a.denoter) first)
      (λ i. then_any S I ℤ (Unit {0}) Any (bound_step (host_of a.denoter) (value_of_expr S on meant act call here last)) (λ j. a.place >>= λ p. count_loop dir i j (λ n. store_ordinal S on a.denoter p n) (blank_at S on p) b) (bound_sound (host_of a.denoter) last)
      (λ j. then_any S I Place (Unit {0}) Any a.place (λ p. count_loop dir i j (λ n. store_ordinal S on a.denoter p n) (blank_at S on p) b) h
      (λ p. count_sound S on I closed dir i j (λ n. store_ordinal S on a.denoter p n) (blank_at S on p) b (λ n. store_ordinal_sound S I on closed a.denoter p n) (blank_sound S I on closed p) k)))

  for_sound : (x : Name) (first : Expr) (dir : Direction) (last : Expr) (b : Do S) → Gives S I Any b → Gives S I Any (count S on meant act call here x first dir last b)
  unfolding count
  for_sound x first dir last b k = count_over_sound (accessed S on meant call here (meant x) []) first dir last b (accessed_sound S on I closed meant Told told call calls here (meant x) [] tt) k

  abbrev CaseSound : List Const × Do S → Type 0
  CaseSound x = Gives S I Any x.1

  chosen_sound : (n : ℤ) (xs : List (List Const × Do S)) → Each CaseSound xs → Gives S I Any (chosen meant n xs)
  chosen_sound n [] h = stop_sound S I (Unit {0}) Any (Faults fault.NoCase)
  chosen_sound n (x ∷ xs) h = if_sound S I (Unit {0}) Any (is_labelled meant n x.0) x.1 (chosen meant n xs) h.0 (chosen_sound n xs h.1)

  select_sound : (e : Expr) (xs : List (List Const × Do S)) → Each CaseSound xs → Gives S I Any (select S on meant act call here e xs)
  unfolding select
  select_sound e xs h = then_any S I ℤ (Unit {0}) Any (selector_step (value_of_expr S on meant act call here e)) (λ n. chosen meant n xs) (of_value_any S I ℤ selector_of (value_of_expr S on meant act call here e) (value_sound e)) (λ n. chosen_sound n xs h)

  -- ---- trees

  abbrev Named : Option (Statement × Option Args) → Type 0
  Named None = Unit {0}
  Named (Some x) = ActNamed S on I closed x.0

  acted_sound : (o : Option (Statement × Option Args)) → Named o → Gives S I {A = Unit {0}} Any (acted S on meant act call here o)
  acted_sound None named = stop_sound S I (Unit {0}) Any Broken
  acted_sound (Some x) named = acts x.0 (arguments S on meant act call here x.1) named (arguments_sound x.1)

  -- what is told, where the names of outputs are identifiers
  abbrev NodeSound : (k : Kind) → Results S k → Bool → Type 0
  NodeSound kind.stmt x n = n ≡ true → Gives S I {A = Unit {0}} Any x
  NodeSound kind.branch x n = n ≡ true → CaseSound x
  NodeSound kind.stmts x n = n ≡ true → Gives S I {A = Unit {0}} Any x

  abbrev Nodes : Kind → Type 0
  Nodes = Pairs statements (Results S) (λ k. Bool) (layers S on meant act call here) named.layers NodeSound

  each_sound : {A : Type 0} (P : A → Type 0) (xs : List (Related A Bool (λ x n. n ≡ true → P x))) → list_all (λ b. b) (map (λ (x : Related A Bool (λ x n. n ≡ true → P x)). x.right) xs) ≡ true → Each P (map (λ (x : Related A Bool (λ x n. n ≡ true → P x)). x.left) xs)
  each_sound P [] n = tt
  each_sound P (x ∷ xs) n = let b = and_both x.right _ n in (x.holds b.0, each_sound P xs b.1)

  keeps : (k : Kind) (l : Layer k Nodes) → KeepsAt statements (Results S) (λ k. Bool) (layers S on meant act call here) named.layers NodeSound k l
  keeps kind.stmt Stmt-F.Empty = λ n. pure_any S I (Unit {0}) tt
  keeps kind.stmt (Stmt-F.Assign v e span) = λ n. assign_sound v e
  keeps kind.stmt (Stmt-F.Call x es span) = λ n. invoke_sound x es
  keeps kind.stmt (Stmt-F.Begin body span) = λ n. body.holds n
  keeps kind.stmt (Stmt-F.If test then_part None span) = λ n. choose_sound test then_part.left None (then_part.holds (and_both then_part.right _ n).0) tt
  keeps kind.stmt (Stmt-F.If test then_part (Some p) span) = λ n. let b = and_both then_part.right _ n in choose_sound test then_part.left (Some p.left) (then_part.holds b.0) (p.holds b.1)
  keeps kind.stmt (Stmt-F.While test body span) = λ n. while_sound S on I closed (bool_step (value_of_expr S on meant act call here test)) body.left (test_sound test) (body.holds n)
  keeps kind.stmt (Stmt-F.Repeat body test span) = λ n. repeat_sound S on I closed body.left (bool_step (value_of_expr S on meant act call here test)) (body.holds n) (test_sound test)
  keeps kind.stmt (Stmt-F.Count x first dir last body span) = λ n. for_sound x first dir last body.left (body.holds n)
  keeps kind.stmt (Stmt-F.Case e cases semicolon span) = λ n. select_sound e (map (λ (c : Related (List Const × Do S) Bool (λ x n. n ≡ true → CaseSound x)). c.left) cases) (each_sound CaseSound cases n)
  keeps kind.stmt (Stmt-F.Output p x es span) = λ n. acts (Output p x) (arguments S on meant act call here es) n (arguments_sound es)
  keeps kind.stmt l = λ n. acted_sound (statement_of l) tt
  keeps kind.branch l = λ n. l.body.holds n
  keeps kind.stmts l = λ n. all_sound S I (map (λ (x : Related (Do S) Bool (λ x n. n ≡ true → Gives S I {A = Unit {0}} Any x)). x.left) l.stmts) (each_sound (Gives S I {A = Unit {0}} Any) l.stmts n)

  pub stmts_sound : (x : Stmts) → named_stmts x ≡ true → Gives S I {A = Unit {0}} Any (stmts S on meant act call here x)
  unfolding stmt branch stmts named_stmts
  stmts_sound = folds_related statements (Results S) (λ k. Bool) (layers S on meant act call here) named.layers NodeSound keeps kind.stmts
