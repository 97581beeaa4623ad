-- Statements mean alike on two states that show the same.
use Rattle.std.proofs.Common.{◌≡◌, ℕ, zero, suc, Bool, List, [], ◌∷◌, ℤ, Option, Some, None, refl, ap, subst, cond}
use Rattle.pascal_values.specs.declared.fault.Fault.TheVariants as fault
use Rattle.pascal_values.specs.declared.value.Value.{Value}
use Rattle.estelle_tree.specs.declared.tree.name.Name.{Name}
use Rattle.estelle_tree.specs.declared.tree.type_expr.Const.{Const}
use Rattle.estelle_tree.specs.declared.tree.expression.Expr.{Expr}
use Rattle.estelle_tree.specs.declared.tree.expression.Args.{Args}
use Rattle.estelle_tree.specs.declared.tree.expression.Variable.{Variable}
use Rattle.estelle_tree.specs.declared.tree.statement.Direction.{Direction}
use Rattle.estelle_tree.specs.declared.tree.statement.Stmt.{Stmt}
use Rattle.estelle_tree.specs.declared.tree.statement.Stmts.{Stmts}
use Rattle.estelle_tree.specs.declared.tree.statement.Stmt.TheOpen.{Stmt-F}
use Rattle.estelle_tree.proofs.Folds.{Pairs, KeepsAt, folds_related}
use Rattle.estelle_tree.proofs.StatementFolds as kind
use Rattle.estelle_tree.proofs.StatementFolds.{Kind, Layer, statements}
use Rattle.estelle_model.specs.declared.denoter.Denoter.{Denoter}
use Rattle.estelle_model.specs.Types.{host_of}
use Rattle.estelle_tree.specs.Paths.{Path}
use Rattle.estelle_model.specs.States.{Offers}
use Rattle.estelle_model.specs.Stops.{Faults, Broken}
use Rattle.estelle_model.specs.Steps.{Step, Do, ◌>>◌, spend}
use Rattle.estelle_model.specs.declared.meaning.Routine.{Routine}
use Rattle.estelle_model.specs.declared.meaning.Meaning.{Meaning}
use Rattle.estelle_model.specs.declared.meaning.Meaning.TheVariants.{Called}
use Rattle.estelle_model.specs.Meant.{Meanings, result_number}
use Rattle.estelle_model.specs.declared.place.Place.TheVariants.{In}
use Rattle.estelle_model.specs.Places.{store, store_ordinal}
use Rattle.estelle_model.specs.declared.place.Environment.{Environment}
use Rattle.estelle_model.specs.declared.place.ActualParameters.{ActualParameters}
use Rattle.estelle_model.specs.Expressions.{Call, Operand, Access, Selecting, selector_of, give_all, no_arguments, result_of, assigned, target, variable}
use Rattle.estelle_model.specs.Loops.{while_turns, repeat_turns, while_loop, repeat_loop, next_of, turns_of, count_turns, count_loop}
use Rattle.estelle_model.specs.Statements.{Statement, statement_of, Acts, is_labelled, chosen, or_nothing, value_of_expr, arguments, assign_to, assign, invoke_of, invoke, choose, count_over, count, select, acted, stmt, branch, stmts}
use Rattle.estelle_model.proofs.Alike.{Same, EachAlike, MaybeAlike, each_related, OutcomeAlike, StepAlike, DoAlike, ValueAlike, then_alike, then_same, pure_alike, stop_alike, if_alike, all_alike, spend_alike}
use Rattle.estelle_model.proofs.AlikePlaces.{PlaceAlike, ShowAlike, store_alike, store_ordinal_alike, blank_alike}
use Rattle.estelle_model.proofs.AlikeOperands.{GivenAlike, IsHereWithin, OperandAlike, AccessAlike, SelectingAlike, CallAlike, bool_alike, of_value_alike, bound_alike, give_all_alike}
use Rattle.estelle_model.proofs.AlikeExpressions.{accessed_alike, expr_alike, args_alike, variable_alike}
use Rattle.estelle_model.proofs.StatementEquations.{Results, layers}

-- ---- loops

module _ (S T : Type 0) (R : S → T → Type 0) where
  -- the one and then the other
  pub seq_alike : (p p' : Do S) (q q' : Do T) → DoAlike S T R p q → DoAlike S T R p' q' → DoAlike S T R (p >> p') (q >> q')
  seq_alike p p' q q' h k = then_same S T R (Same {A = Unit {0}}) p q (λ _. p') (λ _. q') h (λ _. k)

  while_turns_alike : (n : ℕ) (p : Step S Bool) (q : Step T Bool) (b : Do S) (c : Do T) → StepAlike S T R (Same {A = Bool}) p q → DoAlike S T R b c → DoAlike S T R (while_turns n p b) (while_turns n q c)
  while_turns_alike zero p q b c h k = then_same S T R (Same {A = Unit {0}}) p q _ _ h (λ again. if_alike S T R (Same {A = Unit {0}}) again _ _ _ _ (stop_alike S T R (Same {A = Unit {0}}) (Faults fault.StepLimit)) (pure_alike S T R (Same {A = Unit {0}}) tt tt refl))
  while_turns_alike (suc n) p q b c h k = then_same S T R (Same {A = Unit {0}}) p q _ _ h (λ again. if_alike S T R (Same {A = Unit {0}}) again _ _ _ _
      (seq_alike (spend >> b) (while_turns n p b) (spend >> c) (while_turns n q c) (seq_alike spend b spend c (spend_alike S T R) k) (while_turns_alike n p q b c h k)) (pure_alike S T R (Same {A = Unit {0}}) tt tt refl))

  pub while_alike : (p : Step S Bool) (q : Step T Bool) (b : Do S) (c : Do T) → StepAlike S T R (Same {A = Bool}) p q → DoAlike S T R b c → DoAlike S T R (while_loop p b) (while_loop q c)
  unfolding while_loop
  while_alike p q b c h k s t r = subst (λ (n : ℕ). OutcomeAlike S T R (Same {A = Unit {0}}) (while_turns s.left p b s) (while_turns n q c t)) r.left (while_turns_alike s.left p q b c h k s t r)

  repeat_turns_alike : (n : ℕ) (b : Do S) (c : Do T) (p : Step S Bool) (q : Step T Bool) → DoAlike S T R b c → StepAlike S T R (Same {A = Bool}) p q → DoAlike S T R (repeat_turns n b p) (repeat_turns n c q)
  repeat_turns_alike zero b c p q h k = stop_alike S T R (Same {A = Unit {0}}) (Faults fault.StepLimit)
  repeat_turns_alike (suc n) b c p q h k = then_same S T R (Same {A = Unit {0}}) (spend >> b >> p) (spend >> c >> q) _ _
      (then_same S T R (Same {A = Bool}) (spend >> b) (spend >> c) (λ _. p) (λ _. q) (seq_alike spend b spend c (spend_alike S T R) h) (λ _. k))
      (λ done. if_alike S T R (Same {A = Unit {0}}) done _ _ _ _ (pure_alike S T R (Same {A = Unit {0}}) tt tt refl) (repeat_turns_alike n b c p q h k))

  pub repeat_alike : (b : Do S) (c : Do T) (p : Step S Bool) (q : Step T Bool) → DoAlike S T R b c → StepAlike S T R (Same {A = Bool}) p q → DoAlike S T R (repeat_loop b p) (repeat_loop c q)
  unfolding repeat_loop
  repeat_alike b c p q h k s t r = subst (λ (n : ℕ). OutcomeAlike S T R (Same {A = Unit {0}}) (repeat_turns s.left b p s) (repeat_turns n c q t)) r.left (repeat_turns_alike s.left b c p q h k s t r)

  count_turns_alike : (k : ℕ) (dir : Direction) (n : ℤ) (f : ℤ → Do S) (g : ℤ → Do T) (u : Do S) (v : Do T) (b : Do S) (c : Do T) → ((i : ℤ) → DoAlike S T R (f i) (g i)) → DoAlike S T R u v → DoAlike S T R b c → DoAlike S T R (count_turns k dir n f u b) (count_turns k dir n g v c)
  count_turns_alike zero dir n f g u v b c h i j = i
  count_turns_alike (suc k) dir n f g u v b c h i j = seq_alike (spend >> f n >> b) (count_turns k dir (next_of dir n) f u b) (spend >> g n >> c) (count_turns k dir (next_of dir n) g v c)
      (seq_alike (spend >> f n) b (spend >> g n) c (seq_alike spend (f n) spend (g n) (spend_alike S T R) (h n)) j) (count_turns_alike k dir (next_of dir n) f g u v b c h i j)

  pub count_alike : (dir : Direction) (first last : ℤ) (f : ℤ → Do S) (g : ℤ → Do T) (u : Do S) (v : Do T) (b : Do S) (c : Do T) → ((i : ℤ) → DoAlike S T R (f i) (g i)) → DoAlike S T R u v → DoAlike S T R b c → DoAlike S T R (count_loop dir first last f u b) (count_loop dir first last g v c)
  unfolding count_loop
  count_alike dir first last f g u v b c h i j = count_turns_alike (turns_of dir first last) dir first f g u v b c h i j

-- ---- statements

module _ (S T : Type 0) (on : Offers S) (on' : Offers T) (m : Path) (R : S → T → Type 0) where
  -- a statement of Estelle with arguments that are alike does alike
  abbrev pub ActAlike : Acts S → Acts T → Type 0
  ActAlike act act' = (here : Environment) → IsHereWithin m here → (st : Statement) (es : List (Operand S)) (fs : List (Operand T)) → EachAlike (OperandAlike S T on on' m R) es fs → DoAlike S T R (act here st es) (act' here st fs)

module _ (S T : Type 0) (on : Offers S) (on' : Offers T) (m : Path) (R : S → T → Type 0) (show : ShowAlike S T on on' m R) (meant : Meanings) (act : Acts S) (act' : Acts T) (acts : ActAlike S T on on' m R act act')
    (call : Call S) (call' : Call T) (calls : CallAlike S T on on' m R call call') (here : Environment) (within : IsHereWithin m here) where
  value_alike : (e : Expr) → ValueAlike S T R (value_of_expr S on meant act call here e) (value_of_expr T on' meant act' call' here e)
  value_alike e = (expr_alike S T on on' m R show meant call call' calls here within e).value

  arguments_alike : (es : Option Args) → EachAlike (OperandAlike S T on on' m R) (arguments S on meant act call here es) (arguments T on' meant act' call' here es)
  arguments_alike None = tt
  arguments_alike (Some es) = args_alike S T on on' m R show meant call call' calls here within es

  assign_to_alike : (o : Option (Access S)) (o' : Option (Access T)) (p : Step S Value) (q : Step T Value) → MaybeAlike (AccessAlike S T on on' m R) o o' → ValueAlike S T R p q → DoAlike S T R (assign_to S on meant act call here o p) (assign_to T on' meant act' call' here o' q)
  assign_to_alike None None p q h k = stop_alike S T R (Same {A = Unit {0}}) Broken
  assign_to_alike None (Some b) p q h k = absurd h
  assign_to_alike (Some a) None p q h k = absurd h
  assign_to_alike (Some a) (Some b) p q h k = then_alike S T R (PlaceAlike m) (Same {A = Unit {0}}) a.place b.place _ _ h.place
      (λ x y xy. then_same S T R (Same {A = Unit {0}}) p q _ _ k (λ v. subst (λ (d : Denoter). DoAlike S T R (store S on a.denoter x v) (store T on' d y v)) h.denoter (store_alike S T on on' m R show a.denoter x y v xy)))

  result_alike : (r : Routine) (o : Option Denoter) → MaybeAlike (AccessAlike S T on on' m R) (result_of S on meant call here r o) (result_of T on' meant call' here r o)
  result_alike r None = tt
  result_alike r (Some d) = record { denoter = refl; place = pure_alike S T R (PlaceAlike m) (In here.frame (result_number r) []) (In here.frame (result_number r) []) (refl, tt) }

  assigned_alike : (x : Meaning) (xs : List (Selecting S)) (ys : List (Selecting T)) → EachAlike (SelectingAlike S T on on' m R) xs ys → MaybeAlike (AccessAlike S T on on' m R) (assigned S on meant call here x xs) (assigned T on' meant call' here x ys)
  assigned_alike (Called r) xs ys h = result_alike r r.result
  assigned_alike x xs ys h = accessed_alike S T on on' m R show meant call call' calls here within x xs ys h

  target_alike : (v : Variable) → MaybeAlike (AccessAlike S T on on' m R) (target S on meant call here v) (target T on' meant call' here v)
  unfolding target
  target_alike v =
      let w = variable_alike S T on on' m R show meant call call' calls here within v in
      subst (λ (x : Name). MaybeAlike (AccessAlike S T on on' m R) (assigned S on meant call here (meant (variable S on meant call here v).name) (variable S on meant call here v).selectors) (assigned T on' meant call' here (meant x) (variable T on' meant call' here v).selectors)) w.name (assigned_alike (meant (variable S on meant call here v).name) (variable S on meant call here v).selectors (variable T on' meant call' here v).selectors w.selectors)

  assign_alike : (v : Variable) (e : Expr) → DoAlike S T R (assign S on meant act call here v e) (assign T on' meant act' call' here v e)
  unfolding assign
  assign_alike v e = assign_to_alike (target S on meant call here v) (target T on' meant call' here v) _ _ (target_alike v) (value_alike e)

  invoke_of_alike : (x : Meaning) (es : List (Operand S)) (fs : List (Operand T)) → EachAlike (OperandAlike S T on on' m R) es fs → DoAlike S T R (invoke_of S on meant act call here x es) (invoke_of T on' meant act' call' here x fs)
  invoke_of_alike (Called r) es fs h = then_alike S T R (GivenAlike m) (Same {A = Unit {0}}) (give_all r.parameters es no_arguments) (give_all r.parameters fs no_arguments) _ _ (give_all_alike S T on on' m R r.parameters es fs no_arguments h tt)
      (λ g k gk. then_same S T R (Same {A = Unit {0}}) (call r g) (call' r k) _ _ (subst (λ (c : ActualParameters). ValueAlike S T R (call r g) (call' r c)) gk.0 (calls r g gk.1)) (λ v. pure_alike S T R (Same {A = Unit {0}}) tt tt refl))
  invoke_of_alike _ es fs h = stop_alike S T R (Same {A = Unit {0}}) Broken

  invoke_alike : (x : Name) (es : Option Args) → DoAlike S T R (invoke S on meant act call here x es) (invoke T on' meant act' call' here x es)
  unfolding invoke
  invoke_alike x es = invoke_of_alike (meant x) (arguments S on meant act call here es) (arguments T on' meant act' call' here es) (arguments_alike es)

  or_nothing_alike : (o : Option (Do S)) (o' : Option (Do T)) → MaybeAlike (DoAlike S T R) o o' → DoAlike S T R (or_nothing o) (or_nothing o')
  or_nothing_alike None None h = pure_alike S T R (Same {A = Unit {0}}) tt tt refl
  or_nothing_alike (Some p) (Some q) h = h
  or_nothing_alike None (Some q) h = absurd h
  or_nothing_alike (Some p) None h = absurd h

  choose_alike : (e : Expr) (p : Do S) (q : Do T) (o : Option (Do S)) (o' : Option (Do T)) → DoAlike S T R p q → MaybeAlike (DoAlike S T R) o o' → DoAlike S T R (choose S on meant act call here e p o) (choose T on' meant act' call' here e q o')
  unfolding choose
  choose_alike e p q o o' h k = then_same S T R (Same {A = Unit {0}}) _ _ _ _ (bool_alike S T on on' m R _ _ (value_alike e)) (λ b. if_alike S T R (Same {A = Unit {0}}) b _ _ _ _ h (or_nothing_alike o o' k))

  count_over_alike : (o : Option (Access S)) (o' : Option (Access T)) (dir : Direction) (first last : Expr) (b : Do S) (c : Do T) → MaybeAlike (AccessAlike S T on on' m R) o o' → DoAlike S T R b c → DoAlike S T R (count_over S on meant act call here o (value_of_expr S on meant act call here first) dir (value_of_expr S on meant act call here last) b) (count_over T on' meant act' call' here o' (value_of_expr T on' meant act' call' here first) dir (value_of_expr T on' meant act' call' here last) c)
  count_over_alike None None dir first last b c h k = stop_alike S T R (Same {A = Unit {0}}) Broken
  count_over_alike None (Some y) dir first last b c h k = absurd h
  count_over_alike (Some x) None dir first last b c h k = absurd h
  count_over_alike (Some x) (Some y) dir first last b c h k = then_same S T R (Same {A = Unit {0}}) _ _ _ _ (bound_alike S T on on' m R _ _ _ _ (ap host_of h.denoter) (value_alike first))
      (λ i. then_same S T R (Same {A = Unit {0}}) _ _ _ _ (bound_alike S T on on' m R _ _ _ _ (ap host_of h.denoter) (value_alike last))
      (λ j. then_alike S T R (PlaceAlike m) (Same {A = Unit {0}}) x.place y.place _ _ h.place
      (λ p q pq. count_alike S T R dir i j _ _ _ _ _ _
      (λ n. subst (λ (d : Denoter). DoAlike S T R (store_ordinal S on x.denoter p n) (store_ordinal T on' d q n)) h.denoter (store_ordinal_alike S T on on' m R show x.denoter p q n pq))
      (blank_alike S T on on' m R show p q pq) k)))

  for_alike : (x : Name) (first : Expr) (dir : Direction) (last : Expr) (b : Do S) (c : Do T) → DoAlike S T R b c → DoAlike S T R (count S on meant act call here x first dir last b) (count T on' meant act' call' here x first dir last c)
  unfolding count
  for_alike x first dir last b c k = count_over_alike _ _ dir first last b c (accessed_alike S T on on' m R show meant call call' calls here within (meant x) [] [] tt) k

  abbrev CaseAlike : List Const × Do S → List Const × Do T → Type 0
  CaseAlike x y = (x.0 ≡ y.0) × DoAlike S T R x.1 y.1

  chosen_alike : (n : ℤ) (xs : List (List Const × Do S)) (ys : List (List Const × Do T)) → EachAlike CaseAlike xs ys → DoAlike S T R (chosen meant n xs) (chosen meant n ys)
  chosen_alike n [] [] h = stop_alike S T R (Same {A = Unit {0}}) (Faults fault.NoCase)
  chosen_alike n [] (y ∷ ys) h = absurd h
  chosen_alike n (x ∷ xs) [] h = absurd h
  chosen_alike n (x ∷ xs) (y ∷ ys) h = subst (λ (cs : List Const). DoAlike S T R (cond (is_labelled meant n x.0) x.1 (chosen meant n xs)) (cond (is_labelled meant n cs) y.1 (chosen meant n ys))) h.0.0
      (if_alike S T R (Same {A = Unit {0}}) (is_labelled meant n x.0) _ _ _ _ h.0.1 (chosen_alike n xs ys h.1))

  select_alike : (e : Expr) (xs : List (List Const × Do S)) (ys : List (List Const × Do T)) → EachAlike CaseAlike xs ys → DoAlike S T R (select S on meant act call here e xs) (select T on' meant act' call' here e ys)
  unfolding select
  select_alike e xs ys h = then_same S T R (Same {A = Unit {0}}) _ _ _ _ (of_value_alike S T on on' m R selector_of _ _ (value_alike e)) (λ n. chosen_alike n xs ys h)

  acted_alike : (o : Option (Statement × Option Args)) → DoAlike S T R (acted S on meant act call here o) (acted T on' meant act' call' here o)
  acted_alike None = stop_alike S T R (Same {A = Unit {0}}) Broken
  acted_alike (Some x) = acts here within x.0 _ _ (arguments_alike x.1)

  -- ---- trees

  abbrev NodeAlike : (k : Kind) → Results S k → Results T k → Type 0
  NodeAlike kind.stmt = DoAlike S T R
  NodeAlike kind.branch = CaseAlike
  NodeAlike kind.stmts = DoAlike S T R

  keeps : (k : Kind) (l : Layer k (Pairs statements (Results S) (Results T) (layers S on meant act call here) (layers T on' meant act' call' here) NodeAlike)) → KeepsAt statements (Results S) (Results T) (layers S on meant act call here) (layers T on' meant act' call' here) NodeAlike k l
  keeps kind.stmt Stmt-F.Empty = pure_alike S T R (Same {A = Unit {0}}) tt tt refl
  keeps kind.stmt (Stmt-F.Assign v e span) = assign_alike v e
  keeps kind.stmt (Stmt-F.Call x es span) = invoke_alike x es
  keeps kind.stmt (Stmt-F.Begin body span) = body.holds
  keeps kind.stmt (Stmt-F.If test then_part None span) = choose_alike test _ _ None None then_part.holds tt
  keeps kind.stmt (Stmt-F.If test then_part (Some p) span) = choose_alike test _ _ (Some p.left) (Some p.right) then_part.holds p.holds
  keeps kind.stmt (Stmt-F.While test body span) = while_alike S T R _ _ _ _ (bool_alike S T on on' m R _ _ (value_alike test)) body.holds
  keeps kind.stmt (Stmt-F.Repeat body test span) = repeat_alike S T R _ _ _ _ body.holds (bool_alike S T on on' m R _ _ (value_alike test))
  keeps kind.stmt (Stmt-F.Count x first dir last body span) = for_alike x first dir last _ _ body.holds
  keeps kind.stmt (Stmt-F.Case e cases semicolon span) = select_alike e _ _ (each_related CaseAlike cases)
  keeps kind.stmt l = acted_alike (statement_of l)
  keeps kind.branch l = (refl, l.body.holds)
  keeps kind.stmts l = all_alike S T R _ _ (each_related (DoAlike S T R) l.stmts)

  -- every form of statement does alike
  pub stmt_alike : (x : Stmt) → DoAlike S T R (stmt S on meant act call here x) (stmt T on' meant act' call' here x)
  unfolding stmt branch stmts
  stmt_alike = folds_related statements (Results S) (Results T) (layers S on meant act call here) (layers T on' meant act' call' here) NodeAlike keeps kind.stmt

  pub stmts_alike : (x : Stmts) → DoAlike S T R (stmts S on meant act call here x) (stmts T on' meant act' call' here x)
  unfolding stmt branch stmts
  stmts_alike = folds_related statements (Results S) (Results T) (layers S on meant act call here) (layers T on' meant act' call' here) NodeAlike keeps kind.stmts
