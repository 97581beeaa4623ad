-- Quiet statements mean alike on two states that show the same of some instances.
use Rattle.std.proofs.Common.{◌≡◌, true, Bool, List, [], ◌∷◌, ℤ, Option, Some, None, refl, ap, subst, cond}
use Rattle.pascal_values.specs.declared.fault.Fault.TheVariants as fault
use Rattle.pascal_values.specs.declared.value.Value.{Value}
use Rattle.estelle_tree.specs.declared.tree.name.Name.{Name}
use Rattle.estelle_tree.specs.declared.tree.type_expr.Const.{Const}
use Rattle.estelle_tree.specs.declared.tree.expression.Expr.{Expr}
use Rattle.estelle_tree.specs.declared.tree.expression.Variable.{Variable}
use Rattle.estelle_tree.specs.declared.tree.statement.Direction.{Direction}
use Rattle.estelle_tree.specs.declared.tree.statement.Stmts.{Stmts}
use Rattle.estelle_tree.specs.declared.tree.statement.Stmt.TheOpen.{Stmt-F}
use Rattle.estelle_tree.proofs.StatementFolds as kind
use Rattle.estelle_tree.proofs.StatementFolds.{Kind, Layer, statements}
use Rattle.estelle_model.specs.declared.denoter.Denoter.{Denoter}
use Rattle.estelle_model.specs.Types.{host_of}
use Rattle.estelle_tree.specs.Paths.{Path}
use Rattle.estelle_model.specs.States.{Offers}
use Rattle.estelle_model.specs.Stops.{Faults, Broken}
use Rattle.estelle_model.specs.Steps.{Step, Do}
use Rattle.estelle_model.specs.declared.meaning.Routine.{Routine}
use Rattle.estelle_model.specs.declared.meaning.Meaning.{Meaning}
use Rattle.estelle_model.specs.declared.meaning.Meaning.TheVariants.{Called}
use Rattle.estelle_model.specs.Meant.{Meanings, result_number}
use Rattle.estelle_model.specs.declared.place.Place.TheVariants.{In}
use Rattle.estelle_model.specs.Places.{store, store_ordinal}
use Rattle.estelle_model.specs.declared.place.Environment.{Environment}
use Rattle.estelle_model.specs.Expressions.{Call, Access, Selecting, selector_of, result_of, assigned, target, variable}
use Rattle.estelle_model.specs.Statements.{Acts, is_labelled, chosen, or_nothing, value_of_expr, assign_to, assign, choose, count_over, count, select, stmt, branch, stmts}
use Rattle.estelle_model.proofs.Alike.{Same, EachAlike, MaybeAlike, DoAlike, ValueAlike, then_alike, then_same, pure_alike, stop_alike, if_alike, all_alike}
use Rattle.estelle_model.proofs.AlikeOperands.{bool_alike, of_value_alike, bound_alike}
use Rattle.estelle_model.proofs.AlikeStatements.{while_alike, repeat_alike, count_alike}
use Rattle.estelle_model.proofs.StatementEquations.{Results, layers}
use Rattle.estelle_model.proofs.PrivateParts.{left_true, right_true}
use Rattle.guards_seen.specs.Quiet.{stmt_layer, case_layer, stmts_layer, names_no_procedure, variable_names_no_procedure, are_quiet}
use Rattle.guards_seen.proofs.Folds.{Triples, KeepsAt, folds_related}
use Rattle.guards_seen.proofs.Places.{PlaceAlike, ShowAlike, store_alike, store_ordinal_alike, blank_alike}
use Rattle.guards_seen.proofs.Operands.{IsHereWithin, AccessAlike, SelectingAlike, CallAlike}
use Rattle.guards_seen.proofs.Expressions.{each_allowed, AllTold, accessed_alike, expr_alike, variable_alike}

-- the fold that tells which statements are quiet
abbrev pub quiet_layers : (known : Meanings) (k : Kind) → Layer k (λ k. Bool) → Bool
quiet_layers known kind.stmt = stmt_layer known
quiet_layers known kind.branch = case_layer known
quiet_layers known kind.stmts = stmts_layer known

module _ (S T : Type 0) (on : Offers S) (on' : Offers T) (own seen : Path → Type 0) (R : S → T → Type 0) (show : ShowAlike S T on on' own seen R) (meant : Meanings) (act : Acts S) (act' : Acts T) (Told : Routine → Type 0) (told : AllTold Told meant)
    (call : Call S) (call' : Call T) (calls : CallAlike S T seen R Told call call') (here : Environment) (within : IsHereWithin own seen here) where
  value_alike : (e : Expr) → names_no_procedure meant e ≡ true → ValueAlike S T R (value_of_expr S on meant act call here e) (value_of_expr T on' meant act' call' here e)
  value_alike e n = (expr_alike S T on on' own seen R show meant Told told call call' calls here within e n).value

  assign_to_alike : (o : Option (Access S)) (o' : Option (Access T)) (p : Step S Value) (q : Step T Value) → MaybeAlike (AccessAlike S T seen R) o o' → ValueAlike S T R p q → DoAlike S T R (assign_to S on meant act call here o p) (assign_to T on' meant act' call' here o' q)
  assign_to_alike None None p q h k = stop_alike S T R (Same {A = Unit {0}}) Broken
  assign_to_alike None (Some b) p q h k = absurd h
  assign_to_alike (Some a) None p q h k = absurd h
  assign_to_alike (Some a) (Some b) p q h k = then_alike S T R (PlaceAlike seen) (Same {A = Unit {0}}) a.place b.place _ _ h.place
      (λ x y xy. then_same S T R (Same {A = Unit {0}}) p q _ _ k (λ v. subst (λ (d : Denoter). DoAlike S T R (store S on a.denoter x v) (store T on' d y v)) h.denoter (store_alike S T on on' own seen R show a.denoter x y v xy)))

  result_alike : (r : Routine) (o : Option Denoter) → MaybeAlike (AccessAlike S T seen R) (result_of S on meant call here r o) (result_of T on' meant call' here r o)
  result_alike r None = tt
  result_alike r (Some d) = record { denoter = refl; place = pure_alike S T R (PlaceAlike seen) (In here.frame (result_number r) []) (In here.frame (result_number r) []) (refl, tt) }

  assigned_alike : (x : Meaning) (xs : List (Selecting S)) (ys : List (Selecting T)) → EachAlike (SelectingAlike S T seen R) xs ys → MaybeAlike (AccessAlike S T seen R) (assigned S on meant call here x xs) (assigned T on' meant call' here x ys)
  assigned_alike (Called r) xs ys h = result_alike r r.result
  assigned_alike x xs ys h = accessed_alike S T on on' own seen R show meant Told told call call' calls here within x xs ys h

  target_alike : (v : Variable) → variable_names_no_procedure meant v ≡ true → MaybeAlike (AccessAlike S T seen R) (target S on meant call here v) (target T on' meant call' here v)
  unfolding target
  target_alike v n =
      let w = variable_alike S T on on' own seen R show meant Told told call call' calls here within v n in
      subst (λ (x : Name). MaybeAlike (AccessAlike S T seen R) (assigned S on meant call here (meant (variable S on meant call here v).name) (variable S on meant call here v).selectors) (assigned T on' meant call' here (meant x) (variable T on' meant call' here v).selectors)) w.name (assigned_alike (meant (variable S on meant call here v).name) (variable S on meant call here v).selectors (variable T on' meant call' here v).selectors w.selectors)

  assign_alike : (v : Variable) (e : Expr) → variable_names_no_procedure meant v ≡ true → names_no_procedure meant e ≡ true → DoAlike S T R (assign S on meant act call here v e) (assign T on' meant act' call' here v e)
  unfolding assign
  assign_alike v e n k = assign_to_alike (target S on meant call here v) (target T on' meant call' here v) _ _ (target_alike v n) (value_alike e k)

  or_nothing_alike : (o : Option (Do S)) (o' : Option (Do T)) → MaybeAlike (DoAlike S T R) o o' → DoAlike S T R (or_nothing o) (or_nothing o')
  or_nothing_alike None None h = pure_alike S T R (Same {A = Unit {0}}) tt tt refl
  or_nothing_alike (Some p) (Some q) h = h
  or_nothing_alike None (Some q) h = absurd h
  or_nothing_alike (Some p) None h = absurd h

  choose_alike : (e : Expr) → names_no_procedure meant e ≡ true → (p : Do S) (q : Do T) (o : Option (Do S)) (o' : Option (Do T)) → DoAlike S T R p q → MaybeAlike (DoAlike S T R) o o' → DoAlike S T R (choose S on meant act call here e p o) (choose T on' meant act' call' here e q o')
  unfolding choose
  choose_alike e n p q o o' h k = then_same S T R (Same {A = Unit {0}}) _ _ _ _ (bool_alike S T on on' [] R _ _ (value_alike e n)) (λ b. if_alike S T R (Same {A = Unit {0}}) b _ _ _ _ h (or_nothing_alike o o' k))

  count_over_alike : (o : Option (Access S)) (o' : Option (Access T)) (dir : Direction) (first last : Expr) → names_no_procedure meant first ≡ true → names_no_procedure meant last ≡ true → (b : Do S) (c : Do T) → MaybeAlike (AccessAlike S T seen R) o o' → DoAlike S T R b c → DoAlike S T R (count_over S on meant act call here o (value_of_expr S on meant act call here first) dir (value_of_expr S on meant act call here last) b) (count_over T on' meant act' call' here o' (value_of_expr T on' meant act' call' here first) dir (value_of_expr T on' meant act' call' here last) c)
  count_over_alike None None dir first last n l b c h k = stop_alike S T R (Same {A = Unit {0}}) Broken
  count_over_alike None (Some y) dir first last n l b c h k = absurd h
  count_over_alike (Some x) None dir first last n l b c h k = absurd h
  count_over_alike (Some x) (Some y) dir first last n l b c h k = then_same S T R (Same {A = Unit {0}}) _ _ _ _ (bound_alike S T on on' [] R _ _ _ _ (ap host_of h.denoter) (value_alike first n))
      (λ i. then_same S T R (Same {A = Unit {0}}) _ _ _ _ (bound_alike S T on on' [] R _ _ _ _ (ap host_of h.denoter) (value_alike last l))
      (λ j. then_alike S T R (PlaceAlike seen) (Same {A = Unit {0}}) x.place y.place _ _ h.place
      (λ p q pq. count_alike S T R dir i j _ _ _ _ _ _
      (λ z. subst (λ (d : Denoter). DoAlike S T R (store_ordinal S on x.denoter p z) (store_ordinal T on' d q z)) h.denoter (store_ordinal_alike S T on on' own seen R show x.denoter p q z pq))
      (blank_alike S T on on' own seen R show p q pq) k)))

  for_alike : (x : Name) (first : Expr) (dir : Direction) (last : Expr) → names_no_procedure meant first ≡ true → names_no_procedure meant last ≡ true → (b : Do S) (c : Do T) → DoAlike S T R b c → DoAlike S T R (count S on meant act call here x first dir last b) (count T on' meant act' call' here x first dir last c)
  unfolding count
  for_alike x first dir last n l b c k = count_over_alike _ _ dir first last n l b c (accessed_alike S T on on' own seen R show meant Told told call call' calls here within (meant x) [] [] tt) k

  abbrev CaseAlike : List Const × Do S → List Const × Do T → Type 0
  CaseAlike x y = (x.0 ≡ y.0) × DoAlike S T R x.1 y.1

  chosen_alike : (n : ℤ) (xs : List (List Const × Do S)) (ys : List (List Const × Do T)) → EachAlike CaseAlike xs ys → DoAlike S T R (chosen meant n xs) (chosen meant n ys)
  chosen_alike n [] [] h = stop_alike S T R (Same {A = Unit {0}}) (Faults fault.NoCase)
  chosen_alike n [] (y ∷ ys) h = absurd h
  chosen_alike n (x ∷ xs) [] h = absurd h
  chosen_alike n (x ∷ xs) (y ∷ ys) h = subst (λ (cs : List Const). DoAlike S T R (cond (is_labelled meant n x.0) x.1 (chosen meant n xs)) (cond (is_labelled meant n cs) y.1 (chosen meant n ys))) h.0.0
      (if_alike S T R (Same {A = Unit {0}}) (is_labelled meant n x.0) _ _ _ _ h.0.1 (chosen_alike n xs ys h.1))

  select_alike : (e : Expr) → names_no_procedure meant e ≡ true → (xs : List (List Const × Do S)) (ys : List (List Const × Do T)) → EachAlike CaseAlike xs ys → DoAlike S T R (select S on meant act call here e xs) (select T on' meant act' call' here e ys)
  unfolding select
  select_alike e l xs ys h = then_same S T R (Same {A = Unit {0}}) _ _ _ _ (of_value_alike S T on on' [] R selector_of _ _ (value_alike e l)) (λ n. chosen_alike n xs ys h)

  -- ---- trees

  -- each node does alike, where it is quiet
  abbrev NodeAlike : (k : Kind) → Results S k → Results T k → Bool → Type 0
  NodeAlike kind.stmt x y n = n ≡ true → DoAlike S T R x y
  NodeAlike kind.branch x y n = n ≡ true → CaseAlike x y
  NodeAlike kind.stmts x y n = n ≡ true → DoAlike S T R x y

  abbrev Nodes : Kind → Type 0
  Nodes = Triples statements (Results S) (Results T) (λ k. Bool) (layers S on meant act call here) (layers T on' meant act' call' here) (quiet_layers meant) NodeAlike

  keeps : (k : Kind) (l : Layer k Nodes) → KeepsAt statements (Results S) (Results T) (λ k. Bool) (layers S on meant act call here) (layers T on' meant act' call' here) (quiet_layers meant) NodeAlike k l
  keeps kind.stmt Stmt-F.Empty = λ n. pure_alike S T R (Same {A = Unit {0}}) tt tt refl
  keeps kind.stmt (Stmt-F.Assign v e span) = λ n. assign_alike v e (left_true (variable_names_no_procedure meant v) _ n) (right_true (variable_names_no_procedure meant v) _ n)
  keeps kind.stmt (Stmt-F.Begin body span) = λ n. body.holds n
  keeps kind.stmt (Stmt-F.If test then_part None span) = λ n.
      let more = right_true (names_no_procedure meant test) _ n in
      choose_alike test (left_true (names_no_procedure meant test) _ n) _ _ None None (then_part.holds (left_true then_part.third _ more)) tt
  keeps kind.stmt (Stmt-F.If test then_part (Some p) span) = λ n.
      let more = right_true (names_no_procedure meant test) _ n in
      choose_alike test (left_true (names_no_procedure meant test) _ n) _ _ (Some p.left) (Some p.right) (then_part.holds (left_true then_part.third _ more)) (p.holds (right_true then_part.third _ more))
  keeps kind.stmt (Stmt-F.While test body span) = λ n. while_alike S T R _ _ _ _ (bool_alike S T on on' [] R _ _ (value_alike test (left_true (names_no_procedure meant test) _ n))) (body.holds (right_true (names_no_procedure meant test) _ n))
  keeps kind.stmt (Stmt-F.Repeat body test span) = λ n. repeat_alike S T R _ _ _ _ (body.holds (left_true body.third _ n)) (bool_alike S T on on' [] R _ _ (value_alike test (right_true body.third _ n)))
  keeps kind.stmt (Stmt-F.Count x first dir last body span) = λ n.
      let more = right_true (names_no_procedure meant first) _ n in
      for_alike x first dir last (left_true (names_no_procedure meant first) _ n) (left_true (names_no_procedure meant last) _ more) _ _ (body.holds (right_true (names_no_procedure meant last) _ more))
  keeps kind.stmt (Stmt-F.Case e cases semicolon span) = λ n. select_alike e (left_true (names_no_procedure meant e) _ n) _ _ (each_allowed CaseAlike cases (right_true (names_no_procedure meant e) _ n))
  keeps kind.stmt l = λ n. absurd (cc)
  keeps kind.branch l = λ n. (refl, l.body.holds n)
  keeps kind.stmts l = λ n. all_alike S T R _ _ (each_allowed (DoAlike S T R) l.stmts n)

  -- quiet statements do alike
  pub stmts_alike : (x : Stmts) → are_quiet meant x ≡ true → DoAlike S T R (stmts S on meant act call here x) (stmts T on' meant act' call' here x)
  unfolding stmt branch stmts are_quiet
  stmts_alike = folds_related statements (Results S) (Results T) (λ k. Bool) (layers S on meant act call here) (layers T on' meant act' call' here) (quiet_layers meant) NodeAlike keeps kind.stmts
