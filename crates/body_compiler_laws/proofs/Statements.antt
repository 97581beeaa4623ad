-- What a statement is compiled to does what the statement means.
use Rattle.std.proofs.Common.{◌≡◌, refl, subst, List, [], ◌∷◌, ℤ, Option, Some, None}
use Rattle.pascal_values.specs.declared.value.Value.{Value}
use Rattle.estelle_tree.specs.declared.tree.name.Name.{Name}
use Rattle.estelle_tree.specs.declared.tree.type_expr.Const.{Const}
use Rattle.estelle_tree.specs.declared.tree.expression.Expr.{Expr}
use Rattle.estelle_tree.specs.declared.tree.expression.Args.{Args}
use Rattle.estelle_tree.specs.declared.tree.expression.Variable.{Variable}
use Rattle.estelle_tree.specs.declared.tree.statement.Direction.{Direction}
use Rattle.estelle_tree.specs.declared.tree.statement.Stmts.{Stmts}
use Rattle.estelle_tree.specs.declared.tree.statement.Stmt.TheOpen.{Stmt-F}
use Rattle.estelle_tree.proofs.Folds.{Pairs, KeepsAt, folds_related}
use Rattle.estelle_tree.proofs.StatementFolds as kind
use Rattle.estelle_tree.proofs.StatementFolds.{Kind, Layer, statements}
use Rattle.body_code.specs.declared.instr.Instr.TheVariants as op
use Rattle.estelle_model.specs.declared.denoter.Denoter.{Denoter}
use Rattle.estelle_model.specs.Types.{shape_of}
use Rattle.estelle_model.specs.States.{Logged, on_log}
use Rattle.estelle_model.specs.Steps.{Step, Do, ◌>>=◌, breaks, all}
use Rattle.estelle_model.specs.declared.meaning.Routine.{Routine}
use Rattle.estelle_model.specs.declared.meaning.Meaning.{Meaning}
use Rattle.estelle_model.specs.declared.meaning.Meaning.TheVariants.{Called, Own, Exported, Local}
use Rattle.estelle_model.specs.Meant.{result_number}
use Rattle.estelle_model.specs.declared.place.Place.{Place}
use Rattle.estelle_model.specs.declared.place.Place.TheVariants.{Of, In}
use Rattle.estelle_model.specs.Places.{store}
use Rattle.estelle_model.specs.Expressions as model
use Rattle.estelle_model.specs.Expressions.{Call, target}
use Rattle.estelle_model.specs.Statements as meaning
use Rattle.estelle_model.specs.Statements.{Acts, Init, Release, Connect, Disconnect, Attach, Detach, Output, assign, choose, invoke, count, select}
use Rattle.estelle_model.proofs.Alike.{EachAlike, MaybeAlike, each_related}
use Rattle.estelle_model.proofs.StatementEquations as meant
use Rattle.body_machine.specs.declared.item.Item.TheVariants.{Datum}
use Rattle.body_compiler_pieces.specs.Pieces.{Piece, one, ◌⨾◌}
use Rattle.body_compiler_pieces.specs.ExpressionCode as code
use Rattle.body_compiler_pieces.specs.ExpressionCode.{Scope, by_number}
use Rattle.body_compiler_pieces.specs.StatementCode as compiled
use Rattle.body_compiler_laws.proofs.Frames.{IsNamed}
use Rattle.body_compiler_laws.proofs.Does.{Site, Does, then_does, none_does}
use Rattle.body_compiler_laws.proofs.Single.{datum, spot, no_item, above_does, store_does}
use Rattle.body_compiler_laws.proofs.Control.{loop_does, repeat_does}
use Rattle.body_compiler_laws.proofs.CodeFolds.{StatementResults, statement_layers}
use Rattle.body_compiler_laws.proofs.Operands.{IsScope, AccessDoes, OperandDoes, refused_does, by_number_does, local_does}
use Rattle.body_compiler_laws.proofs.Arguments.{CallsDo, invoked_does}
use Rattle.body_compiler_laws.proofs.Acts.{ActsDo}
use Rattle.body_compiler_laws.proofs.Units.{IsPlaced}
use Rattle.body_compiler_laws.proofs.Temporaries.{HasTemporaries}
use Rattle.body_compiler_laws.proofs.Fors.{for_does}
use Rattle.body_compiler_laws.proofs.Cases.{BranchDoes, labelled_does, select_does}
use Rattle.body_compiler_laws.proofs.Expressions.{own_does, accessed_does, decided_does, expr_does, args_do, variable_written}

module _ (c : Site) (placed : IsPlaced c) (has : HasTemporaries c) (scope : Scope) (within : IsScope c scope) (act : Acts Logged) (call : Call Logged) (calls : CallsDo c scope call) (acts : ActsDo c scope act) where
  -- code of a statement
  abbrev pub StatementDoes : Do Logged → Piece → Type 0
  StatementDoes x p = Does c p [] x no_item

  -- ---- assignments

  stored_does : (d : Denoter) (p : Place) (v : Value) → IsNamed c.counts p → Does c (compiled.store_into scope d) (Datum v ∷ spot p) (store Logged on_log d p v) no_item
  stored_does d p v named = by_number_does c (scope.number (shape_of d)) (λ n. one (op.Store n)) (Datum v ∷ spot p) (store Logged on_log d p v) no_item (λ n is. store_does c n d (within.number (shape_of d) n is) p v named)

  assign_to_does : (o : Option (model.Access Logged)) (o' : Option code.Access) (x : Step Logged Value) (f : code.Operand) → MaybeAlike (AccessDoes c) o o' → Does c f.value [] x datum → StatementDoes (meaning.assign_to Logged on_log scope.meant act call c.here o x) (compiled.assign_to scope o' f)
  assign_to_does None None x f h k = refused_does c [] breaks no_item
  assign_to_does None (Some b) x f h k = absurd h
  assign_to_does (Some a) None x f h k = absurd h
  assign_to_does (Some a) (Some b) x f h k = subst (λ (d : Denoter). StatementDoes (meaning.assign_to Logged on_log scope.meant act call c.here (Some a) x) (b.place ⨾ f.value ⨾ compiled.store_into scope d)) h.denoter
      (then_does c b.place (f.value ⨾ compiled.store_into scope a.denoter) [] a.place (λ p. x >>= λ v. store Logged on_log a.denoter p v) spot no_item h.place
      (λ p named. then_does c f.value (compiled.store_into scope a.denoter) (spot p) x (λ v. store Logged on_log a.denoter p v) (λ v. Datum v ∷ spot p) no_item (above_does c f.value x (spot p) named k)
      (λ v both. stored_does a.denoter p v both.0)))

  result_does : (r : Routine) (o : Option Denoter) → MaybeAlike (AccessDoes c) (model.result_of Logged on_log scope.meant call c.here r o) (compiled.result_of scope r o)
  result_does r None = tt
  result_does r (Some d) = record { denoter = refl; place = local_does c scope within (result_number r) }

  assigned_does : (x : Meaning) (v : Variable) → MaybeAlike (AccessDoes c) (model.assigned Logged on_log scope.meant call c.here x (model.variable Logged on_log scope.meant call c.here v).selectors) (compiled.assigned scope x (code.variable scope v).selectors)
  assigned_does (Called r) v = result_does r r.result
  assigned_does x v = accessed_does c scope within call calls x _ _ (variable_written c scope within call calls v).selectors

  assign_does : (v : Variable) (e : Expr) → StatementDoes (assign Logged on_log scope.meant act call c.here v e) (compiled.assign_to scope (compiled.target scope v) (code.expr scope e))
  unfolding assign target
  assign_does v e = assign_to_does _ _ _ _ (subst (λ (x : Name). MaybeAlike (AccessDoes c) (target Logged on_log scope.meant call c.here v) (compiled.assigned scope (scope.meant x) (code.variable scope v).selectors)) (variable_written c scope within call calls v).name (assigned_does (scope.meant (model.variable Logged on_log scope.meant call c.here v).name) v)) (expr_does c scope within call calls e).value

  -- ---- the other statements

  or_nothing_does : (o : Option (Do Logged)) (o' : Option Piece) → MaybeAlike StatementDoes o o' → StatementDoes (meaning.or_nothing o) (compiled.or_nothing scope o')
  or_nothing_does None None h = none_does c [] tt no_item refl tt
  or_nothing_does None (Some p) h = absurd h
  or_nothing_does (Some x) None h = absurd h
  or_nothing_does (Some x) (Some p) h = h

  choose_does : (e : Expr) (x : Do Logged) (p : Piece) (o : Option (Do Logged)) (o' : Option Piece) → StatementDoes x p → MaybeAlike StatementDoes o o' → StatementDoes (choose Logged on_log scope.meant act call c.here e x o) (compiled.choose scope e p o')
  unfolding choose
  choose_does e x p o o' h k = decided_does c scope within call calls (compiled.value_of_expr scope e) p (compiled.or_nothing scope o') (meaning.value_of_expr Logged on_log scope.meant act call c.here e) x (meaning.or_nothing o) no_item (expr_does c scope within call calls e).value h (or_nothing_does o o' k)

  arguments_does : (es : Option Args) → EachAlike (OperandDoes c) (meaning.arguments Logged on_log scope.meant act call c.here es) (compiled.arguments scope es)
  arguments_does None = tt
  arguments_does (Some es) = args_do c scope within call calls es

  invoke_does : (x : Name) (m : Meaning) → scope.meant x ≡ m → (es : Option Args) → StatementDoes (meaning.invoke_of Logged on_log scope.meant act call c.here m (meaning.arguments Logged on_log scope.meant act call c.here es)) (compiled.invoke_of scope x m (compiled.arguments scope es))
  invoke_does x (Called r) is es = invoked_does c scope within call calls x r is _ _ (arguments_does es)
  invoke_does x _ is es = refused_does c [] breaks no_item

  all_does : (xs : List (Do Logged)) (ps : List Piece) → EachAlike StatementDoes xs ps → StatementDoes (all xs) (compiled.all scope ps)
  all_does [] [] h = none_does c [] tt no_item refl tt
  all_does [] (p ∷ ps) h = absurd h
  all_does (x ∷ xs) [] h = absurd h
  all_does (x ∷ xs) (p ∷ ps) h = then_does c p (compiled.all scope ps) [] x (λ done. all xs) no_item no_item h.0 (λ done none. all_does xs ps h.1)

  called : (x : Name) (es : Option Args) → StatementDoes (invoke Logged on_log scope.meant act call c.here x es) (compiled.invoke_of scope x (scope.meant x) (compiled.arguments scope es))
  unfolding invoke
  called x es = invoke_does x (scope.meant x) refl es

  selected : (e : Expr) (xs : List (List Const × Do Logged)) (ys : List (List ℤ × Piece)) → EachAlike (BranchDoes c scope) xs ys → StatementDoes (select Logged on_log scope.meant act call c.here e xs) (compiled.select scope e ys)
  unfolding select
  selected e xs ys h = select_does c placed has scope within (meaning.value_of_expr Logged on_log scope.meant act call c.here e) (compiled.value_of_expr scope e) (expr_does c scope within call calls e).value xs ys h

  counted : (m : Meaning) (dir : Direction) (x y : Step Logged Value) (p q : Piece) (body : Do Logged) (z : Piece) → Does c p [] x datum → Does c q [] y datum → StatementDoes body z
      → StatementDoes (meaning.count_over Logged on_log scope.meant act call c.here (model.accessed Logged on_log scope.meant call c.here m []) x dir y body) (compiled.count_over scope (compiled.control scope m) p dir q z)
  counted (Own k d) dir x y p q body z h i j = for_does c placed has scope within d (Of c.here.path k []) (one (op.Var k)) (own_does c scope within call calls k) dir p q z x y body h i j
  counted (Exported k d) dir x y p q body z h i j = for_does c placed has scope within d (Of c.here.path k []) (one (op.Var k)) (own_does c scope within call calls k) dir p q z x y body h i j
  counted (Local k d) dir x y p q body z h i j = for_does c placed has scope within d (In c.here.frame k []) (by_number (scope.local k) (λ n. one (op.Loc n))) (local_does c scope within k) dir p q z x y body h i j
  counted m dir x y p q body z h i j = refused_does c [] (meaning.count_over Logged on_log scope.meant act call c.here (model.accessed Logged on_log scope.meant call c.here m []) x dir y body) no_item

  count_does : (x : Name) (first : Expr) (dir : Direction) (last : Expr) (body : Do Logged) (z : Piece) → StatementDoes body z
      → StatementDoes (count Logged on_log scope.meant act call c.here x first dir last body) (compiled.count_over scope (compiled.control scope (scope.meant x)) (compiled.value_of_expr scope first) dir (compiled.value_of_expr scope last) z)
  unfolding count
  count_does x first dir last body z h = counted (scope.meant x) dir (meaning.value_of_expr Logged on_log scope.meant act call c.here first) (meaning.value_of_expr Logged on_log scope.meant act call c.here last) (compiled.value_of_expr scope first) (compiled.value_of_expr scope last) body z
      (expr_does c scope within call calls first).value (expr_does c scope within call calls last).value h

  -- ---- trees

  abbrev NodeDoes : (k : Kind) → meant.Results Logged k → StatementResults k → Type 0
  NodeDoes kind.stmt = StatementDoes
  NodeDoes kind.branch = BranchDoes c scope
  NodeDoes kind.stmts = StatementDoes

  keeps : (k : Kind) (l : Layer k (Pairs statements (meant.Results Logged) StatementResults (meant.layers Logged on_log scope.meant act call c.here) (statement_layers scope) NodeDoes)) → KeepsAt statements (meant.Results Logged) StatementResults (meant.layers Logged on_log scope.meant act call c.here) (statement_layers scope) NodeDoes k l
  keeps kind.stmt Stmt-F.Empty = none_does c [] tt no_item refl tt
  keeps kind.stmt (Stmt-F.Assign v e span) = assign_does v e
  keeps kind.stmt (Stmt-F.Call x es span) = called x es
  keeps kind.stmt (Stmt-F.Begin body span) = body.holds
  keeps kind.stmt (Stmt-F.If test then_part None span) = choose_does test then_part.left then_part.right None None then_part.holds tt
  keeps kind.stmt (Stmt-F.If test then_part (Some x) span) = choose_does test then_part.left then_part.right (Some x.left) (Some x.right) then_part.holds x.holds
  keeps kind.stmt (Stmt-F.While test body span) = loop_does c (compiled.value_of_expr scope test) body.right (meaning.value_of_expr Logged on_log scope.meant act call c.here test) body.left (expr_does c scope within call calls test).value body.holds
  keeps kind.stmt (Stmt-F.Repeat body test span) = repeat_does c (compiled.value_of_expr scope test) body.right body.left (meaning.value_of_expr Logged on_log scope.meant act call c.here test)
      (then_does c body.right (compiled.value_of_expr scope test) [] body.left (λ done. meaning.value_of_expr Logged on_log scope.meant act call c.here test) no_item datum body.holds (λ done none. (expr_does c scope within call calls test).value))
  keeps kind.stmt (Stmt-F.Init x b es span) = acts (Init x b) _ _ (arguments_does es)
  keeps kind.stmt (Stmt-F.Release x span) = acts (Release x) [] [] tt
  keeps kind.stmt (Stmt-F.Connect p q span) = acts (Connect p q) [] [] tt
  keeps kind.stmt (Stmt-F.Disconnect p span) = acts (Disconnect p) [] [] tt
  keeps kind.stmt (Stmt-F.Attach p x q span) = acts (Attach p x q) [] [] tt
  keeps kind.stmt (Stmt-F.Detach p span) = acts (Detach p) [] [] tt
  keeps kind.stmt (Stmt-F.Output p n es span) = acts (Output p n) _ _ (arguments_does es)
  keeps kind.stmt (Stmt-F.Count x first dir last body span) = count_does x first dir last body.left body.right body.holds
  keeps kind.stmt (Stmt-F.Case e cases semicolon span) = selected e _ _ (each_related (BranchDoes c scope) cases)
  keeps kind.branch l = (refl, labelled_does c scope l.labels l.body.left l.body.right l.body.holds)
  keeps kind.stmts l = all_does _ _ (each_related StatementDoes l.stmts)

  pub stmts_does : (x : Stmts) → StatementDoes (meaning.stmts Logged on_log scope.meant act call c.here x) (compiled.stmts scope x)
  unfolding meaning.stmt meaning.branch meaning.stmts compiled.stmts
  stmts_does = folds_related statements (meant.Results Logged) StatementResults (meant.layers Logged on_log scope.meant act call c.here) (statement_layers scope) NodeDoes keeps kind.stmts
