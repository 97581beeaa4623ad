-- Statements step by step.
use Rattle.std.proofs.Common.{◌≡◌, ◌∙◌, Bool, true, false, List, [], ◌∷◌, map, refl, sym, ap, Option, Some, None, ℤ, cond}
use Rattle.std.specs.Prelude.{slice_get}
use Rattle.pascal_values.specs.declared.fault.Fault.TheVariants as fault
use Rattle.estelle_tree.specs.declared.tree.name.Name.{Name}
use Rattle.estelle_tree.specs.declared.tree.type_expr.Const.{Const}
use Rattle.estelle_tree.specs.declared.tree.expression.Expr.{Expr}
use Rattle.estelle_tree.specs.declared.tree.expression.Args.{Args}
use Rattle.estelle_tree.specs.declared.tree.expression.Variable.{Variable}
use Rattle.estelle_tree.specs.declared.tree.statement.Direction.{Direction}
use Rattle.estelle_tree.specs.declared.tree.statement.Stmt.{Stmt, out-Stmt}
use Rattle.estelle_tree.specs.declared.span.Span.{Span}
use Rattle.estelle_tree.specs.declared.tree.statement.Stmts.{Stmts, out-Stmts}
use Rattle.estelle_tree.specs.declared.tree.statement.Case.{Case, out-Case}
use Rattle.estelle_tree.specs.declared.tree.statement.Stmt.TheOpen.{Stmt-F}
use Rattle.estelle_model.specs.declared.denoter.Denoter.{Denoter}
use Rattle.estelle_model.specs.declared.denoter.Host.{Host}
use Rattle.estelle_model.specs.Types.{host_of}
use Rattle.estelle_model.specs.declared.meaning.Meaning.{Meaning}
use Rattle.estelle_model.specs.declared.meaning.Meaning.TheVariants.{Own, Exported, Local, Var, Called}
use Rattle.estelle_model.specs.declared.meaning.Routine.{Routine}
use Rattle.estelle_model.specs.declared.place.Place.{Place}
use Rattle.estelle_model.specs.declared.place.Place.TheVariants.{Of, In}
use Rattle.estelle_model.specs.declared.place.Environment.{Environment}
use Rattle.estelle_model.specs.States.{Logged, on_log}
use Rattle.estelle_model.specs.Stops.{Faults, Broken}
use Rattle.estelle_model.specs.Steps.{Do, ◌>>=◌, ◌>>◌, pure, breaks, checked, all}
use Rattle.estelle_model.specs.Places.{store, store_ordinal, blank_at}
use Rattle.estelle_model.specs.Loops as loops
use Rattle.estelle_model.specs.Expressions as spec
use Rattle.estelle_model.specs.Expressions.{Operand, Access, reference_at}
use Rattle.estelle_model.specs.Statements as statements
use Rattle.estelle_model.specs.Statements.{is_labelled, chosen}
use Rattle.estelle_model.proofs.ExpressionEquations.{args_opened}
use Rattle.estelle_model.proofs.StatementEquations.{stmt_at, stmt_opened, branch_opened, stmts_opened}
use Rattle.body_walker_blocks.specs.Scopes.{Scoped, meanings}
use Rattle.body_walker_blocks.specs.Located.{Located}
use Rattle.body_walker_blocks.specs.Accesses.{is_variable, variable_host}
use Rattle.body_walker_blocks.specs.Labels.{exprs_of, labelled}
use Rattle.body_walker_blocks.specs.Walked.{acting, calling, expr, condition, bound, selector_of, invoked, located, accessed, target, stmt, stmts, branch, assign, procedure, select, count, while_loop, repeat_loop, count_loop, init, release, connect, disconnect, attach, detach, output}
use Rattle.body_walker_blocks.proofs.Plans.{Plan, First, Last, Finish, Refuse, run, either, Is}
use Rattle.body_walker_blocks.proofs.Chains.{chain}
use Rattle.body_walker_blocks.proofs.Followed.{then_then}

module _ (t : Scoped) (h : Environment) where
  -- ---- one after another

  abbrev pub do_stmt : Unit {0} → Stmt → Do Logged
  do_stmt u x = stmt t h x

  in_turn : (u : Unit {0}) (xs : List Stmt) → all (map (stmt t h) xs) ≡ chain do_stmt u xs
  in_turn u [] = refl
  in_turn u (x ∷ xs) = λ i. stmt t h x >> in_turn tt xs i

  pub stmts_steps : (x : Stmts) → Is (stmts t h x) (Last (chain do_stmt tt (out-Stmts x).stmts))
  unfolding stmts stmt
  stmts_steps x = record { is = stmts_opened Logged on_log (meanings t) (acting t h) (calling t h) h x ∙ in_turn tt (out-Stmts x).stmts }

  -- ---- what an access comes to, and then something at its place

  at_place : (o : Option (Access Logged)) (f : Denoter → Place → Do Logged) → Do Logged
  at_place None f = breaks
  at_place (Some a) f = a.place >>= λ p. f a.denoter p

  located_then : (o : Option (Access Logged)) (f : Denoter → Place → Do Logged) → at_place o f ≡ (located o >>= λ l. f l.denoter l.place)
  unfolding at_place
  located_then None f = refl
  located_then (Some a) f = sym (then_then (λ p. pure (record { place = p; denoter = a.denoter })) (λ (l : Located). f l.denoter l.place) a.place)

  -- ---- assignments and procedure statements

  assign_out : (o : Option (Access Logged)) (e : Expr) → statements.assign_to Logged on_log (meanings t) (acting t h) (calling t h) h o (expr t h e).value ≡ (located o >>= λ l. (expr t h e).value >>= λ v. store Logged on_log l.denoter l.place v)
  unfolding at_place
  assign_out None e = refl
  assign_out (Some a) e = located_then (Some a) (λ d p. (expr t h e).value >>= λ v. store Logged on_log d p v)

  pub assign_steps : (v : Variable) (e : Expr) → Is (assign t h v e) (First (target t h v) (λ l. First (expr t h e).value (λ w. Last (store Logged on_log l.denoter l.place w))))
  unfolding assign statements.assign target expr
  assign_steps v e = record { is = assign_out (spec.target Logged on_log (meanings t) (calling t h) h v) e }

  abbrev pub procedure_plan : Meaning → List Expr → Plan (Unit {0})
  procedure_plan (Called r) es = First (invoked t h r es) (λ v. Finish tt)
  procedure_plan _ es = Refuse Broken

  invoke_out : (m : Meaning) (es : List Expr) → statements.invoke_of Logged on_log (meanings t) (acting t h) (calling t h) h m (map (expr t h) es) ≡ run (procedure_plan m es)
  invoke_out (Called r) es = sym (then_then (λ given. calling t h r given) (λ v. pure tt) (spec.give_all r.parameters (map (expr t h) es) spec.no_arguments))
  invoke_out _ es = refl

  pub arguments_out : (es : Option Args) → statements.arguments Logged on_log (meanings t) (acting t h) (calling t h) h es ≡ map (expr t h) (exprs_of es)
  unfolding expr
  arguments_out None = refl
  arguments_out (Some es) = args_opened Logged on_log (meanings t) (calling t h) h es

  pub procedure_steps : (x : Name) (es : Option Args) (m : Meaning) → meanings t x ≡ m → Is (procedure t h x es) (procedure_plan m (exprs_of es))
  unfolding procedure statements.invoke
  procedure_steps x es m is = record { is = ap (λ (fs : List (Operand Logged)). statements.invoke_of Logged on_log (meanings t) (acting t h) (calling t h) h (meanings t x) fs) (arguments_out es) ∙ invoke_out (meanings t x) (exprs_of es) ∙ ap (λ (k : Meaning). run (procedure_plan k (exprs_of es))) is }

  -- what is no routine's name
  pub procedure_other : (x : Name) (es : Option Args) (m : Meaning) → meanings t x ≡ m → ((r : Routine) → m ≡ Called r → ⊥) → Is (procedure t h x es) (Refuse Broken)
  procedure_other x es (Called r) is no_call = absurd (no_call r refl)
  procedure_other x es m is no_call = procedure_steps x es m is

  -- ---- `case`

  abbrev pub select_plan : Option Stmt → Plan (Unit {0})
  select_plan None = Refuse (Faults fault.NoCase)
  select_plan (Some x) = Last (stmt t h x)

  choice : (b : Bool) (x : Stmt) (o : Option Stmt) → cond b (stmt t h x) (run (select_plan o)) ≡ run (select_plan (cond b (Some x) o))
  choice true x o = refl
  choice false x o = refl

  chosen_out : (n : ℤ) (cs : List Case) → chosen (meanings t) n (map (branch t h) cs) ≡ run (select_plan (labelled (meanings t) n cs))
  unfolding branch stmt
  chosen_out n [] = refl
  chosen_out n (c ∷ cs) =
      ap (λ (b : List Const × Do Logged). cond (is_labelled (meanings t) n b.0) b.1 (chosen (meanings t) n (map (branch t h) cs))) (branch_opened Logged on_log (meanings t) (acting t h) (calling t h) h c)
      ∙ ap (λ (p : Do Logged). cond (is_labelled (meanings t) n (out-Case c).labels) (stmt t h (out-Case c).body) p) (chosen_out n cs)
      ∙ choice (is_labelled (meanings t) n (out-Case c).labels) (out-Case c).body (labelled (meanings t) n cs)

  pub select_steps : (e : Expr) (cs : List Case) → Is (select t h e cs) (First (selector_of t h e) (λ n. select_plan (labelled (meanings t) n cs)))
  unfolding select statements.select expr
  select_steps e cs = record { is = λ i. selector_of t h e >>= λ n. chosen_out n cs i }

  -- ---- `for`

  abbrev pub counted_plan : Host → Meaning → Expr → Direction → Expr → Stmt → Plan (Unit {0})
  counted_plan k m first dir last body = First (bound t h k first) (λ i. First (bound t h k last) (λ j. First (accessed t h m []) (λ l. Last (count_loop t h l.denoter l.place i dir j body))))

  abbrev pub count_plan : Bool → Host → Meaning → Expr → Direction → Expr → Stmt → Plan (Unit {0})
  count_plan b k m first dir last body = either b (counted_plan k m first dir last body) (Refuse Broken)

  abbrev over : Option (Access Logged) → Expr → Direction → Expr → Stmt → Do Logged
  over o first dir last body = statements.count_over Logged on_log (meanings t) (acting t h) (calling t h) h o (expr t h first).value dir (expr t h last).value (stmt t h body)

  count_some : (a : Access Logged) (first : Expr) (dir : Direction) (last : Expr) (body : Stmt) → over (Some a) first dir last body ≡ (bound t h (host_of a.denoter) first >>= λ i. bound t h (host_of a.denoter) last >>= λ j. located (Some a) >>= λ l. count_loop t h l.denoter l.place i dir j body)
  unfolding at_place
  count_some a first dir last body = λ k. bound t h (host_of a.denoter) first >>= λ i. bound t h (host_of a.denoter) last >>= λ j. located_then (Some a) (λ d p. loops.count_loop dir i j (λ n. store_ordinal Logged on_log d p n) (blank_at Logged on_log p) (stmt t h body)) k

  count_out : (m : Meaning) (first : Expr) (dir : Direction) (last : Expr) (body : Stmt) → over (spec.accessed Logged on_log (meanings t) (calling t h) h m []) first dir last body ≡ run (count_plan (is_variable m) (variable_host m) m first dir last body)
  unfolding accessed
  count_out (Own k d) first dir last body = count_some (record { denoter = d; place = pure (Of h.path k []) }) first dir last body
  count_out (Exported k d) first dir last body = count_some (record { denoter = d; place = pure (Of h.path k []) }) first dir last body
  count_out (Local k d) first dir last body = count_some (record { denoter = d; place = pure (In h.frame k []) }) first dir last body
  count_out (Var k d) first dir last body = count_some (record { denoter = d; place = checked (reference_at (slice_get h.references k)) }) first dir last body
  count_out _ first dir last body = refl

  pub count_steps : (x : Name) (first : Expr) (dir : Direction) (last : Expr) (body : Stmt) (k : Host) (b : Bool) → k ≡ variable_host (meanings t x) → is_variable (meanings t x) ≡ b → Is (count t h x first dir last body) (count_plan b k (meanings t x) first dir last body)
  unfolding count statements.count expr
  count_steps x first dir last body k b host is = record { is = count_out (meanings t x) first dir last body ∙ (λ i. run (count_plan (is i) (sym host i) (meanings t x) first dir last body)) }

  -- ---- statements

  abbrev pub else_plan : Option Stmt → Plan (Unit {0})
  else_plan None = Finish tt
  else_plan (Some x) = Last (stmt t h x)

  abbrev pub stmt_plan : Stmt-F Stmt Case Stmts → Plan (Unit {0})
  stmt_plan Stmt-F.Empty = Finish tt
  stmt_plan (Stmt-F.Assign v e span) = Last (assign t h v e)
  stmt_plan (Stmt-F.Call x es span) = Last (procedure t h x es)
  stmt_plan (Stmt-F.Begin body span) = Last (stmts t h body)
  stmt_plan (Stmt-F.If test then_part else_part span) = First (condition t h test) (λ b. either b (Last (stmt t h then_part)) (else_plan else_part))
  stmt_plan (Stmt-F.While test body span) = Last (while_loop t h test body)
  stmt_plan (Stmt-F.Repeat body test span) = Last (repeat_loop t h body test)
  stmt_plan (Stmt-F.Count x first dir last body span) = Last (count t h x first dir last body)
  stmt_plan (Stmt-F.Case e cases semicolon span) = Last (select t h e cases)
  stmt_plan (Stmt-F.Init x b es span) = Last (init t h x b es)
  stmt_plan (Stmt-F.Release x span) = Last (release t h x)
  stmt_plan (Stmt-F.Connect a b span) = Last (connect t h a b)
  stmt_plan (Stmt-F.Disconnect a span) = Last (disconnect t h a)
  stmt_plan (Stmt-F.Attach p x q span) = Last (attach t h p x q)
  stmt_plan (Stmt-F.Detach p span) = Last (detach t h p)
  stmt_plan (Stmt-F.Output p m es span) = Last (output t h p m es)

  chosen_part : (b : Bool) (x : Stmt) (o : Option Stmt) → cond b (stmt t h x) (run (else_plan o)) ≡ run (either b (Last (stmt t h x)) (else_plan o))
  chosen_part true x o = refl
  chosen_part false x o = refl

  choose_out : (test : Expr) (then_part : Stmt) (else_part : Option Stmt) → (condition t h test >>= λ b. cond b (stmt t h then_part) (run (else_plan else_part))) ≡ run (First (condition t h test) (λ b. either b (Last (stmt t h then_part)) (else_plan else_part)))
  choose_out test then_part else_part = λ i. condition t h test >>= λ b. chosen_part b then_part else_part i

  stmt_out : (l : Stmt-F Stmt Case Stmts) → stmt_at Logged on_log (meanings t) (acting t h) (calling t h) h l ≡ run (stmt_plan l)
  unfolding stmt stmts branch expr assign procedure select count statements.choose init release connect disconnect attach detach output
  stmt_out (Stmt-F.If test then_part None span) = choose_out test then_part None
  stmt_out (Stmt-F.If test then_part (Some else_part) span) = choose_out test then_part (Some else_part)
  stmt_out _ = refl

  pub stmt_steps : (x : Stmt) (l : Stmt-F Stmt Case Stmts) → out-Stmt x ≡ l → Is (stmt t h x) (stmt_plan l)
  unfolding stmt
  stmt_steps x l is = record { is = stmt_opened Logged on_log (meanings t) (acting t h) (calling t h) h x ∙ stmt_out (out-Stmt x) ∙ ap (λ (k : Stmt-F Stmt Case Stmts). run (stmt_plan k)) is }

  -- `if`, with or without `else`
  pub if_steps : (x : Stmt) (test : Expr) (then_part : Stmt) (else_part : Option Stmt) (span : Span) (o : Option Stmt) → out-Stmt x ≡ Stmt-F.If test then_part else_part span → else_part ≡ o
      → Is (stmt t h x) (First (condition t h test) (λ b. either b (Last (stmt t h then_part)) (else_plan o)))
  if_steps x test then_part else_part span o is has = stmt_steps x (Stmt-F.If test then_part o span) (is ∙ ap (λ (p : Option Stmt). Stmt-F.If test then_part p span) has)
