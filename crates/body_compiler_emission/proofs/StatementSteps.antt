-- Statements step by step, as they are compiled.
use Rattle.std.proofs.Common.{◌≡◌, ◌∙◌, ℕ, ℤ, zero, suc, ◌<◌, List, [], ◌∷◌, length, map, fold, Option, Some, None, refl, sym, ap, arith, Bool, ◌++◌}
use Rattle.std.specs.Prelude.{option_map, ◌&&◌}
use Rattle.pascal_values.specs.declared.fault.Fault.TheVariants as fault
use Rattle.pascal_values.specs.declared.value.Shape.{Shape}
use Rattle.estelle_tree.specs.declared.span.Span.{Span}
use Rattle.estelle_tree.specs.declared.tree.name.Name.{Name}
use Rattle.estelle_tree.specs.declared.tree.expression.Expr.{Expr}
use Rattle.estelle_tree.specs.declared.tree.expression.Args.{Args, out-Args}
use Rattle.estelle_tree.specs.declared.tree.expression.Selector.{Selector}
use Rattle.estelle_tree.specs.declared.tree.expression.Variable.{Variable, out-Variable}
use Rattle.estelle_tree.specs.declared.tree.statement.Direction.{Direction}
use Rattle.estelle_tree.specs.declared.tree.statement.Ip.{Ip}
use Rattle.estelle_tree.specs.declared.tree.statement.Stmt.{Stmt, out-Stmt}
use Rattle.estelle_tree.specs.declared.tree.statement.Stmt.TheVariants as forms
use Rattle.estelle_tree.specs.declared.tree.statement.Case.{Case, out-Case}
use Rattle.estelle_tree.specs.declared.tree.statement.Stmts.{Stmts, out-Stmts}
use Rattle.estelle_tree.specs.declared.tree.statement.Stmt.TheOpen.{Stmt-F, Case-F, Stmts-F}
use Rattle.estelle_tree.specs.declared.tree.statement.Stmt.TheFolds.{map-Stmt, fold_out-Stmt, fold_out-Case, fold_out-Stmts}
use Rattle.body_code.specs.declared.instr.Instr.{Instr}
use Rattle.body_code.specs.declared.instr.Instr.TheVariants as op
use Rattle.estelle_model.specs.Types.{shape_of, whole}
use Rattle.estelle_model.specs.declared.denoter.Host.TheVariants as hosts
use Rattle.estelle_model.specs.declared.denoter.Denoter.{Denoter}
use Rattle.estelle_model.specs.declared.meaning.Meaning.{Meaning}
use Rattle.estelle_model.specs.declared.meaning.Meaning.TheVariants.{Called}
use Rattle.estelle_model.specs.declared.meaning.Routine.{Routine}
use Rattle.estelle_model.specs.Meant.{result_number}
use Rattle.estelle_model.specs.Statements.{Init, Release, Connect, Disconnect, Attach, Detach, Output}
use Rattle.body_compiler_pieces.specs.Pieces.{Piece, none, one, ◌⨾◌, fork, loop, repeat, keep}
use Rattle.body_compiler_pieces.specs.ExpressionCode as exprs
use Rattle.body_compiler_pieces.specs.ExpressionCode.{Operand, Access, Written, by_number}
use Rattle.body_compiler_pieces.specs.StatementCode as code
use Rattle.body_compiler_pieces.specs.StatementCode.{stmt_layer, case_layer, stmts_layer}
use Rattle.body_compiler_emission.specs.Drafts.{Drafted, grown, with_instr, with_temporary, fork_closed, loop_closed, repeat_closed}
use Rattle.body_compiler_emission.specs.Scopes.{Scoped, scope_of}
use Rattle.body_compiler_emission.specs.Tails.{reached}
use Rattle.body_compiler_emission.specs.Emitted.{expr, selector, accessed, call}
use Rattle.body_compiler_emission.specs.EmittedStatements.{exprs_of, is_one_of, stmts, stmt, branch, target, assign, procedure, choose, while_loop, repeat_loop, count, select, AreOrdinals, chosen, first_of, act}
use Rattle.body_compiler_emission.proofs.Growth.{grown_none, grown_one, grown_then}
use Rattle.body_compiler_emission.proofs.Holes.{fork_made, loop_made, repeat_made, IsUniform, keep_made}
use Rattle.body_compiler_emission.proofs.ExpressionSteps.{then_one, variable_opened, args_opened}

module _ (t : Scoped) where
  arguments_are : (es : Option Args) → code.arguments (scope_of t) es ≡ map (expr t) (exprs_of es)
  arguments_are None = refl
  arguments_are (Some es) = args_opened t es

  -- ---- one layer

  abbrev pub stmt_as : Stmt-F Stmt Case Stmts → Piece
  stmt_as Stmt-F.Empty = none
  stmt_as (Stmt-F.Assign v e span) = assign t v e
  stmt_as (Stmt-F.Call x es span) = procedure t x es
  stmt_as (Stmt-F.Begin body span) = stmts t body
  stmt_as (Stmt-F.If test then_part else_part span) = choose t test then_part else_part
  stmt_as (Stmt-F.While test body span) = while_loop t test body
  stmt_as (Stmt-F.Repeat body test span) = repeat_loop t body test
  stmt_as (Stmt-F.Count x first dir last body span) = count t x first dir last body
  stmt_as (Stmt-F.Case e cases semicolon span) = select t e cases
  stmt_as (Stmt-F.Init x b es span) = act t (Init x b) (exprs_of es)
  stmt_as (Stmt-F.Release x span) = act t (Release x) []
  stmt_as (Stmt-F.Connect a b span) = act t (Connect a b) []
  stmt_as (Stmt-F.Disconnect a span) = act t (Disconnect a) []
  stmt_as (Stmt-F.Attach p x q span) = act t (Attach p x q) []
  stmt_as (Stmt-F.Detach p span) = act t (Detach p) []
  stmt_as (Stmt-F.Output p m es span) = act t (Output p m) (exprs_of es)

  stmt_out : (l : Stmt-F Stmt Case Stmts) → stmt_layer (scope_of t) (map-Stmt Stmt Case Stmts Piece (List ℤ × Piece) Piece (stmt t) (branch t) (stmts t) l) ≡ stmt_as l
  unfolding assign procedure choose while_loop repeat_loop count select act expr
  stmt_out Stmt-F.Empty = refl
  stmt_out (Stmt-F.Assign v e span) = refl
  stmt_out (Stmt-F.Call x es span) = refl
  stmt_out (Stmt-F.Begin body span) = refl
  stmt_out (Stmt-F.If test then_part None span) = refl
  stmt_out (Stmt-F.If test then_part (Some else_part) span) = refl
  stmt_out (Stmt-F.While test body span) = refl
  stmt_out (Stmt-F.Repeat body test span) = refl
  stmt_out (Stmt-F.Count x first dir last body span) = refl
  stmt_out (Stmt-F.Case e cases semicolon span) = refl
  stmt_out (Stmt-F.Init x b es span) = ap (λ (os : List Operand). code.act (scope_of t) (Init x b) os) (arguments_are es)
  stmt_out (Stmt-F.Release x span) = refl
  stmt_out (Stmt-F.Connect a b span) = refl
  stmt_out (Stmt-F.Disconnect a span) = refl
  stmt_out (Stmt-F.Attach p x q span) = refl
  stmt_out (Stmt-F.Detach p span) = refl
  stmt_out (Stmt-F.Output p m es span) = ap (λ (os : List Operand). code.act (scope_of t) (Output p m) os) (arguments_are es)

  stmt_opened : (x : Stmt) → stmt t x ≡ stmt_as (out-Stmt x)
  unfolding stmt branch stmts code.stmts
  stmt_opened x = fold_out-Stmt Piece (List ℤ × Piece) Piece (stmt_layer (scope_of t)) (case_layer (scope_of t)) (stmts_layer (scope_of t)) x ∙ stmt_out (out-Stmt x)

  pub stmt_is : (x : Stmt) (l : Stmt-F Stmt Case Stmts) → out-Stmt x ≡ l → stmt t x ≡ stmt_as l
  stmt_is x l is = stmt_opened x ∙ ap stmt_as is

  -- one variant each
  pub empty_stmt : stmt t forms.Empty ≡ none
  empty_stmt = stmt_is forms.Empty _ forms.outs-Empty

  pub assign_stmt : (v : Variable) (e : Expr) (span : Span) → stmt t (forms.Assign v e span) ≡ assign t v e
  assign_stmt v e span = stmt_is (forms.Assign v e span) _ (forms.outs-Assign v e span)

  pub call_stmt : (x : Name) (es : Option Args) (span : Span) → stmt t (forms.Call x es span) ≡ procedure t x es
  call_stmt x es span = stmt_is (forms.Call x es span) _ (forms.outs-Call x es span)

  pub begin_stmt : (body : Stmts) (span : Span) → stmt t (forms.Begin body span) ≡ stmts t body
  begin_stmt body span = stmt_is (forms.Begin body span) _ (forms.outs-Begin body span)

  pub if_stmt : (e : Expr) (a : Stmt) (b : Option Stmt) (span : Span) → stmt t (forms.If e a b span) ≡ choose t e a b
  if_stmt e a b span = stmt_is (forms.If e a b span) _ (forms.outs-If e a b span)

  pub while_stmt : (e : Expr) (body : Stmt) (span : Span) → stmt t (forms.While e body span) ≡ while_loop t e body
  while_stmt e body span = stmt_is (forms.While e body span) _ (forms.outs-While e body span)

  pub repeat_stmt : (body : Stmts) (e : Expr) (span : Span) → stmt t (forms.Repeat body e span) ≡ repeat_loop t body e
  repeat_stmt body e span = stmt_is (forms.Repeat body e span) _ (forms.outs-Repeat body e span)

  pub count_stmt : (x : Name) (first : Expr) (dir : Direction) (last : Expr) (body : Stmt) (span : Span) → stmt t (forms.Count x first dir last body span) ≡ count t x first dir last body
  count_stmt x first dir last body span = stmt_is (forms.Count x first dir last body span) _ (forms.outs-Count x first dir last body span)

  pub case_stmt : (e : Expr) (cs : List Case) (semicolon : Bool) (span : Span) → stmt t (forms.Case e cs semicolon span) ≡ select t e cs
  case_stmt e cs semicolon span = stmt_is (forms.Case e cs semicolon span) _ (forms.outs-Case e cs semicolon span)

  pub init_stmt : (x b : Name) (es : Option Args) (span : Span) → stmt t (forms.Init x b es span) ≡ act t (Init x b) (exprs_of es)
  init_stmt x b es span = stmt_is (forms.Init x b es span) _ (forms.outs-Init x b es span)

  pub release_stmt : (x : Name) (span : Span) → stmt t (forms.Release x span) ≡ act t (Release x) []
  release_stmt x span = stmt_is (forms.Release x span) _ (forms.outs-Release x span)

  pub connect_stmt : (a b : Ip) (span : Span) → stmt t (forms.Connect a b span) ≡ act t (Connect a b) []
  connect_stmt a b span = stmt_is (forms.Connect a b span) _ (forms.outs-Connect a b span)

  pub disconnect_stmt : (a : Ip) (span : Span) → stmt t (forms.Disconnect a span) ≡ act t (Disconnect a) []
  disconnect_stmt a span = stmt_is (forms.Disconnect a span) _ (forms.outs-Disconnect a span)

  pub attach_stmt : (p x q : Name) (span : Span) → stmt t (forms.Attach p x q span) ≡ act t (Attach p x q) []
  attach_stmt p x q span = stmt_is (forms.Attach p x q span) _ (forms.outs-Attach p x q span)

  pub detach_stmt : (p : Name) (span : Span) → stmt t (forms.Detach p span) ≡ act t (Detach p) []
  detach_stmt p span = stmt_is (forms.Detach p span) _ (forms.outs-Detach p span)

  pub output_stmt : (p m : Name) (es : Option Args) (span : Span) → stmt t (forms.Output p m es span) ≡ act t (Output p m) (exprs_of es)
  output_stmt p m es span = stmt_is (forms.Output p m es span) _ (forms.outs-Output p m es span)

  branch_opened : (c : Case) → branch t c ≡ (code.ordinals_of (scope_of t).meant (out-Case c).labels, chosen t c)
  unfolding stmt branch stmts chosen code.stmts
  branch_opened c = fold_out-Case Piece (List ℤ × Piece) Piece (stmt_layer (scope_of t)) (case_layer (scope_of t)) (stmts_layer (scope_of t)) c

  -- ---- one after another

  abbrev pub do_stmt : Drafted → Stmt → Drafted
  do_stmt u x = grown (stmt t x) u

  all_value : (xs : List Stmt) (u : Drafted) → grown (code.all (scope_of t) (map (stmt t) xs)) u ≡ fold do_stmt u xs
  all_value [] u = grown_none u
  all_value (x ∷ xs) u = grown_then (stmt t x) (code.all (scope_of t) (map (stmt t) xs)) u ∙ all_value xs (grown (stmt t x) u)

  stmts_opened : (x : Stmts) → stmts t x ≡ code.all (scope_of t) (map (stmt t) (out-Stmts x).stmts)
  unfolding stmt branch stmts code.stmts
  stmts_opened x = fold_out-Stmts Piece (List ℤ × Piece) Piece (stmt_layer (scope_of t)) (case_layer (scope_of t)) (stmts_layer (scope_of t)) x

  pub stmts_value : (x : Stmts) (u : Drafted) → grown (stmts t x) u ≡ fold do_stmt u (out-Stmts x).stmts
  stmts_value x u = ap (λ p. grown p u) (stmts_opened x) ∙ all_value (out-Stmts x).stmts u

  -- ---- assignments and procedures

  target_is : (v : Variable) → target t v ≡ code.assigned (scope_of t) ((scope_of t).meant (out-Variable v).name) (map (selector t) (out-Variable v).selectors)
  unfolding target
  target_is v = ap (λ (w : Written). code.assigned (scope_of t) ((scope_of t).meant w.name) w.selectors) (variable_opened t v)

  pub result_target : (v : Variable) (r : Routine) (d : Denoter) (n : ℕ) (u : Drafted) → (scope_of t).meant (out-Variable v).name ≡ Called r → r.result ≡ Some d → (scope_of t).local (result_number r) ≡ Some n
      → reached (target t v) u ≡ Some (with_instr (op.Loc n) u, d)
  unfolding reached
  result_target v r d n u is has at =
      ap (λ o. reached o u) (target_is v ∙ ap (λ (m : Meaning). code.assigned (scope_of t) m (map (selector t) (out-Variable v).selectors)) is ∙ ap (λ (o : Option Denoter). code.result_of (scope_of t) r o) has)
      ∙ ap (λ (o : Option ℕ). reached (Some (record { denoter = d; place = by_number o (λ i. one (op.Loc i)) })) u) at
      ∙ ap (λ w. Some (w, d)) (grown_one (op.Loc n) u)

  assigned_access : (m : Meaning) (ss : List Selector) → ((r : Routine) → m ≡ Called r → ⊥) → code.assigned (scope_of t) m (map (selector t) ss) ≡ accessed t m ss
  unfolding accessed
  assigned_access (Called r) ss other = absurd (other r refl)
  assigned_access _ ss other = refl

  pub access_target : (v : Variable) (m : Meaning) → m ≡ (scope_of t).meant (out-Variable v).name → ((r : Routine) → m ≡ Called r → ⊥) → target t v ≡ accessed t m (out-Variable v).selectors
  access_target v m is other = target_is v ∙ ap (λ (n : Meaning). code.assigned (scope_of t) n (map (selector t) (out-Variable v).selectors)) (sym is) ∙ assigned_access m (out-Variable v).selectors other

  assign_to : (o : Option Access) (e : Operand) (u v : Drafted) (d : Denoter) (n : ℕ) → Some (v, d) ≡ reached o u → (scope_of t).number (shape_of d) ≡ Some n → grown (code.assign_to (scope_of t) o e) u ≡ with_instr (op.Store n) (grown e.value v)
  unfolding reached
  assign_to None e u v d n is at = absurd (cc)
  assign_to (Some a) e u v d n is at =
      let known : (grown a.place u, a.denoter) ≡ (v, d) = cc in
      let unit = ap (λ (p : Drafted × Denoter). p.0) known in
      let same_type = ap (λ (p : Drafted × Denoter). p.1) known in
      grown_then a.place (e.value ⨾ code.store_into (scope_of t) a.denoter) u
      ∙ (λ i. grown (e.value ⨾ code.store_into (scope_of t) (same_type i)) (unit i))
      ∙ ap (λ (o : Option ℕ). grown (e.value ⨾ by_number o (λ k. one (op.Store k))) v) at
      ∙ then_one e.value (op.Store n) v

  pub assign_steps : (x : Variable) (e : Expr) (u v : Drafted) (d : Denoter) (n : ℕ) → Some (v, d) ≡ reached (target t x) u → (scope_of t).number (shape_of d) ≡ Some n → grown (assign t x e) u ≡ with_instr (op.Store n) (grown (expr t e).value v)
  unfolding assign target
  assign_steps x e u v d n is at = assign_to (code.target (scope_of t) x) (expr t e) u v d n is at

  pub procedure_is : (x : Name) (es : Option Args) (r : Routine) → (scope_of t).meant x ≡ Called r → r.result ≡ None → procedure t x es ≡ call t x r (exprs_of es)
  unfolding procedure call
  procedure_is x es r is has =
      ap (λ (m : Meaning). code.invoke_of (scope_of t) x m (code.arguments (scope_of t) es)) is
      ∙ ap (λ (o : Option Denoter). code.where_no_result (scope_of t) o (exprs.call (scope_of t) ((scope_of t).routine x) r (code.arguments (scope_of t) es))) has
      ∙ ap (λ (os : List Operand). exprs.call (scope_of t) ((scope_of t).routine x) r os) (arguments_are es)

  -- ---- branches and loops

  pub choose_either_steps : (e : Expr) (a b : Stmt) (u : Drafted) (x y : Instr) (test end : ℕ)
      → test ≡ length (grown (expr t e).value u).instrs → end ≡ length (grown (stmt t a) (with_instr x (grown (expr t e).value u))).instrs
      → fork_closed test end (grown (stmt t b) (with_instr y (grown (stmt t a) (with_instr x (grown (expr t e).value u))))) ≡ grown (choose t e a (Some b)) u
  unfolding choose expr
  choose_either_steps e a b u x y test end f g = fork_made (stmt t a) (stmt t b) (grown (expr t e).value u) x y test end f g ∙ sym (grown_then (expr t e).value (fork (stmt t a) (stmt t b)) u)

  pub choose_steps : (e : Expr) (a : Stmt) (u : Drafted) (x y : Instr) (test end : ℕ)
      → test ≡ length (grown (expr t e).value u).instrs → end ≡ length (grown (stmt t a) (with_instr x (grown (expr t e).value u))).instrs
      → fork_closed test end (with_instr y (grown (stmt t a) (with_instr x (grown (expr t e).value u)))) ≡ grown (choose t e a None) u
  unfolding choose expr
  choose_steps e a u x y test end f g =
      ap (λ v. fork_closed test end v) (sym (grown_none (with_instr y (grown (stmt t a) (with_instr x (grown (expr t e).value u))))))
      ∙ fork_made (stmt t a) none (grown (expr t e).value u) x y test end f g
      ∙ sym (grown_then (expr t e).value (fork (stmt t a) none) u)

  pub while_steps : (e : Expr) (body : Stmt) (u : Drafted) (x : Instr) (entry there : ℕ) → entry ≡ length u.instrs → there ≡ length (grown (stmt t body) (with_instr x u)).instrs
      → loop_closed entry there (grown (expr t e).value (grown (stmt t body) (with_instr x u))) ≡ grown (while_loop t e body) u
  unfolding while_loop
  while_steps e body u x entry there f g = loop_made (expr t e).value (stmt t body) u x entry there f g

  pub repeat_steps : (body : Stmts) (e : Expr) (u : Drafted) (entry : ℕ) → entry ≡ length u.instrs
      → repeat_closed entry (grown (expr t e).value (grown (stmts t body) (with_instr op.Turn u))) ≡ grown (repeat_loop t body e) u
  unfolding repeat_loop
  repeat_steps body e u entry f =
      ap (λ v. repeat_closed entry v) (sym (grown_then (stmts t body) (expr t e).value (with_instr op.Turn u)))
      ∙ repeat_made (stmts t body ⨾ (expr t e).value) u entry f

  -- ---- `case`

  -- where each label has an ordinal, the statement itself
  pub chosen_is : (c : Case) → AreOrdinals (scope_of t).meant (out-Case c).labels → stmt t (out-Case c).body ≡ chosen t c
  unfolding AreOrdinals chosen
  chosen_is c all = sym (all (stmt t (out-Case c).body))

  pub no_case : (k : ℕ) (u : Drafted) → grown (first_of t k []) u ≡ with_instr (op.Fail fault.NoCase) u
  unfolding first_of
  no_case k u = grown_one (op.Fail fault.NoCase) u

  pub case_steps : (k : ℕ) (c : Case) (cs : List Case) (u : Drafted) (x y : Instr) (test end : ℕ)
      → test ≡ length (grown (is_one_of k (code.ordinals_of (scope_of t).meant (out-Case c).labels)) u).instrs
      → end ≡ length (grown (chosen t c) (with_instr x (grown (is_one_of k (code.ordinals_of (scope_of t).meant (out-Case c).labels)) u))).instrs
      → fork_closed test end (grown (first_of t k cs) (with_instr y (grown (chosen t c) (with_instr x (grown (is_one_of k (code.ordinals_of (scope_of t).meant (out-Case c).labels)) u))))) ≡ grown (first_of t k (c ∷ cs)) u
  unfolding first_of is_one_of
  case_steps k c cs u x y test end f g =
      let labels = code.is_one_of k (code.ordinals_of (scope_of t).meant (out-Case c).labels) in
      let body = chosen t c in
      let others = code.first_of k (map (branch t) cs) in
      fork_made body others (grown labels u) x y test end f g
      ∙ sym (grown_then labels (fork body others) u)
      ∙ ap (λ (b : List ℤ × Piece). grown (code.is_one_of k b.0 ⨾ fork b.1 others) u) (sym (branch_opened c))

  labels_temporaries : (k : ℕ) (ms : List ℤ) → (code.is_one_of k ms).temporaries ≡ []
  labels_temporaries k [] = refl
  labels_temporaries k (m ∷ []) = refl
  labels_temporaries k (m ∷ (n ∷ ms)) = labels_temporaries k (n ∷ ms)

  labels_fine : (k : ℕ) (ms : List ℤ) → (code.is_one_of k ms).fine ≡ (code.is_one_of 0 ms).fine
  labels_fine k [] = refl
  labels_fine k (m ∷ []) = refl
  labels_fine k (m ∷ (n ∷ ms)) = labels_fine k (n ∷ ms)

  case_temporaries : (k : ℕ) (cs : List (List ℤ × Piece)) → (code.first_of k cs).temporaries ≡ (code.first_of 0 cs).temporaries
  case_temporaries k [] = refl
  case_temporaries k (c ∷ cs) = λ i. (labels_temporaries k c.0 ∙ sym (labels_temporaries 0 c.0)) i ++ (c.1.temporaries ++ case_temporaries k cs i)

  case_fine : (k : ℕ) (cs : List (List ℤ × Piece)) → (code.first_of k cs).fine ≡ (code.first_of 0 cs).fine
  case_fine k [] = refl
  case_fine k (c ∷ cs) = λ i. labels_fine k c.0 i && (c.1.fine && case_fine k cs i)

  pub select_steps : (e : Expr) (cs : List Case) (u : Drafted) (n k : ℕ) → (scope_of t).number (shape_of (whole hosts.Integer)) ≡ Some n → k ≡ length u.locals
      → grown (first_of t k cs) (with_instr (op.Store n) (with_instr op.Ord (grown (expr t e).value (with_instr (op.Loc k) (with_temporary (shape_of (whole hosts.Integer)) u))))) ≡ grown (select t e cs) u
  unfolding select first_of expr
  select_steps e cs u n k is at =
      let cases = map (branch t) cs in
      let shape = shape_of (whole hosts.Integer) in
      let value = (expr t e).value ⨾ one op.Ord in
      ap (λ v. grown (code.first_of k cases) (with_instr (op.Store n) v)) (sym (then_one (expr t e).value op.Ord (with_instr (op.Loc k) (with_temporary shape u))))
      ∙ keep_made shape n value (λ i. code.first_of i cases) (record { temporaries = λ i. case_temporaries i cases; fine = λ i. case_fine i cases }) u k at
      ∙ ap (λ (o : Option ℕ). grown (by_number o (λ j. keep shape j value (λ i. code.first_of i cases))) u) (sym is)
