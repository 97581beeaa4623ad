-- Statements.
use Rattle.std.proofs.Common.{ℕ, zero, suc, Bool, true, false, [], ◌∷◌, ◌++◌, Option, Some, None, refl, sym, subst, arith}
use Rattle.estelle_tree.specs.declared.kind.Kind.TheVariants as k
use Rattle.estelle_tree.specs.declared.tree.name.Name.{Name}
use Rattle.estelle_tree.specs.declared.tree.expression.Expr.{Expr}
use Rattle.estelle_tree.specs.declared.tree.statement.Stmt.{Stmt, out-Stmt, map-Stmt}
use Rattle.estelle_tree.specs.declared.tree.statement.Stmt.TheOpen.{Stmt-F}
use Rattle.estelle_tree.specs.declared.tree.statement.Stmts.{Stmts, out-Stmts}
use Rattle.estelle_tree.specs.declared.tree.statement.Case.{Case, out-Case}
use Rattle.estelle_tree.specs.Input.{Input}
use Rattle.estelle_tree.specs.Spans.{StmtLayer}
use Rattle.estelle_tree.specs.Spelling.{Spelling, Optional, Behind}
use Rattle.estelle_tree.specs.Types.{IsName}
use Rattle.estelle_tree.specs.Statements.{IsIp, MayBeArgs, StmtsOf, CaseOf, IsIf, IsStmtLayer, StmtBelow}
use Rattle.scope_rules.specs.declared.declaration.Need.{Need}
use Rattle.scope_rules.specs.declared.declaration.Need.TheVariants as need
use Rattle.scope_rules.specs.declared.event.Step.TheVariants as step
use Rattle.scope_rules.specs.declared.event.Event.TheVariants.{Init}
use Rattle.scope_rules.specs.TypeEvents.{Events}
use Rattle.scope_rules.specs.ExpressionEvents.{optional, expr, args}
use Rattle.scope_rules.specs.StatementEvents.{use_member, ip_part, ip_events, stmt_layer, stmt, case_, stmts}
use Rattle.scope_names_events.proofs.StatementEquations.{stmt_is, case_is, stmts_is}
use Rattle.scope_names_events.proofs.WritingLemmas.{chain_map}
use Rattle.accepted_states.proofs.Scopes.{plain_use, plain_init}
use Rattle.accepted_states.proofs.Fine.{Less, less_same, less_more, less_takes, less_flag, less_name, Fine, AllFine, silent, fine_nil, fine_append, fine_less, fine_end, fine_name, behind, enclosed, separated, maybe}
use Rattle.accepted_states.proofs.FineTypes.{const_fine}
use Rattle.accepted_states.proofs.FineExpressions.{expr_fine, expr_below_fine, args_fine, variable_fine}

-- two names with something between
pub member_fine : {x y : Name} {i a b j : Input} (n m : Need) → IsName x i a → Less a b → IsName y b j → Fine i j (use_member n x m y)
member_fine {x} {y} n m h l g = record { plain = plain_use x n (step.Member y m ∷ []); few = λ t. let p = less_name h t in let q = less_name g t in let r = l.most t in omega (arith, p, q, r) }

part_fine : (alone : Need) (x : Name) (o : Option Name) (i m j : Input) → IsName x i m → Optional (Behind k.Dot IsName) o m j → Fine i j (ip_part alone x o)
part_fine alone x None i m j h e = fine_end (fine_name alone h) (less_same e)
part_fine alone x (Some p) i m j h g = member_fine need.ModuleVariable need.Ip h (less_takes g.mark) g.item

ip_fine : (alone : Need) → AllFine (ip_events alone) IsIp
ip_fine alone p i j h = part_fine alone p.name p.part i h.mid j h.name h.part

may_be_args_fine : (room : ℕ) → AllFine (optional args) (MayBeArgs room)
may_be_args_fine room = maybe (enclosed (args_fine room))

module _ (room : ℕ) (S : Bool → Spelling Stmt) (fine : (whole : Bool) → AllFine stmt (S whole)) where
  pub stmts_of_fine : AllFine stmts (StmtsOf (S false))
  stmts_of_fine ss i j h = subst (Fine i j) (sym (stmts_is ss)) (separated k.Semicolon (fine false) (out-Stmts ss).stmts i j h.stmts)

  case_fine : AllFine case_ (CaseOf (S false))
  case_fine c i j h =
      let p = h.parts in
      subst (Fine i j) (sym (case_is c)) (fine_append (separated k.Comma const_fine (out-Case c).labels i p.mid p.first) (fine_less (less_takes p.mark) (fine false (out-Case c).body p.at j p.second)))

  if_fine : (whole : Bool) (e : Expr) (s : Stmt) (i j : Input) → IsIf room S whole e s i j → Fine i j (expr e ++ stmt s)
  if_fine whole e s i j h = fine_less (less_takes h.word) (fine_append (expr_below_fine room e h.at h.mid h.condition) (behind (fine whole) s h.mid j h.then_part))

  layer_fine : (whole : Bool) (l : StmtLayer) (i j : Input) → IsStmtLayer room S whole l i j → Fine i j (stmt_layer (map-Stmt Stmt Case Stmts Events Events Events stmt case_ stmts l))
  layer_fine whole Stmt-F.Empty i j h = fine_nil (less_same h)
  layer_fine whole (Stmt-F.Assign v value span) i j h = fine_append (variable_fine need.Assigned room v i h.0.mid h.0.first) (fine_less (less_takes h.0.mark) (expr_fine room value h.0.at j h.0.second))
  layer_fine whole (Stmt-F.Call x a span) i j h = fine_append (fine_name need.Procedure h.0.name) (may_be_args_fine room a h.0.mid j h.0.args)
  layer_fine whole (Stmt-F.Begin ss span) i j h = enclosed stmts_of_fine ss i j h.1
  layer_fine whole (Stmt-F.If e s None span) i j h =
      let c = h.1.1 in
      fine_less (less_takes c.word) (fine_append (expr_below_fine room e c.at c.mid c.condition) (fine_append (behind (fine false) s c.mid j c.then_part) (fine_nil (less_same {i = j} refl))))
  layer_fine whole (Stmt-F.If e s (Some t) span) i j h =
      let m = h.1.0 in
      let c = h.1.1 in
      fine_less (less_takes c.word) (fine_append (expr_below_fine room e c.at c.mid c.condition) (fine_append (behind (fine true) s c.mid m c.then_part) (behind (fine whole) t m j h.1.2)))
  layer_fine whole (Stmt-F.While e s span) i j h = let c = h.1 in fine_less (less_takes c.word) (fine_append (expr_below_fine room e c.at c.mid c.condition) (behind (fine whole) s c.mid j c.body))
  layer_fine whole (Stmt-F.Repeat ss e span) i j h = let c = h.1 in fine_append (enclosed stmts_of_fine ss i c.mid c.stmts) (expr_below_fine room e c.mid j c.condition)
  layer_fine whole (Stmt-F.Count x e direction f s span) i j h =
      let c = h.1 in
      fine_less (less_takes c.word)
      (fine_append (fine_name need.Variable c.start.first)
      (fine_less (less_takes c.start.mark) (fine_append (expr_below_fine room e c.start.at c.mid c.start.second)
      (fine_append (behind (expr_below_fine room) f c.mid c.after c.last) (behind (fine whole) s c.after j c.body)))))
  layer_fine whole (Stmt-F.Case e cs ended span) i j h =
      let c = h.1 in
      fine_less (less_takes c.word)
      (fine_append (expr_below_fine room e c.at c.parts.mid c.parts.first)
      (fine_less (less_takes c.parts.mark)
      (fine_end (subst (Fine c.parts.at c.mid) (sym (chain_map (λ (es : Events). es) case_ cs)) (separated k.Semicolon case_fine cs c.parts.at c.mid c.parts.second))
      (less_more (less_flag k.Semicolon ended c.semicolon) (less_takes c.ends)))))
  layer_fine whole (Stmt-F.Init x b a span) i j h =
      let c = h.0 in
      fine_less (less_takes c.word)
      (fine_append
      (fine_append (fine_name need.ModuleVariable c.names.first) (fine_less (less_takes c.names.mark) (fine_append (fine_name need.Body c.names.second) (silent {i = c.mid} {j = c.mid} (Init x b ∷ []) (less_same refl) (plain_init x b) refl))))
      (may_be_args_fine room a c.mid j c.args))
  layer_fine whole (Stmt-F.Release x span) i j h = fine_less (less_takes h.0.mark) (fine_name need.ModuleVariable h.0.item)
  layer_fine whole (Stmt-F.Connect p q span) i j h =
      let c = h.0 in
      fine_less (less_takes c.word) (fine_append (ip_fine need.Ip p c.at c.ips.mid c.ips.first) (fine_less (less_takes c.ips.mark) (ip_fine need.Ip q c.ips.at j c.ips.second)))
  layer_fine whole (Stmt-F.Disconnect p span) i j h = behind (ip_fine need.Disconnected) p i j h.0
  layer_fine whole (Stmt-F.Attach o m p span) i j h =
      let c = h.0 in
      fine_less (less_takes c.word) (fine_append (fine_name need.Ip c.own) (fine_less (less_takes c.to) (member_fine need.ModuleVariable need.Ip c.lower.first (less_takes c.lower.mark) c.lower.second)))
  layer_fine whole (Stmt-F.Detach o span) i j h = fine_less (less_takes h.0.mark) (fine_name need.Ip h.0.item)
  layer_fine whole (Stmt-F.Output p n a span) i j h =
      let c = h.0 in
      fine_less (less_takes c.word) (fine_append (member_fine need.Ip need.Interaction c.names.first (less_takes c.names.mark) c.names.second) (may_be_args_fine room a c.mid j c.args))

stmt_fine : (room : ℕ) (whole : Bool) → AllFine stmt (StmtBelow room whole)
stmt_fine zero whole s i j h = absurd h
stmt_fine (suc room) whole s i j h = subst (Fine i j) (sym (stmt_is s)) (layer_fine room (StmtBelow room) (stmt_fine room) whole (out-Stmt s) i j h)

pub stmts_fine : (room : ℕ) → AllFine stmts (StmtsOf (StmtBelow room false))
stmts_fine room = stmts_of_fine room (StmtBelow room) (stmt_fine room)
