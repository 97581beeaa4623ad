-- In statements that spell tokens each output names its interaction point and its interaction by identifiers.
use Rattle.std.proofs.Common.{◌≡◌, ◌∙◌, ℕ, zero, suc, Bool, true, false, ◌&&◌, [], ◌∷◌, Some, None, refl, sym, subst}
use Rattle.std.specs.List.{list_all}
use Rattle.estelle_tree.specs.declared.kind.Kind.{Kind}
use Rattle.estelle_tree.specs.declared.kind.Kind.TheVariants as k
use Rattle.estelle_tree.specs.declared.tree.expression.Expr.{Expr}
use Rattle.estelle_tree.specs.declared.tree.statement.Stmt.{Stmt, out-Stmt}
use Rattle.estelle_tree.specs.declared.tree.statement.Stmt.TheOpen.{Stmt-F}
use Rattle.estelle_tree.specs.declared.tree.statement.Stmts.{out-Stmts}
use Rattle.estelle_tree.specs.declared.tree.statement.Case.{out-Case}
use Rattle.estelle_tree.specs.Input.{Input}
use Rattle.estelle_tree.specs.Spans.{StmtLayer}
use Rattle.estelle_tree.specs.Spelling.{Spelling, Chain, Behind, Separated}
use Rattle.estelle_tree.specs.Statements.{StmtsOf, CaseOf, IsIf, IsStmtLayer, StmtBelow}
use Rattle.estelle_model_legality.proofs.Lists.{both_and}
use Rattle.trace_forms.proofs.Named.{named_stmt, named_case, named_stmts, stmt_test, stmt_out, case_out, stmts_out, is_name}
use Rattle.trace_forms.proofs.Passes.{FormsAt, Less, less_same, less_more, less_takes, less_flag, name_less, behind, separated, joined, name, const_less, expr_less, expr_below_less, variable_less, may_be_args_less, ip_less, name_form}
use Rattle.trace_forms.proofs.Lists.{all_tests}

-- what spells the tokens from one place to another passes their forms on, and its outputs are named by identifiers
pub record Good (i j : Input) (b : Bool) : Type 0 where
  pub less : Less i j
  pub named : FormsAt i → b ≡ true

abbrev pub AllGood : {A : Type 0} → (A → Bool) → Spelling A → Type 0
AllGood {A} f P = (x : A) (i j : Input) → P x i j → Good i j (f x)

pub silent : {i j : Input} → Less i j → Good i j true
silent h = record { less = h; named = λ f. refl }

pub good_less : {i m j : Input} {b : Bool} → Less i m → Good m j b → Good i j b
good_less h g = record { less = less_more h g.less; named = λ f. g.named (h.pass f) }

pub good_end : {i m j : Input} {b : Bool} → Good i m b → Less m j → Good i j b
good_end g h = record { less = less_more g.less h; named = g.named }

pub good_both : {i m j : Input} {b c : Bool} → Good i m b → Good m j c → Good i j (b && c)
good_both {i} {m} {j} {b} {c} g h = record { less = less_more g.less h.less; named = λ f. both_and b c (g.named f) (h.named (g.less.pass f)) }

pub behind_good : {A : Type 0} {w : Kind} {f : A → Bool} {P : Spelling A} → AllGood f P → AllGood f (Behind w P)
behind_good F x i j h = good_less (less_takes h.mark) (F x h.at j h.item)

pub chain_good : {A : Type 0} {f : A → Bool} {P : Spelling A} → AllGood f P → AllGood (list_all f) (Chain P)
chain_good F [] i j h = silent (less_same h)
chain_good F (x ∷ xs) i j h = good_both (F x i h.0 h.1) (chain_good F xs h.0 j h.2)

pub separated_good : {A : Type 0} (w : Kind) {f : A → Bool} {P : Spelling A} → AllGood f P → AllGood (list_all f) (Separated w P)
separated_good w F [] i j h = absurd h
separated_good w F (x ∷ xs) i j h = good_both (F x i h.0 h.1) (chain_good (behind_good F) xs h.0 j h.2)

module _ (room : ℕ) (S : Bool → Spelling Stmt) (good : (whole : Bool) → AllGood named_stmt (S whole)) where
  pub stmts_of_good : AllGood named_stmts (StmtsOf (S false))
  stmts_of_good ss i j h = subst (Good i j) (sym (stmts_out ss ∙ all_tests named_stmt (out-Stmts ss).stmts)) (separated_good k.Semicolon (good false) (out-Stmts ss).stmts i j h.stmts)

  case_good : AllGood named_case (CaseOf (S false))
  case_good c i j h =
      let p = h.parts in
      subst (Good i j) (sym (case_out c)) (good_less (separated k.Comma const_less (out-Case c).labels i p.mid p.first) (good_less (less_takes p.mark) (good false (out-Case c).body p.at j p.second)))

  if_good : (whole : Bool) (e : Expr) (s : Stmt) (i j : Input) → IsIf room S whole e s i j → Good i j (named_stmt s)
  if_good whole e s i j h = good_less (less_more (less_takes h.word) (expr_below_less room e h.at h.mid h.condition)) (behind_good (good whole) s h.mid j h.then_part)

  layer_good : (whole : Bool) (l : StmtLayer) (i j : Input) → IsStmtLayer room S whole l i j → Good i j (stmt_test l)
  layer_good whole Stmt-F.Empty i j h = silent (less_same h)
  layer_good whole (Stmt-F.Assign v e span) i j h = silent (joined (variable_less room) (expr_less room) v e i j h.0)
  layer_good whole (Stmt-F.Call x args span) i j h = silent (less_more (name_less h.0.name) (may_be_args_less room args h.0.mid j h.0.args))
  layer_good whole (Stmt-F.Begin stmts span) i j h = let e = h.1 in good_less (less_takes e.opens) (good_end (stmts_of_good stmts e.at e.mid e.inside) (less_takes e.closes))
  layer_good whole (Stmt-F.If e s None span) i j h = let g = if_good false e s i j h.1.1 in record { less = g.less; named = λ f. both_and (named_stmt s) true (g.named f) refl }
  layer_good whole (Stmt-F.If e s (Some t) span) i j h = let c = h.1 in good_both (if_good true e s i c.0 c.1) (behind_good (good whole) t c.0 j c.2)
  layer_good whole (Stmt-F.While e s span) i j h = let c = h.1 in good_less (less_more (less_takes c.word) (expr_below_less room e c.at c.mid c.condition)) (behind_good (good whole) s c.mid j c.body)
  layer_good whole (Stmt-F.Repeat stmts e span) i j h =
      let c = h.1 in
      let w = c.stmts in
      good_end (good_less (less_takes w.opens) (good_end (stmts_of_good stmts w.at w.mid w.inside) (less_takes w.closes))) (expr_below_less room e c.mid j c.condition)
  layer_good whole (Stmt-F.Count x e d f s span) i j h =
      let c = h.1 in
      good_less (less_more (less_takes c.word) (less_more (joined name (expr_below_less room) x e c.at c.mid c.start) (behind (expr_below_less room) f c.mid c.after c.last))) (behind_good (good whole) s c.after j c.body)
  layer_good whole (Stmt-F.Case e cs ended span) i j h =
      let c = h.1 in
      subst (Good i j) (sym (all_tests named_case cs))
      (good_less (less_more (less_takes c.word) (less_more (expr_below_less room e c.at c.parts.mid c.parts.first) (less_takes c.parts.mark)))
      (good_end (separated_good k.Semicolon case_good cs c.parts.at c.mid c.parts.second) (less_more (less_flag k.Semicolon ended c.semicolon) (less_takes c.ends))))
  layer_good whole (Stmt-F.Init x b a span) i j h = let c = h.0 in silent (less_more (less_takes c.word) (less_more (joined name name x b c.at c.mid c.names) (may_be_args_less room a c.mid j c.args)))
  layer_good whole (Stmt-F.Release x span) i j h = silent (behind name x i j h.0)
  layer_good whole (Stmt-F.Connect p q span) i j h = let c = h.0 in silent (less_more (less_takes c.word) (joined ip_less ip_less p q c.at j c.ips))
  layer_good whole (Stmt-F.Disconnect p span) i j h = silent (behind ip_less p i j h.0)
  layer_good whole (Stmt-F.Attach o m p span) i j h = let c = h.0 in silent (less_more (less_takes c.word) (less_more (name_less c.own) (less_more (less_takes c.to) (joined name name m p c.after j c.lower))))
  layer_good whole (Stmt-F.Detach o span) i j h = silent (behind name o i j h.0)
  layer_good whole (Stmt-F.Output p n a span) i j h =
      let c = h.0 in
      let word = less_takes c.word in
      let first = less_more word (less_more (name_less c.names.first) (less_takes c.names.mark)) in
      record {
        less = less_more first (less_more (name_less c.names.second) (may_be_args_less room a c.mid j c.args));
        named = λ f. both_and (is_name p.word) (is_name n.word) (name_form c.names.first (word.pass f)) (name_form c.names.second (first.pass f));
      }

stmt_good : (room : ℕ) (whole : Bool) → AllGood named_stmt (StmtBelow room whole)
stmt_good zero whole s i j h = absurd h
stmt_good (suc room) whole s i j h = subst (Good i j) (sym (stmt_out s)) (layer_good room (StmtBelow room) (stmt_good room) whole (out-Stmt s) i j h)

pub stmts_good : (room : ℕ) → AllGood named_stmts (StmtsOf (StmtBelow room false))
stmts_good room = stmts_of_good room (StmtBelow room) (stmt_good room)
