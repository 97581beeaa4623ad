-- Statements, moved.
use Rattle.std.proofs.Common.{◌≡◌, ℕ, zero, suc, Bool, true, false, map, Some, None, sym, refl, ap, ◌∙◌}
use Rattle.std.specs.Option.{option_map}
use Rattle.estelle_tree.specs.declared.kind.Kind.TheVariants as k
use Rattle.estelle_tree.specs.declared.tree.expression.Expr.{Expr}
use Rattle.estelle_tree.specs.declared.tree.statement.Stmt.{Stmt, out-Stmt, roll-Stmt, map-Stmt, fold_out-Stmt, fold-roll-Stmt}
use Rattle.estelle_tree.specs.declared.tree.statement.Stmt.TheOpen.{Stmt-F, Case-F, Stmts-F}
use Rattle.estelle_tree.specs.declared.tree.statement.Stmt.TheFolds.{fold_out-Case, fold_out-Stmts, fold-roll-Case, fold-roll-Stmts}
use Rattle.estelle_tree.specs.declared.tree.statement.Stmt.TheViews.{out-roll-Stmt}
use Rattle.estelle_tree.specs.declared.tree.statement.Stmts.{Stmts, out-Stmts, roll-Stmts}
use Rattle.estelle_tree.specs.declared.tree.statement.Case.{Case, out-Case, roll-Case}
use Rattle.estelle_tree.specs.Input.{Input, between, over}
use Rattle.estelle_tree.specs.Spans.{StmtLayer, nowhere}
use Rattle.estelle_tree.specs.Spelling.{Spelling, Separated, Enclosed, Behind}
use Rattle.estelle_tree.specs.Types.{IsName, IsConst}
use Rattle.estelle_tree.specs.Expressions.{ExprBelow, IsExpr, IsArgs, IsVariable}
use Rattle.estelle_tree.specs.Statements.{IsIp, MayBeArgs, of_direction, StmtsOf, CaseOf, IsIf, IsStmtLayer, StmtBelow}
use Rattle.round_trip.specs.Types.{bare_name, bare_const}
use Rattle.round_trip.specs.Expressions.{bare_args, bare_expr, bare_variable}
use Rattle.round_trip.specs.Statements.{bare_ip, stmt_layer, case_layer, stmts_layer, bare_stmt, bare_case, bare_stmts}
use Rattle.round_trip.proofs.Moves.{Alike, nothing, takes, flag, Moves, ap2, ap3, ap4, optional, behind, enclosed, separated, joined, rolling}
use Rattle.round_trip.proofs.TypeMoves.{name_moves, const_moves}
use Rattle.round_trip.proofs.ExpressionMoves.{expr_below_moves, expr_moves, args_moves, variable_moves}

pub ip_moves : Moves IsIp bare_ip
ip_moves x i j i' h s =
    let m = name_moves x.name _ _ _ h.name s in
    let n = optional (Behind k.Dot IsName) bare_name (behind IsName bare_name name_moves k.Dot) x.part _ _ _ h.part m.alike in
    record {
      thing = record { name = m.thing; part = n.thing; span = between i' n.end };
      end = n.end;
      is = record { mid = m.end; name = m.is; part = n.is; span = refl };
      same = ap2 (λ a b. record { name = a; part = b; span = nowhere }) m.same n.same;
      alike = n.alike;
    }

may_be_args_moves : (room : ℕ) → Moves (MayBeArgs room) (option_map bare_args)
may_be_args_moves room = optional (Enclosed k.OpenParenthesis k.CloseParenthesis (IsArgs room)) bare_args (enclosed (IsArgs room) bare_args (args_moves room) k.OpenParenthesis k.CloseParenthesis)

-- ---- one level without spans, for each type of node

abbrev pub layer_of_stmt : StmtLayer → Stmt
layer_of_stmt l = stmt_layer (map-Stmt Stmt Case Stmts Stmt Case Stmts bare_stmt bare_case bare_stmts l)

stmt_rolled : (l : StmtLayer) → bare_stmt (roll-Stmt l) ≡ layer_of_stmt l
unfolding bare_stmt bare_case bare_stmts
stmt_rolled l = fold-roll-Stmt Stmt Case Stmts stmt_layer case_layer stmts_layer l

pub stmt_opened : (x : Stmt) → bare_stmt x ≡ layer_of_stmt (out-Stmt x)
unfolding bare_stmt bare_case bare_stmts
stmt_opened x = fold_out-Stmt Stmt Case Stmts stmt_layer case_layer stmts_layer x

abbrev pub layer_of_case : Case-F Stmt Case Stmts → Case
layer_of_case l = roll-Case (record { labels = map bare_const l.labels; body = bare_stmt l.body; span = nowhere })

case_rolled : (l : Case-F Stmt Case Stmts) → bare_case (roll-Case l) ≡ layer_of_case l
unfolding bare_stmt bare_case bare_stmts
case_rolled l = fold-roll-Case Stmt Case Stmts stmt_layer case_layer stmts_layer l

pub case_opened : (x : Case) → bare_case x ≡ layer_of_case (out-Case x)
unfolding bare_stmt bare_case bare_stmts
case_opened x = fold_out-Case Stmt Case Stmts stmt_layer case_layer stmts_layer x

abbrev pub layer_of_stmts : Stmts-F Stmt Case Stmts → Stmts
layer_of_stmts l = roll-Stmts (record { stmts = map bare_stmt l.stmts; span = nowhere })

stmts_rolled : (l : Stmts-F Stmt Case Stmts) → bare_stmts (roll-Stmts l) ≡ layer_of_stmts l
unfolding bare_stmt bare_case bare_stmts
stmts_rolled l = fold-roll-Stmts Stmt Case Stmts stmt_layer case_layer stmts_layer l

pub stmts_opened : (x : Stmts) → bare_stmts x ≡ layer_of_stmts (out-Stmts x)
unfolding bare_stmt bare_case bare_stmts
stmts_opened x = fold_out-Stmts Stmt Case Stmts stmt_layer case_layer stmts_layer x

-- ---- over the statements one level down

pub stmts_of_moves : (S : Spelling Stmt) → Moves S bare_stmt → Moves (StmtsOf S) bare_stmts
stmts_of_moves S moves x i j i' h s =
    let m = separated S bare_stmt moves k.Semicolon (out-Stmts x).stmts _ _ _ h.stmts s in
    let l : Stmts-F Stmt Case Stmts = record { stmts = m.thing; span = over i' m.end } in
    record {
      thing = roll-Stmts l;
      end = m.end;
      is = record { stmts = m.is; span = refl };
      same = stmts_rolled l ∙ ap (λ a. roll-Stmts (record { stmts = a; span = nowhere })) m.same ∙ sym (stmts_opened x);
      alike = m.alike;
    }

case_moves : (S : Spelling Stmt) → Moves S bare_stmt → Moves (CaseOf S) bare_case
case_moves S moves x i j i' h s =
    let m = joined k.Colon (Separated k.Comma IsConst) S (map bare_const) bare_stmt (separated IsConst bare_const const_moves k.Comma) moves (out-Case x).labels (out-Case x).body h.parts s in
    let l : Case-F Stmt Case Stmts = record { labels = m.one; body = m.other; span = between i' m.end } in
    record {
      thing = roll-Case l;
      end = m.end;
      is = record { parts = m.is; span = refl };
      same = case_rolled l ∙ ap2 (λ a b. roll-Case (record { labels = a; body = b; span = nowhere })) m.one_same m.other_same ∙ sym (case_opened x);
      alike = m.alike;
    }

module _ (room : ℕ) (S : Bool → Spelling Stmt) (moves : (whole : Bool) → Moves (S whole) bare_stmt) where
  -- `if Expr then Stmt`
  record IfMoved (whole : Bool) (e : Expr) (x : Stmt) (i j : Input) : Type 0 where
    condition : Expr
    then_part : Stmt
    end : Input
    is : IsIf room S whole condition then_part i end
    condition_same : bare_expr condition ≡ bare_expr e
    then_same : bare_stmt then_part ≡ bare_stmt x
    alike : Alike j end

  if_moves : (whole : Bool) (e : Expr) (x : Stmt) (i j i' : Input) → IsIf room S whole e x i j → Alike i i' → IfMoved whole e x i' j
  if_moves whole e x i j i' h s =
      let t = takes h.word s in
      let m = expr_below_moves room e _ _ _ h.condition t.alike in
      let n = behind (S whole) bare_stmt (moves whole) k.Then x _ _ _ h.then_part m.alike in
      record {
        condition = m.thing;
        then_part = n.thing;
        end = n.end;
        is = record { at = t.end; mid = m.end; word = t.is; condition = m.is; then_part = n.is };
        condition_same = m.same;
        then_same = n.same;
        alike = n.alike;
      }

  stmt_layer_moves : (whole : Bool) → Moves (IsStmtLayer room S whole) layer_of_stmt
  stmt_layer_moves whole Stmt-F.Empty i j i' h s = let p = nothing h s in record { thing = Stmt-F.Empty; end = p.end; is = p.is; same = refl; alike = p.alike }
  stmt_layer_moves whole (Stmt-F.Assign variable value span) i j i' h s =
      let m = joined k.Becomes (IsVariable room) (IsExpr room) bare_variable bare_expr (variable_moves room) (expr_moves room) variable value h.0 s in
      record {
        thing = Stmt-F.Assign m.one m.other (between i' m.end);
        end = m.end;
        is = (m.is, refl);
        same = ap2 (λ a b. roll-Stmt (Stmt-F.Assign a b nowhere)) m.one_same m.other_same;
        alike = m.alike;
      }
  stmt_layer_moves whole (Stmt-F.Call name args span) i j i' h s =
      let m = name_moves name _ _ _ h.0.name s in
      let n = may_be_args_moves room args _ _ _ h.0.args m.alike in
      record {
        thing = Stmt-F.Call m.thing n.thing (between i' n.end);
        end = n.end;
        is = (record { mid = m.end; name = m.is; args = n.is }, refl);
        same = ap2 (λ a b. roll-Stmt (Stmt-F.Call a b nowhere)) m.same n.same;
        alike = n.alike;
      }
  stmt_layer_moves whole (Stmt-F.Begin stmts span) i j i' h s =
      let m = enclosed (StmtsOf (S false)) bare_stmts (stmts_of_moves (S false) (moves false)) k.Begin k.End stmts _ _ _ h.1 s in
      record { thing = Stmt-F.Begin m.thing (between i' m.end); end = m.end; is = (h.0, m.is, refl); same = ap (λ a. roll-Stmt (Stmt-F.Begin a nowhere)) m.same; alike = m.alike }
  stmt_layer_moves whole (Stmt-F.If condition then_part None span) i j i' h s =
      let m = if_moves false condition then_part _ _ _ h.1.1 s in
      record {
        thing = Stmt-F.If m.condition m.then_part None (between i' m.end);
        end = m.end;
        is = (h.0, (h.1.0, m.is), refl);
        same = ap2 (λ a b. roll-Stmt (Stmt-F.If a b None nowhere)) m.condition_same m.then_same;
        alike = m.alike;
      }
  stmt_layer_moves whole (Stmt-F.If condition then_part (Some other) span) i j i' h s =
      let m = if_moves true condition then_part _ _ _ h.1.1 s in
      let n = behind (S whole) bare_stmt (moves whole) k.Else other _ _ _ h.1.2 m.alike in
      record {
        thing = Stmt-F.If m.condition m.then_part (Some n.thing) (between i' n.end);
        end = n.end;
        is = (h.0, (m.end, m.is, n.is), refl);
        same = ap3 (λ a b c. roll-Stmt (Stmt-F.If a b (Some c) nowhere)) m.condition_same m.then_same n.same;
        alike = n.alike;
      }
  stmt_layer_moves whole (Stmt-F.While condition body span) i j i' h s =
      let t = takes h.1.word s in
      let m = expr_below_moves room condition _ _ _ h.1.condition t.alike in
      let n = behind (S whole) bare_stmt (moves whole) k.Do body _ _ _ h.1.body m.alike in
      record {
        thing = Stmt-F.While m.thing n.thing (between i' n.end);
        end = n.end;
        is = (h.0, record { at = t.end; mid = m.end; word = t.is; condition = m.is; body = n.is }, refl);
        same = ap2 (λ a b. roll-Stmt (Stmt-F.While a b nowhere)) m.same n.same;
        alike = n.alike;
      }
  stmt_layer_moves whole (Stmt-F.Repeat stmts condition span) i j i' h s =
      let m = enclosed (StmtsOf (S false)) bare_stmts (stmts_of_moves (S false) (moves false)) k.Repeat k.Until stmts _ _ _ h.1.stmts s in
      let n = expr_below_moves room condition _ _ _ h.1.condition m.alike in
      record {
        thing = Stmt-F.Repeat m.thing n.thing (between i' n.end);
        end = n.end;
        is = (h.0, record { mid = m.end; stmts = m.is; condition = n.is }, refl);
        same = ap2 (λ a b. roll-Stmt (Stmt-F.Repeat a b nowhere)) m.same n.same;
        alike = n.alike;
      }
  stmt_layer_moves whole (Stmt-F.Count variable first direction last body span) i j i' h s =
      let t = takes h.1.word s in
      let m = joined k.Becomes IsName (ExprBelow room) bare_name bare_expr name_moves (expr_below_moves room) variable first h.1.start t.alike in
      let n = behind (ExprBelow room) bare_expr (expr_below_moves room) (of_direction direction) last _ _ _ h.1.last m.alike in
      let o = behind (S whole) bare_stmt (moves whole) k.Do body _ _ _ h.1.body n.alike in
      record {
        thing = Stmt-F.Count m.one m.other direction n.thing o.thing (between i' o.end);
        end = o.end;
        is = (h.0, record { at = t.end; mid = m.end; after = n.end; word = t.is; start = m.is; last = n.is; body = o.is }, refl);
        same = ap4 (λ a b c d. roll-Stmt (Stmt-F.Count a b direction c d nowhere)) m.one_same m.other_same n.same o.same;
        alike = o.alike;
      }
  stmt_layer_moves whole (Stmt-F.Case selector cases semicolon span) i j i' h s =
      let t = takes h.1.word s in
      let m = joined k.Of (ExprBelow room) (Separated k.Semicolon (CaseOf (S false))) bare_expr (map bare_case) (expr_below_moves room) (separated (CaseOf (S false)) bare_case (case_moves (S false) (moves false)) k.Semicolon) selector cases h.1.parts t.alike in
      let p = flag k.Semicolon semicolon h.1.semicolon m.alike in
      let u = takes h.1.ends p.alike in
      record {
        thing = Stmt-F.Case m.one m.other semicolon (between i' u.end);
        end = u.end;
        is = (h.0, record { at = t.end; mid = m.end; after = p.end; word = t.is; parts = m.is; semicolon = p.is; ends = u.is }, refl);
        same = ap2 (λ a b. roll-Stmt (Stmt-F.Case a b semicolon nowhere)) m.one_same m.other_same;
        alike = u.alike;
      }
  stmt_layer_moves whole (Stmt-F.Init modvar body args span) i j i' h s =
      let t = takes h.0.word s in
      let m = joined k.With IsName IsName bare_name bare_name name_moves name_moves modvar body h.0.names t.alike in
      let n = may_be_args_moves room args _ _ _ h.0.args m.alike in
      record {
        thing = Stmt-F.Init m.one m.other n.thing (between i' n.end);
        end = n.end;
        is = (record { at = t.end; mid = m.end; word = t.is; names = m.is; args = n.is }, refl);
        same = ap3 (λ a b c. roll-Stmt (Stmt-F.Init a b c nowhere)) m.one_same m.other_same n.same;
        alike = n.alike;
      }
  stmt_layer_moves whole (Stmt-F.Release modvar span) i j i' h s =
      let m = behind IsName bare_name name_moves k.Release modvar _ _ _ h.0 s in
      record { thing = Stmt-F.Release m.thing (between i' m.end); end = m.end; is = (m.is, refl); same = ap (λ a. roll-Stmt (Stmt-F.Release a nowhere)) m.same; alike = m.alike }
  stmt_layer_moves whole (Stmt-F.Connect first second span) i j i' h s =
      let t = takes h.0.word s in
      let m = joined k.To IsIp IsIp bare_ip bare_ip ip_moves ip_moves first second h.0.ips t.alike in
      record {
        thing = Stmt-F.Connect m.one m.other (between i' m.end);
        end = m.end;
        is = (record { at = t.end; word = t.is; ips = m.is }, refl);
        same = ap2 (λ a b. roll-Stmt (Stmt-F.Connect a b nowhere)) m.one_same m.other_same;
        alike = m.alike;
      }
  stmt_layer_moves whole (Stmt-F.Disconnect ip span) i j i' h s =
      let m = behind IsIp bare_ip ip_moves k.Disconnect ip _ _ _ h.0 s in
      record { thing = Stmt-F.Disconnect m.thing (between i' m.end); end = m.end; is = (m.is, refl); same = ap (λ a. roll-Stmt (Stmt-F.Disconnect a nowhere)) m.same; alike = m.alike }
  stmt_layer_moves whole (Stmt-F.Attach own modvar ip span) i j i' h s =
      let t = takes h.0.word s in
      let m = name_moves own _ _ _ h.0.own t.alike in
      let u = takes h.0.to m.alike in
      let n = joined k.Dot IsName IsName bare_name bare_name name_moves name_moves modvar ip h.0.lower u.alike in
      record {
        thing = Stmt-F.Attach m.thing n.one n.other (between i' n.end);
        end = n.end;
        is = (record { at = t.end; mid = m.end; after = u.end; word = t.is; own = m.is; to = u.is; lower = n.is }, refl);
        same = ap3 (λ a b c. roll-Stmt (Stmt-F.Attach a b c nowhere)) m.same n.one_same n.other_same;
        alike = n.alike;
      }
  stmt_layer_moves whole (Stmt-F.Detach own span) i j i' h s =
      let m = behind IsName bare_name name_moves k.Detach own _ _ _ h.0 s in
      record { thing = Stmt-F.Detach m.thing (between i' m.end); end = m.end; is = (m.is, refl); same = ap (λ a. roll-Stmt (Stmt-F.Detach a nowhere)) m.same; alike = m.alike }
  stmt_layer_moves whole (Stmt-F.Output ip interaction args span) i j i' h s =
      let t = takes h.0.word s in
      let m = joined k.Dot IsName IsName bare_name bare_name name_moves name_moves ip interaction h.0.names t.alike in
      let n = may_be_args_moves room args _ _ _ h.0.args m.alike in
      record {
        thing = Stmt-F.Output m.one m.other n.thing (between i' n.end);
        end = n.end;
        is = (record { at = t.end; mid = m.end; word = t.is; names = m.is; args = n.is }, refl);
        same = ap3 (λ a b c. roll-Stmt (Stmt-F.Output a b c nowhere)) m.one_same m.other_same n.same;
        alike = n.alike;
      }

-- ---- at each room

pub stmt_below_moves : (room : ℕ) (whole : Bool) → Moves (StmtBelow room whole) bare_stmt
stmt_below_moves zero whole x i j i' h s = absurd h
stmt_below_moves (suc room) whole x i j i' h s =
    rolling (IsStmtLayer room (StmtBelow room) whole) layer_of_stmt out-Stmt roll-Stmt bare_stmt out-roll-Stmt stmt_rolled stmt_opened
    (stmt_layer_moves room (StmtBelow room) (λ whole x i j i' h s. stmt_below_moves room whole x i j i' h s) whole) x i j i' h s
