-- Statements, cut at any place.
use Rattle.std.proofs.Common.{◌<◌, ℕ, zero, suc, Bool, true, false, Option, Some, None, inl, subst}
use Rattle.estelle_tree.specs.declared.kind.Kind.TheVariants as k
use Rattle.estelle_tree.specs.declared.tree.expression.Expr.{Expr}
use Rattle.estelle_tree.specs.declared.tree.expression.Args.{Args}
use Rattle.estelle_tree.specs.declared.tree.statement.Stmt.{Stmt, out-Stmt}
use Rattle.estelle_tree.specs.declared.tree.statement.Stmt.TheOpen.{Stmt-F}
use Rattle.estelle_tree.specs.declared.tree.statement.Stmts.{out-Stmts}
use Rattle.estelle_tree.specs.declared.tree.statement.Case.{out-Case}
use Rattle.estelle_tree.specs.Input.{Input}
use Rattle.estelle_tree.specs.Spelling.{Spelling}
use Rattle.estelle_tree.specs.Expressions.{ExprBelow}
use Rattle.estelle_tree.specs.Statements.{IsIp, MayBeArgs, StmtsOf, CaseOf, IsChoice, IsStmtLayer, StmtBelow, IsStmts}
use Rattle.estelle_tree.specs.Beginning.{Beginning, Then, After, Opens}
use Rattle.estelle_tree.specs.BeginsStatements.{BeginsIp, BeginStmts, BeginCase, BeginsMayBeArgs, WithExpr, BeginsStmtLayer, BeginsStmtBelow, BeginsStmts}
use Rattle.estelle_tree.proofs.Cuts.{Reach, Out, Cut, begun, past, one, other, stop, token, after, after_one, opens, part, flag, separated, joined, last_behind, last_enclosed}
use Rattle.estelle_tree.proofs.CutTypes.{named, name_cut, const_cut}
use Rattle.estelle_tree.proofs.CutExpressions.{expr_below_cut, expr_cut, args_cut, variable_cut}

pub ip_cut : Cut IsIp BeginsIp
ip_cut i j c p h r = named _ p.name i h.mid j c h.name r (λ r. last_behind k.Dot name_cut p.part h.mid j c h.part r)

pub stmts_of_cut : (S : Spelling Stmt) (B : Beginning) → Cut S B → Cut (StmtsOf S) (BeginStmts S B)
stmts_of_cut S B cut i j c ss h r = separated _ k.Semicolon cut (out-Stmts ss).stmts i j j c h.stmts r (λ r. stop r)

pub case_cut : (S : Spelling Stmt) (B : Beginning) → Cut S B → Cut (CaseOf S) (BeginCase B)
case_cut S B cut i j c x h r =
    separated _ k.Comma const_cut (out-Case x).labels i h.parts.mid j c h.parts.first r (λ r.
    after _ h.parts.mid h.parts.at j c h.parts.mark r (λ r.
    cut h.parts.at j c (out-Case x).body h.parts.second r))

module _ (room : ℕ) where
  may_be_args_cut : (a : Option Args) (i j c : Input) → MayBeArgs room a i j → Reach i c → Out (BeginsMayBeArgs room) i j c
  may_be_args_cut a i j c h r = last_enclosed k.OpenParenthesis k.CloseParenthesis (args_cut room) a i j c h r

  module _ (S : Bool → Spelling Stmt) (B : Beginning) (cut : (whole : Bool) → Cut (S whole) B) where
    with_expr : (N : Beginning) (e : Expr) (i m j c : Input) → ExprBelow room e i m → Reach i c → (Reach m c → Out N m j c) → Out (WithExpr room S B N) i j c
    with_expr N e i m j c h r rest = part N (expr_below_cut room) i m j c e h r rest

    if_cut : (whole : Bool) (i j c : Input) (e : Expr) (s : Stmt) (t : Option Stmt) → 0 < room → IsChoice room S whole e s t i j → Reach i c
        → Out (Opens room k.If (WithExpr room S B (After k.Then (Then B (S true) (After k.Else B))))) i j c
    if_cut whole i j c e s None fits h r =
        opens _ room fits i h.1.at j c h.1.word r (λ r.
        with_expr _ e h.1.at h.1.mid j c h.1.condition r (λ r.
        after _ h.1.mid h.1.then_part.at j c h.1.then_part.mark r (λ r.
        alone (cut false h.1.then_part.at j c s h.1.then_part.item r))))
      where
        alone : {i j : Input} → Out B i j c → Out (Then B (S true) (After k.Else B)) i j c
        alone (begun b) = begun (inl b)
        alone (past r) = past r
    if_cut whole i j c e s (Some t) fits h r =
        opens _ room fits i h.1.at j c h.1.word r (λ r.
        with_expr _ e h.1.at h.1.mid j c h.1.condition r (λ r.
        after _ h.1.mid h.1.then_part.at j c h.1.then_part.mark r (λ r.
        part _ (cut true) h.1.then_part.at h.0 j c s h.1.then_part.item r (λ r.
        after _ h.0 h.2.at j c h.2.mark r (λ r.
        cut whole h.2.at j c t h.2.item r)))))

    pub stmt_layer_cut : (whole : Bool) → Cut (IsStmtLayer room S whole) (BeginsStmtLayer room S B)
    stmt_layer_cut whole i j c Stmt-F.Empty h r = one _ _ i j c (past (subst (λ i. Reach i c) h r))
    stmt_layer_cut whole i j c (Stmt-F.Assign variable value span) h r = other _ _ i j c (one _ _ i j c (
        joined k.Becomes (variable_cut room) (expr_cut room) variable value i j c h.0 r))
    stmt_layer_cut whole i j c (Stmt-F.Call name args span) h r = other _ _ i j c (other _ _ i j c (one _ _ i j c (
        named _ name i h.0.mid j c h.0.name r (λ r. may_be_args_cut args h.0.mid j c h.0.args r))))
    stmt_layer_cut whole i j c (Stmt-F.Begin stmts span) h r =
        let a = h.1 in
        other _ _ i j c (other _ _ i j c (other _ _ i j c (one _ _ i j c (
        opens _ room h.0 i a.at j c a.opens r (λ r.
        part _ (stmts_of_cut (S false) B (cut false)) a.at a.mid j c stmts a.inside r (λ r.
        token a.mid j c a.closes r))))))
    stmt_layer_cut whole i j c (Stmt-F.If condition then_part else_part span) h r =
        other _ _ i j c (other _ _ i j c (other _ _ i j c (other _ _ i j c (one _ _ i j c (if_cut whole i j c condition then_part else_part h.0 h.1 r)))))
    stmt_layer_cut whole i j c (Stmt-F.While condition body span) h r =
        let a = h.1 in
        other _ _ i j c (other _ _ i j c (other _ _ i j c (other _ _ i j c (other _ _ i j c (one _ _ i j c (
        opens _ room h.0 i a.at j c a.word r (λ r.
        with_expr _ condition a.at a.mid j c a.condition r (λ r.
        after _ a.mid a.body.at j c a.body.mark r (λ r.
        cut whole a.body.at j c body a.body.item r)))))))))
    stmt_layer_cut whole i j c (Stmt-F.Repeat stmts condition span) h r =
        let a = h.1 in
        other _ _ i j c (other _ _ i j c (other _ _ i j c (other _ _ i j c (other _ _ i j c (other _ _ i j c (one _ _ i j c (
        opens _ room h.0 i a.stmts.at j c a.stmts.opens r (λ r.
        part _ (stmts_of_cut (S false) B (cut false)) a.stmts.at a.stmts.mid j c stmts a.stmts.inside r (λ r.
        after _ a.stmts.mid a.mid j c a.stmts.closes r (λ r.
        expr_below_cut room a.mid j c condition a.condition r))))))))))
    stmt_layer_cut whole i j c (Stmt-F.Count variable first direction last body span) h r =
        let a = h.1 in
        other _ _ i j c (other _ _ i j c (other _ _ i j c (other _ _ i j c (other _ _ i j c (other _ _ i j c (other _ _ i j c (one _ _ i j c (
        opens _ room h.0 i a.at j c a.word r (λ r.
        named _ variable a.at a.start.mid j c a.start.first r (λ r.
        after _ a.start.mid a.start.at j c a.start.mark r (λ r.
        with_expr _ first a.start.at a.mid j c a.start.second r (λ r.
        after_one _ direction a.mid a.last.at j c a.last.mark r (λ r.
        with_expr _ last a.last.at a.after j c a.last.item r (λ r.
        after _ a.after a.body.at j c a.body.mark r (λ r.
        cut whole a.body.at j c body a.body.item r)))))))))))))))
    stmt_layer_cut whole i j c (Stmt-F.Case selector cases semicolon span) h r =
        let a = h.1 in
        other _ _ i j c (other _ _ i j c (other _ _ i j c (other _ _ i j c (other _ _ i j c (other _ _ i j c (other _ _ i j c (other _ _ i j c (one _ _ i j c (
        opens _ room h.0 i a.at j c a.word r (λ r.
        with_expr _ selector a.at a.parts.mid j c a.parts.first r (λ r.
        after _ a.parts.mid a.parts.at j c a.parts.mark r (λ r.
        separated _ k.Semicolon (case_cut (S false) B (cut false)) cases a.parts.at a.mid j c a.parts.second r (λ r.
        flag _ semicolon a.mid a.after j c a.semicolon r (λ r.
        token a.after j c a.ends r))))))))))))))
    stmt_layer_cut whole i j c (Stmt-F.Init modvar body args span) h r =
        let a = h.0 in
        other _ _ i j c (other _ _ i j c (other _ _ i j c (other _ _ i j c (other _ _ i j c (other _ _ i j c (other _ _ i j c (other _ _ i j c (other _ _ i j c (one _ _ i j c (
        after _ i a.at j c a.word r (λ r.
        named _ modvar a.at a.names.mid j c a.names.first r (λ r.
        after _ a.names.mid a.names.at j c a.names.mark r (λ r.
        named _ body a.names.at a.mid j c a.names.second r (λ r.
        may_be_args_cut args a.mid j c a.args r))))))))))))))
    stmt_layer_cut whole i j c (Stmt-F.Release modvar span) h r =
        other _ _ i j c (other _ _ i j c (other _ _ i j c (other _ _ i j c (other _ _ i j c (other _ _ i j c (other _ _ i j c (other _ _ i j c (other _ _ i j c (other _ _ i j c (one _ _ i j c (
        after _ i h.0.at j c h.0.mark r (λ r. name_cut h.0.at j c modvar h.0.item r))))))))))))
    stmt_layer_cut whole i j c (Stmt-F.Connect first second span) h r =
        let a = h.0 in
        other _ _ i j c (other _ _ i j c (other _ _ i j c (other _ _ i j c (other _ _ i j c (other _ _ i j c (other _ _ i j c (other _ _ i j c (other _ _ i j c (other _ _ i j c (other _ _ i j c (one _ _ i j c (
        after _ i a.at j c a.word r (λ r. joined k.To ip_cut ip_cut first second a.at j c a.ips r)))))))))))))
    stmt_layer_cut whole i j c (Stmt-F.Disconnect ip span) h r =
        other _ _ i j c (other _ _ i j c (other _ _ i j c (other _ _ i j c (other _ _ i j c (other _ _ i j c (other _ _ i j c (other _ _ i j c (other _ _ i j c (other _ _ i j c (other _ _ i j c (other _ _ i j c (one _ _ i j c (
        after _ i h.0.at j c h.0.mark r (λ r. ip_cut h.0.at j c ip h.0.item r))))))))))))))
    stmt_layer_cut whole i j c (Stmt-F.Attach own modvar ip span) h r =
        let a = h.0 in
        other _ _ i j c (other _ _ i j c (other _ _ i j c (other _ _ i j c (other _ _ i j c (other _ _ i j c (other _ _ i j c (other _ _ i j c (other _ _ i j c (other _ _ i j c (other _ _ i j c (other _ _ i j c (other _ _ i j c (one _ _ i j c (
        after _ i a.at j c a.word r (λ r.
        named _ own a.at a.mid j c a.own r (λ r.
        after _ a.mid a.after j c a.to r (λ r.
        named _ modvar a.after a.lower.mid j c a.lower.first r (λ r.
        after _ a.lower.mid a.lower.at j c a.lower.mark r (λ r.
        name_cut a.lower.at j c ip a.lower.second r)))))))))))))))))))
    stmt_layer_cut whole i j c (Stmt-F.Detach own span) h r =
        other _ _ i j c (other _ _ i j c (other _ _ i j c (other _ _ i j c (other _ _ i j c (other _ _ i j c (other _ _ i j c (other _ _ i j c (other _ _ i j c (other _ _ i j c (other _ _ i j c (other _ _ i j c (other _ _ i j c (other _ _ i j c (one _ _ i j c (
        after _ i h.0.at j c h.0.mark r (λ r. name_cut h.0.at j c own h.0.item r))))))))))))))))
    stmt_layer_cut whole i j c (Stmt-F.Output ip interaction args span) h r =
        let a = h.0 in
        other _ _ i j c (other _ _ i j c (other _ _ i j c (other _ _ i j c (other _ _ i j c (other _ _ i j c (other _ _ i j c (other _ _ i j c (other _ _ i j c (other _ _ i j c (other _ _ i j c (other _ _ i j c (other _ _ i j c (other _ _ i j c (other _ _ i j c (
        after _ i a.at j c a.word r (λ r.
        named _ ip a.at a.names.mid j c a.names.first r (λ r.
        after _ a.names.mid a.names.at j c a.names.mark r (λ r.
        named _ interaction a.names.at a.mid j c a.names.second r (λ r.
        may_be_args_cut args a.mid j c a.args r)))))))))))))))))))

pub stmt_below_cut : (room : ℕ) (whole : Bool) → Cut (StmtBelow room whole) (BeginsStmtBelow room)
stmt_below_cut zero whole i j c s h r = absurd h
stmt_below_cut (suc room) whole i j c s h r = stmt_layer_cut room (StmtBelow room) (BeginsStmtBelow room) (λ whole i j c s h r. stmt_below_cut room whole i j c s h r) whole i j c (out-Stmt s) h r

pub stmts_cut : (room : ℕ) → Cut (IsStmts room) (BeginsStmts room)
stmts_cut room = stmts_of_cut (StmtBelow (suc room) false) (BeginsStmtBelow (suc room)) (stmt_below_cut (suc room) false)
