-- Statements without their spans, where tokens have no places.
use Rattle.std.proofs.Common.{ℕ, zero, suc, Bool, true, false, map, Some, None, sym, subst}
use Rattle.std.specs.Option.{option_map}
use Rattle.estelle_tree.specs.declared.kind.Kind.TheVariants as k
use Rattle.estelle_tree.specs.declared.tree.expression.Expr.{Expr}
use Rattle.estelle_tree.specs.declared.tree.statement.Stmt.{Stmt, out-Stmt, roll-Stmt}
use Rattle.estelle_tree.specs.declared.tree.statement.Stmt.TheOpen.{Stmt-F}
use Rattle.estelle_tree.specs.declared.tree.statement.Stmt.TheViews.{out-roll-Stmt}
use Rattle.estelle_tree.specs.declared.tree.statement.Stmts.{out-Stmts}
use Rattle.estelle_tree.specs.declared.tree.statement.Case.{out-Case}
use Rattle.estelle_tree.specs.Input.{Input}
use Rattle.estelle_tree.specs.Spans.{StmtLayer, nowhere}
use Rattle.estelle_tree.specs.Spelling.{Spelling, Separated, Enclosed, Behind}
use Rattle.estelle_tree.specs.Types.{IsName, IsConst}
use Rattle.estelle_tree.specs.Expressions.{ExprBelow, IsExpr, IsArgs, IsVariable}
use Rattle.estelle_tree.specs.Statements.{IsIp, MayBeArgs, of_direction, StmtsOf, CaseOf, IsIf, IsStmtLayer, StmtBelow}
use Rattle.round_trip.specs.Types.{bare_name, bare_const}
use Rattle.round_trip.specs.Expressions.{bare_args, bare_expr, bare_variable}
use Rattle.round_trip.specs.Statements.{bare_ip, bare_stmt, bare_case, bare_stmts}
use Rattle.round_trip.proofs.StatementMoves.{layer_of_stmt, stmt_opened, case_opened, stmts_opened}
use Rattle.round_trip.proofs.PlainForms.{plain, Plain, nothing, no_span, no_span_over, takes, flag, optional, behind, enclosed, separated, joined, rolling}
use Rattle.round_trip.proofs.PlainTypes.{plain_name, plain_const}
use Rattle.round_trip.proofs.PlainExpressions.{plain_expr_below, plain_expr, plain_args, plain_variable}

pub plain_ip : Plain IsIp bare_ip
plain_ip x i j h = record {
  mid = plain h.mid;
  name = plain_name x.name i h.mid h.name;
  part = optional (Behind k.Dot IsName) bare_name (behind IsName bare_name plain_name k.Dot) x.part h.mid j h.part;
  span = no_span i j;
}

plain_may_be_args : (room : ℕ) → Plain (MayBeArgs room) (option_map bare_args)
plain_may_be_args room = optional (Enclosed k.OpenParenthesis k.CloseParenthesis (IsArgs room)) bare_args (enclosed (IsArgs room) bare_args (plain_args room) k.OpenParenthesis k.CloseParenthesis)

pub plain_stmts_of : (S : Spelling Stmt) → Plain S bare_stmt → Plain (StmtsOf S) bare_stmts
plain_stmts_of S plainly x i j h = subst (λ y. StmtsOf S y (plain i) (plain j)) (sym (stmts_opened x)) (record {
  stmts = separated S bare_stmt plainly k.Semicolon (out-Stmts x).stmts i j h.stmts;
  span = no_span_over i j;
})

plain_case : (S : Spelling Stmt) → Plain S bare_stmt → Plain (CaseOf S) bare_case
plain_case S plainly x i j h = subst (λ y. CaseOf S y (plain i) (plain j)) (sym (case_opened x)) (record {
  parts = joined k.Colon (Separated k.Comma IsConst) S (map bare_const) bare_stmt (separated IsConst bare_const plain_const k.Comma) plainly (out-Case x).labels (out-Case x).body h.parts;
  span = no_span i j;
})

module _ (room : ℕ) (S : Bool → Spelling Stmt) (plainly : (whole : Bool) → Plain (S whole) bare_stmt) where
  plain_if : (whole : Bool) (e : Expr) (x : Stmt) (i j : Input) → IsIf room S whole e x i j → IsIf room S whole (bare_expr e) (bare_stmt x) (plain i) (plain j)
  plain_if whole e x i j h = record {
    at = plain h.at;
    mid = plain h.mid;
    word = takes h.word;
    condition = plain_expr_below room e h.at h.mid h.condition;
    then_part = behind (S whole) bare_stmt (plainly whole) k.Then x h.mid j h.then_part;
  }

  put : (whole : Bool) (l : StmtLayer) (i j : Input) → IsStmtLayer room S whole l i j → IsStmtLayer room S whole (out-Stmt (roll-Stmt l)) i j
  put whole l i j h = subst (λ l. IsStmtLayer room S whole l i j) (sym (out-roll-Stmt l)) h

  plain_layer : (whole : Bool) (l : StmtLayer) (i j : Input) → IsStmtLayer room S whole l i j → IsStmtLayer room S whole (out-Stmt (layer_of_stmt l)) (plain i) (plain j)
  plain_layer whole Stmt-F.Empty i j h = put whole Stmt-F.Empty _ _ (nothing h)
  plain_layer whole (Stmt-F.Assign variable value span) i j h = put whole (Stmt-F.Assign (bare_variable variable) (bare_expr value) nowhere) _ _ (
    joined k.Becomes (IsVariable room) (IsExpr room) bare_variable bare_expr (plain_variable room) (plain_expr room) variable value h.0,
    no_span i j,
  )
  plain_layer whole (Stmt-F.Call name args span) i j h = put whole (Stmt-F.Call (bare_name name) (option_map bare_args args) nowhere) _ _ (
    record { mid = plain h.0.mid; name = plain_name name i h.0.mid h.0.name; args = plain_may_be_args room args h.0.mid j h.0.args },
    no_span i j,
  )
  plain_layer whole (Stmt-F.Begin stmts span) i j h = put whole (Stmt-F.Begin (bare_stmts stmts) nowhere) _ _ (
    h.0,
    enclosed (StmtsOf (S false)) bare_stmts (plain_stmts_of (S false) (plainly false)) k.Begin k.End stmts i j h.1,
    no_span i j,
  )
  plain_layer whole (Stmt-F.If condition then_part None span) i j h = put whole (Stmt-F.If (bare_expr condition) (bare_stmt then_part) None nowhere) _ _ (
    h.0,
    (h.1.0, plain_if false condition then_part i j h.1.1),
    no_span i j,
  )
  plain_layer whole (Stmt-F.If condition then_part (Some other) span) i j h = put whole (Stmt-F.If (bare_expr condition) (bare_stmt then_part) (Some (bare_stmt other)) nowhere) _ _ (
    h.0,
    (plain h.1.0, plain_if true condition then_part i h.1.0 h.1.1, behind (S whole) bare_stmt (plainly whole) k.Else other h.1.0 j h.1.2),
    no_span i j,
  )
  plain_layer whole (Stmt-F.While condition body span) i j h =
      let a = h.1 in
      put whole (Stmt-F.While (bare_expr condition) (bare_stmt body) nowhere) _ _ (
        h.0,
        record {
          at = plain a.at;
          mid = plain a.mid;
          word = takes a.word;
          condition = plain_expr_below room condition a.at a.mid a.condition;
          body = behind (S whole) bare_stmt (plainly whole) k.Do body a.mid j a.body;
        },
        no_span i j,
      )
  plain_layer whole (Stmt-F.Repeat stmts condition span) i j h =
      let a = h.1 in
      put whole (Stmt-F.Repeat (bare_stmts stmts) (bare_expr condition) nowhere) _ _ (
        h.0,
        record {
          mid = plain a.mid;
          stmts = enclosed (StmtsOf (S false)) bare_stmts (plain_stmts_of (S false) (plainly false)) k.Repeat k.Until stmts i a.mid a.stmts;
          condition = plain_expr_below room condition a.mid j a.condition;
        },
        no_span i j,
      )
  plain_layer whole (Stmt-F.Count variable first direction last body span) i j h =
      let a = h.1 in
      put whole (Stmt-F.Count (bare_name variable) (bare_expr first) direction (bare_expr last) (bare_stmt body) nowhere) _ _ (
        h.0,
        record {
          at = plain a.at;
          mid = plain a.mid;
          after = plain a.after;
          word = takes a.word;
          start = joined k.Becomes IsName (ExprBelow room) bare_name bare_expr plain_name (plain_expr_below room) variable first a.start;
          last = behind (ExprBelow room) bare_expr (plain_expr_below room) (of_direction direction) last a.mid a.after a.last;
          body = behind (S whole) bare_stmt (plainly whole) k.Do body a.after j a.body;
        },
        no_span i j,
      )
  plain_layer whole (Stmt-F.Case selector cases semicolon span) i j h =
      let a = h.1 in
      put whole (Stmt-F.Case (bare_expr selector) (map bare_case cases) semicolon nowhere) _ _ (
        h.0,
        record {
          at = plain a.at;
          mid = plain a.mid;
          after = plain a.after;
          word = takes a.word;
          parts = joined k.Of (ExprBelow room) (Separated k.Semicolon (CaseOf (S false))) bare_expr (map bare_case) (plain_expr_below room) (separated (CaseOf (S false)) bare_case (plain_case (S false) (plainly false)) k.Semicolon) selector cases a.parts;
          semicolon = flag k.Semicolon semicolon _ _ a.semicolon;
          ends = takes a.ends;
        },
        no_span i j,
      )
  plain_layer whole (Stmt-F.Init modvar body args span) i j h =
      let a = h.0 in
      put whole (Stmt-F.Init (bare_name modvar) (bare_name body) (option_map bare_args args) nowhere) _ _ (
        record {
          at = plain a.at;
          mid = plain a.mid;
          word = takes a.word;
          names = joined k.With IsName IsName bare_name bare_name plain_name plain_name modvar body a.names;
          args = plain_may_be_args room args a.mid j a.args;
        },
        no_span i j,
      )
  plain_layer whole (Stmt-F.Release modvar span) i j h = put whole (Stmt-F.Release (bare_name modvar) nowhere) _ _ (behind IsName bare_name plain_name k.Release modvar i j h.0, no_span i j)
  plain_layer whole (Stmt-F.Connect first second span) i j h = put whole (Stmt-F.Connect (bare_ip first) (bare_ip second) nowhere) _ _ (
    record { at = plain h.0.at; word = takes h.0.word; ips = joined k.To IsIp IsIp bare_ip bare_ip plain_ip plain_ip first second h.0.ips },
    no_span i j,
  )
  plain_layer whole (Stmt-F.Disconnect ip span) i j h = put whole (Stmt-F.Disconnect (bare_ip ip) nowhere) _ _ (behind IsIp bare_ip plain_ip k.Disconnect ip i j h.0, no_span i j)
  plain_layer whole (Stmt-F.Attach own modvar ip span) i j h =
      let a = h.0 in
      put whole (Stmt-F.Attach (bare_name own) (bare_name modvar) (bare_name ip) nowhere) _ _ (
        record {
          at = plain a.at;
          mid = plain a.mid;
          after = plain a.after;
          word = takes a.word;
          own = plain_name own a.at a.mid a.own;
          to = takes a.to;
          lower = joined k.Dot IsName IsName bare_name bare_name plain_name plain_name modvar ip a.lower;
        },
        no_span i j,
      )
  plain_layer whole (Stmt-F.Detach own span) i j h = put whole (Stmt-F.Detach (bare_name own) nowhere) _ _ (behind IsName bare_name plain_name k.Detach own i j h.0, no_span i j)
  plain_layer whole (Stmt-F.Output ip interaction args span) i j h =
      let a = h.0 in
      put whole (Stmt-F.Output (bare_name ip) (bare_name interaction) (option_map bare_args args) nowhere) _ _ (
        record {
          at = plain a.at;
          mid = plain a.mid;
          word = takes a.word;
          names = joined k.Dot IsName IsName bare_name bare_name plain_name plain_name ip interaction a.names;
          args = plain_may_be_args room args a.mid j a.args;
        },
        no_span i j,
      )

pub plain_stmt_below : (room : ℕ) (whole : Bool) → Plain (StmtBelow room whole) bare_stmt
plain_stmt_below zero whole x i j h = absurd h
plain_stmt_below (suc room) whole x i j h =
    rolling (IsStmtLayer room (StmtBelow room) whole) layer_of_stmt out-Stmt bare_stmt stmt_opened
    (plain_layer room (StmtBelow room) (λ whole x i j h. plain_stmt_below room whole x i j h) whole) x i j h
