-- Statements, blocks, clauses and groups of clauses at the front of a list of tokens.
use Rattle.std.proofs.Common.{◌≡◌, ℕ, suc, true, false, List, [], ◌∷◌, Some, None, refl, sym, ap, subst, ◌∙◌, inr, arith}
use Rattle.estelle_tree.specs.declared.kind.Kind.{Kind}
use Rattle.estelle_tree.specs.declared.kind.Kind.TheVariants as k
use Rattle.estelle_tree.specs.declared.tree.statement.Stmt.{Stmt, out-Stmt, roll-Stmt}
use Rattle.estelle_tree.specs.declared.tree.statement.Stmt.TheOpen.{Stmt-F, Stmts-F}
use Rattle.estelle_tree.specs.declared.tree.statement.Stmt.TheViews.{out-roll-Stmt}
use Rattle.estelle_tree.specs.declared.tree.statement.Stmts.{Stmts, roll-Stmts}
use Rattle.estelle_tree.specs.declared.tree.statement.Case.{Case}
use Rattle.estelle_tree.specs.declared.tree.clause.Clause.{Clause}
use Rattle.estelle_tree.specs.declared.tree.clause.Clause.TheVariants as clause
use Rattle.estelle_tree.specs.declared.tree.clause.NextState.TheVariants as next_state
use Rattle.estelle_tree.specs.declared.tree.clause.TransBody.{TransBody, out-TransBody, roll-TransBody}
use Rattle.estelle_tree.specs.declared.tree.clause.TransBody.TheOpen.{TransBody-F, Group-F}
use Rattle.estelle_tree.specs.declared.tree.clause.TransBody.TheViews.{out-roll-TransBody}
use Rattle.estelle_tree.specs.declared.tree.clause.Group.{Group, out-Group, roll-Group}
use Rattle.estelle_tree.specs.Kind.{kind_of_word}
use Rattle.estelle_tree.specs.Input.{between, over}
use Rattle.estelle_tree.specs.Spelling.{Spelling, Chain, Ended, Enclosed}
use Rattle.estelle_tree.specs.Types.{IsName, IsNames}
use Rattle.estelle_tree.specs.Expressions.{IsExpr, IsArgs, IsVariable}
use Rattle.estelle_tree.specs.Statements.{IsIp, StmtsOf, IsStmtLayer, StmtBelow}
use Rattle.estelle_tree.specs.Clauses.{IsBlock, IsClause, of_clause, stands, TransBodyOf, TransBodyLayerOf, GroupWithin}
use Rattle.estelle_printer.specs.Forms.{Tokens}
use Rattle.estelle_printer.specs.Terminals.{terminal}
use Rattle.spec_maker.proofs.Standing.{from, Stands, takes, ended, enclosed, Both, none, separated, rolled}

-- ---- statements, where one more level of nesting is open

module _ (room : ℕ) where
  statement : {ts us : Tokens} → Stands (IsStmtLayer room (StmtBelow room) false) ts us → Stands (StmtBelow (suc room) false) ts us
  statement p = rolled (IsStmtLayer room (StmtBelow room) false) out-Stmt roll-Stmt out-roll-Stmt p

  pub assign : {ts us : Tokens} → Stands (Both k.Becomes (IsVariable room) (IsExpr room)) ts us → Stands (StmtBelow (suc room) false) ts us
  assign {ts} {us} p = statement (record { thing = Stmt-F.Assign p.thing.0 p.thing.1 (between (from ts) (from us)); is = (p.is, refl) })

  pub output : {ts vs us : Tokens} → Stands (Both k.Dot IsName IsName) ts vs → Stands (Enclosed k.OpenParenthesis k.CloseParenthesis (IsArgs room)) vs us → Stands (StmtBelow (suc room) false) (terminal k.Output ∷ ts) us
  unfolding kind_of_word
  output {ts} {vs} {us} p a = statement (record {
    thing = Stmt-F.Output p.thing.0 p.thing.1 (Some a.thing) (between (from (terminal k.Output ∷ ts)) (from us));
    is = (record { at = from ts; mid = from vs; word = takes k.Output ts refl; names = p.is; args = a.is }, refl);
  })

  pub init : {ts vs us : Tokens} → Stands (Both k.With IsName IsName) ts vs → Stands (Enclosed k.OpenParenthesis k.CloseParenthesis (IsArgs room)) vs us → Stands (StmtBelow (suc room) false) (terminal k.Init ∷ ts) us
  unfolding kind_of_word
  init {ts} {vs} {us} p a = statement (record {
    thing = Stmt-F.Init p.thing.0 p.thing.1 (Some a.thing) (between (from (terminal k.Init ∷ ts)) (from us));
    is = (record { at = from ts; mid = from vs; word = takes k.Init ts refl; names = p.is; args = a.is }, refl);
  })

  pub connect : {ts us : Tokens} → Stands (Both k.To IsIp IsIp) ts us → Stands (StmtBelow (suc room) false) (terminal k.Connect ∷ ts) us
  unfolding kind_of_word
  connect {ts} {us} p = statement (record {
    thing = Stmt-F.Connect p.thing.0 p.thing.1 (between (from (terminal k.Connect ∷ ts)) (from us));
    is = (record { at = from ts; word = takes k.Connect ts refl; ips = p.is }, refl);
  })

  -- statements that each have a semicolon behind them, and a last one
  pub statements : {ts vs us : Tokens} → Stands (Chain (Ended k.Semicolon (StmtBelow (suc room) false))) ts vs → Stands (StmtBelow (suc room) false) vs us → Stands (StmtsOf (StmtBelow (suc room) false)) ts us
  statements {ts} {us = us} p q =
      let all = separated (StmtBelow (suc room) false) k.Semicolon p q in
      let l : Stmts-F Stmt Case Stmts = record { stmts = all.thing; span = over (from ts) (from us) } in
      record { thing = roll-Stmts l; is = record { stmts = all.is; span = refl } }

  pub one_statement : {ts us : Tokens} → Stands (StmtBelow (suc room) false) ts us → Stands (StmtsOf (StmtBelow (suc room) false)) ts us
  one_statement p = statements (none (Ended k.Semicolon (StmtBelow (suc room) false))) p

  -- begin Stmts end ";"
  pub block : {ts us : Tokens} → Stands (StmtsOf (StmtBelow (suc room) false)) ts (terminal k.End ∷ terminal k.Semicolon ∷ us) → Stands (IsBlock (suc room)) (terminal k.Begin ∷ ts) us
  unfolding kind_of_word
  block {ts} {us} p =
      let body = ended k.Semicolon refl (enclosed k.Begin k.End refl refl p) in
      let here = from (terminal k.Begin ∷ ts) in
      record {
        thing = record { label = None; decls = []; late_label = None; body = body.thing; span = between here (from us) };
        is = record {
          after_label = here;
          after_decls = here;
          after_late = here;
          labelled = tt;
          label = refl;
          decls = refl;
          late_label = refl;
          body = record { fits = omega arith; stmts = body.is };
          span = refl;
        };
      }

-- ---- clauses, where this many more levels of nesting may open

module _ (room : ℕ) where
  -- a clause of this kind
  abbrev pub ClauseOf : Kind → Spelling Clause
  ClauseOf kind c i j = IsClause room c i j × (of_clause c ≡ kind)

  pub from_clause : {ts us : Tokens} → Stands IsNames ts us → Stands (ClauseOf k.From) (terminal k.From ∷ ts) us
  unfolding kind_of_word
  from_clause {ts} {us} n = record {
    thing = clause.From n.thing (between (from (terminal k.From ∷ ts)) (from us));
    is = ((record { at = from ts; mark = takes k.From ts refl; item = n.is }, refl), refl);
  }

  pub to_clause : {ts us : Tokens} → Stands IsName ts us → Stands (ClauseOf k.To) (terminal k.To ∷ ts) us
  unfolding kind_of_word
  to_clause {ts} {us} n = record {
    thing = clause.To (next_state.Name n.thing) (between (from (terminal k.To ∷ ts)) (from us));
    is = ((record { at = from ts; mark = takes k.To ts refl; item = n.is }, refl), refl);
  }

  pub when_clause : {ts us : Tokens} → Stands (Both k.Dot IsName IsName) ts us → Stands (ClauseOf k.When) (terminal k.When ∷ ts) us
  unfolding kind_of_word
  when_clause {ts} {us} p = record {
    thing = clause.When p.thing.0 p.thing.1 None (between (from (terminal k.When ∷ ts)) (from us));
    is = ((record { at = from ts; mid = from us; word = takes k.When ts refl; names = p.is; params = refl }, refl), refl);
  }

  -- ---- groups

  -- behind a way, where this many more clauses may stand on it, a group whose clause has this kind
  abbrev pub GroupOn : ℕ → List Kind → Kind → Spelling Group
  GroupOn n way kind g i j = GroupWithin room n way g i j × (of_clause (out-Group g).clause ≡ kind)

  abbrev pub BodyOn : ℕ → List Kind → Spelling TransBody
  BodyOn n = TransBodyOf room (GroupWithin room n)

  pub block_alone : {ts us : Tokens} (n : ℕ) (way : List Kind) → Stands (IsBlock room) ts us → Stands (BodyOn n way) ts us
  block_alone n way b = rolled (TransBodyLayerOf room (GroupWithin room n) way) out-TransBody roll-TransBody out-roll-TransBody (record { thing = TransBody-F.Block b.thing; is = b.is })

  pub group_alone : {ts us : Tokens} (n : ℕ) (way : List Kind) (kind : Kind) → Stands (GroupOn n way kind) ts us → Stands (BodyOn n way) ts us
  group_alone {ts} {us} n way kind g = rolled (TransBodyLayerOf room (GroupWithin room n) way) out-TransBody roll-TransBody out-roll-TransBody (record {
    thing = TransBody-F.Groups (g.thing ∷ []) (between (from ts) (from us));
    is = ((from us, g.is.0, refl), refl);
  })

  -- the kind of the second one's clause stands on the way of the first
  pub two_groups : {ts vs us : Tokens} (n : ℕ) (way : List Kind) (one other : Kind) → stands other (one ∷ way) ≡ true → Stands (GroupOn n way one) ts vs → Stands (GroupOn n way other) vs us → Stands (BodyOn n way) ts us
  two_groups {ts} {vs} {us} n way one other on g h = rolled (TransBodyLayerOf room (GroupWithin room n) way) out-TransBody roll-TransBody out-roll-TransBody (record {
    thing = TransBody-F.Groups (g.thing ∷ h.thing ∷ []) (between (from ts) (from us));
    is = ((from vs, g.is.0, (inr (ap (λ a. stands a (of_clause (out-Group g.thing).clause ∷ way)) h.is.1 ∙ ap (λ a. stands other (a ∷ way)) g.is.1 ∙ on), (from us, h.is.0, refl))), refl);
  })

  pub group : {ts vs us : Tokens} (n : ℕ) (way : List Kind) (kind : Kind) → stands kind way ≡ false → Stands (ClauseOf kind) ts vs → Stands (BodyOn n (kind ∷ way)) vs us → Stands (GroupOn (suc n) way kind) ts us
  group {ts} {vs} {us} n way kind fresh c b =
      let l : Group-F TransBody Group = record { clause = c.thing; body = b.thing; span = between (from ts) (from us) } in
      let same : of_clause c.thing ≡ kind = c.is.1 in
      record {
        thing = roll-Group l;
        is = (
          record {
            mid = from vs;
            fresh = ap (λ a. stands a way) same ∙ fresh;
            clause = c.is.0;
            body = subst (λ a. BodyOn n (a ∷ way) b.thing (from vs) (from us)) (sym same) b.is;
            span = refl;
          },
          same,
        );
      }
