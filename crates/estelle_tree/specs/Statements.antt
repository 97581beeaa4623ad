-- Which tokens a statement spells.
use Rattle.std.specs.Prelude.{◌≡◌, ℕ, zero, suc, ◌<◌, Bool, true, false, List, Option, Some, None}
use Rattle.estelle_tree.specs.declared.kind.Kind.{Kind}
use Rattle.estelle_tree.specs.declared.kind.Kind.TheVariants as k
use Rattle.estelle_tree.specs.declared.tree.name.Name.{Name}
use Rattle.estelle_tree.specs.declared.tree.expression.Expr.{Expr}
use Rattle.estelle_tree.specs.declared.tree.expression.Args.{Args}
use Rattle.estelle_tree.specs.declared.tree.statement.Direction.{Direction}
use Rattle.estelle_tree.specs.declared.tree.statement.Direction.TheVariants as direction
use Rattle.estelle_tree.specs.declared.tree.statement.Ip.{Ip}
use Rattle.estelle_tree.specs.declared.tree.statement.Stmt.{Stmt, out-Stmt}
use Rattle.estelle_tree.specs.declared.tree.statement.Stmt.TheOpen.{Stmt-F}
use Rattle.estelle_tree.specs.declared.tree.statement.Stmts.{Stmts, out-Stmts}
use Rattle.estelle_tree.specs.declared.tree.statement.Case.{Case, out-Case}
use Rattle.estelle_tree.specs.Input.{Input, between, over}
use Rattle.estelle_tree.specs.Spans.{StmtLayer}
use Rattle.estelle_tree.specs.Spelling.{Spelling, Takes, Flag, Optional, Behind, Joined, Separated, Enclosed, Never}
use Rattle.estelle_tree.specs.Types.{IsName, IsConst}
use Rattle.estelle_tree.specs.Expressions.{IsExpr, IsArgs, IsVariable, ExprBelow}

-- Ip = NAME ["." NAME]
pub record IsIp (p : Ip) (i j : Input) : Type 0 where
  pub mid : Input
  pub name : IsName p.name i mid
  pub part : Optional (Behind k.Dot IsName) p.part mid j
  pub span : p.span ≡ between i j

-- Where this many more levels of nesting may open: the parentheses round these arguments open none.
module _ (room : ℕ) where
  -- `["(" Args ")"]`
  abbrev pub MayBeArgs : Spelling (Option Args)
  MayBeArgs = Optional (Enclosed k.OpenParenthesis k.CloseParenthesis (IsArgs room))

  -- `NAME ["(" Args ")"]`
  pub record IsCall (n : Name) (a : Option Args) (i j : Input) : Type 0 where
    pub mid : Input
    pub name : IsName n i mid
    pub args : MayBeArgs a mid j

  -- `init NAME with NAME ["(" Args ")"]`
  pub record IsInit (m b : Name) (a : Option Args) (i j : Input) : Type 0 where
    pub at : Input
    pub mid : Input
    pub word : Takes k.Init i at
    pub names : Joined k.With IsName IsName m b at mid
    pub args : MayBeArgs a mid j

  -- `output NAME "." NAME ["(" Args ")"]`
  pub record IsOutput (p n : Name) (a : Option Args) (i j : Input) : Type 0 where
    pub at : Input
    pub mid : Input
    pub word : Takes k.Output i at
    pub names : Joined k.Dot IsName IsName p n at mid
    pub args : MayBeArgs a mid j

-- `connect Ip to Ip`
pub record IsConnect (p q : Ip) (i j : Input) : Type 0 where
  pub at : Input
  pub word : Takes k.Connect i at
  pub ips : Joined k.To IsIp IsIp p q at j

-- `attach NAME to NAME "." NAME`
pub record IsAttach (o m p : Name) (i j : Input) : Type 0 where
  pub at : Input
  pub mid : Input
  pub after : Input
  pub word : Takes k.Attach i at
  pub own : IsName o at mid
  pub to : Takes k.To mid after
  pub lower : Joined k.Dot IsName IsName m p after j

abbrev pub of_direction : Direction → Kind
of_direction direction.To = k.To
of_direction direction.Downto = k.Downto

-- Stmts = Stmt {";" Stmt}, over what the statements in it spell
pub record StmtsOf (S : Spelling Stmt) (ss : Stmts) (i j : Input) : Type 0 where
  pub stmts : Separated k.Semicolon S (out-Stmts ss).stmts i j
  pub span : (out-Stmts ss).span ≡ over i j

-- Case = Const {"," Const} ":" Stmt, over what the statement in it spells
pub record CaseOf (S : Spelling Stmt) (c : Case) (i j : Input) : Type 0 where
  pub parts : Joined k.Colon (Separated k.Comma IsConst) S (out-Case c).labels (out-Case c).body i j
  pub span : (out-Case c).span ≡ between i j

-- Where this many more levels of nesting may open, and over what the statements one level down spell:
-- with `true` the whole ones. A statement is whole where no `if` at its end can still take an `else`.
module _ (room : ℕ) (S : Bool → Spelling Stmt) where
  -- `if Expr then Stmt [else Stmt]`: an `else` belongs to the nearest `if` that can take it, so that
  -- what stands before it is whole
  pub record IsIf (whole : Bool) (e : Expr) (s : Stmt) (i j : Input) : Type 0 where
    pub at : Input
    pub mid : Input
    pub word : Takes k.If i at
    pub condition : ExprBelow room e at mid
    pub then_part : Behind k.Then (S whole) s mid j

  abbrev pub IsChoice : Bool → Expr → Stmt → Option Stmt → Input → Input → Type 0
  IsChoice whole e s None i j = (whole ≡ false) × IsIf false e s i j
  IsChoice whole e s (Some t) i j = (m : Input) × IsIf true e s i m × Behind k.Else (S whole) t m j

  -- `while Expr do Stmt`
  pub record IsWhile (whole : Bool) (e : Expr) (s : Stmt) (i j : Input) : Type 0 where
    pub at : Input
    pub mid : Input
    pub word : Takes k.While i at
    pub condition : ExprBelow room e at mid
    pub body : Behind k.Do (S whole) s mid j

  -- `repeat Stmts until Expr`
  pub record IsRepeat (ss : Stmts) (e : Expr) (i j : Input) : Type 0 where
    pub mid : Input
    pub stmts : Enclosed k.Repeat k.Until (StmtsOf (S false)) ss i mid
    pub condition : ExprBelow room e mid j

  -- `for NAME ":=" Expr (to | downto) Expr do Stmt`
  pub record IsCount (whole : Bool) (n : Name) (e : Expr) (d : Direction) (f : Expr) (s : Stmt) (i j : Input) : Type 0 where
    pub at : Input
    pub mid : Input
    pub after : Input
    pub word : Takes k.For i at
    pub start : Joined k.Becomes IsName (ExprBelow room) n e at mid
    pub last : Behind (of_direction d) (ExprBelow room) f mid after
    pub body : Behind k.Do (S whole) s after j

  -- `case Expr of Case {";" Case} [";"] end`
  pub record IsCase (e : Expr) (cs : List Case) (is_ended : Bool) (i j : Input) : Type 0 where
    pub at : Input
    pub mid : Input
    pub after : Input
    pub word : Takes k.Case i at
    pub parts : Joined k.Of (ExprBelow room) (Separated k.Semicolon (CaseOf (S false))) e cs at mid
    pub semicolon : Flag k.Semicolon is_ended mid after
    pub ends : Takes k.End after j

  abbrev pub IsStmtLayer : Bool → Spelling StmtLayer
  IsStmtLayer whole Stmt-F.Empty i j = i ≡ j
  IsStmtLayer whole (Stmt-F.Assign variable value span) i j = Joined k.Becomes (IsVariable room) (IsExpr room) variable value i j × (span ≡ between i j)
  IsStmtLayer whole (Stmt-F.Call name args span) i j = IsCall room name args i j × (span ≡ between i j)
  IsStmtLayer whole (Stmt-F.Begin stmts span) i j = (0 < room) × Enclosed k.Begin k.End (StmtsOf (S false)) stmts i j × (span ≡ between i j)
  IsStmtLayer whole (Stmt-F.If condition then_part else_part span) i j = (0 < room) × IsChoice whole condition then_part else_part i j × (span ≡ between i j)
  IsStmtLayer whole (Stmt-F.While condition body span) i j = (0 < room) × IsWhile whole condition body i j × (span ≡ between i j)
  IsStmtLayer whole (Stmt-F.Repeat stmts condition span) i j = (0 < room) × IsRepeat stmts condition i j × (span ≡ between i j)
  IsStmtLayer whole (Stmt-F.Count variable first direction last body span) i j = (0 < room) × IsCount whole variable first direction last body i j × (span ≡ between i j)
  IsStmtLayer whole (Stmt-F.Case selector cases semicolon span) i j = (0 < room) × IsCase selector cases semicolon i j × (span ≡ between i j)
  IsStmtLayer whole (Stmt-F.Init modvar body args span) i j = IsInit room modvar body args i j × (span ≡ between i j)
  IsStmtLayer whole (Stmt-F.Release modvar span) i j = Behind k.Release IsName modvar i j × (span ≡ between i j)
  IsStmtLayer whole (Stmt-F.Connect first second span) i j = IsConnect first second i j × (span ≡ between i j)
  IsStmtLayer whole (Stmt-F.Disconnect ip span) i j = Behind k.Disconnect IsIp ip i j × (span ≡ between i j)
  IsStmtLayer whole (Stmt-F.Attach own modvar ip span) i j = IsAttach own modvar ip i j × (span ≡ between i j)
  IsStmtLayer whole (Stmt-F.Detach own span) i j = Behind k.Detach IsName own i j × (span ≡ between i j)
  IsStmtLayer whole (Stmt-F.Output ip interaction args span) i j = IsOutput room ip interaction args i j × (span ≡ between i j)

-- one level down from where this many levels may open: nothing, where none may
abbrev pub StmtBelow : ℕ → Bool → Spelling Stmt
StmtBelow zero whole s = Never s
StmtBelow (suc room) whole s = IsStmtLayer room (StmtBelow room) whole (out-Stmt s)

-- where this many more levels of nesting may open
abbrev pub IsStmt : ℕ → Spelling Stmt
IsStmt room = StmtBelow (suc room) false

abbrev pub IsStmts : ℕ → Spelling Stmts
IsStmts room = StmtsOf (IsStmt room)
