-- Which pieces begin a statement.
use Rattle.std.specs.Prelude.{ℕ, zero, suc, Bool, true, false}
use Rattle.estelle_tree.specs.declared.kind.Kind.TheVariants as k
use Rattle.estelle_tree.specs.declared.tree.statement.Stmt.{Stmt}
use Rattle.estelle_tree.specs.Spelling.{Spelling}
use Rattle.estelle_tree.specs.Types.{IsConst}
use Rattle.estelle_tree.specs.Expressions.{IsArgs, IsVariable, ExprBelow}
use Rattle.estelle_tree.specs.Statements.{IsIp, of_direction, StmtsOf, CaseOf, StmtBelow}
use Rattle.estelle_tree.specs.Beginning.{Beginning, Nothing, ◌or◌, Then, After, AfterOne, OneToken, Opens, MayBe, Separating}
use Rattle.estelle_tree.specs.BeginsTypes.{BeginsName, BeginsConst}
use Rattle.estelle_tree.specs.BeginsExpressions.{BeginsExprBelow, BeginsExpr, BeginsArgs, BeginsVariable}

-- Ip = NAME ["." NAME]
abbrev pub BeginsIp : Beginning
BeginsIp = After k.Name (After k.Dot BeginsName)

-- Stmts = Stmt {";" Stmt}, over what the statements in it spell and what begins them
abbrev pub BeginStmts : Spelling Stmt → Beginning → Beginning
BeginStmts S B = Separating k.Semicolon B S Nothing

-- Case = Const {"," Const} ":" Stmt
abbrev pub BeginCase : Beginning → Beginning
BeginCase B = Separating k.Comma BeginsConst IsConst (After k.Colon B)

-- Where this many more levels of nesting may open.
module _ (room : ℕ) where
  -- `["(" Args ")"]`
  abbrev pub BeginsMayBeArgs : Beginning
  BeginsMayBeArgs = After k.OpenParenthesis (Then (BeginsArgs room) (IsArgs room) (OneToken k.CloseParenthesis))

  -- Over what the statements one level down spell, with `true` the whole ones, and what begins them.
  module _ (S : Bool → Spelling Stmt) (B : Beginning) where
    abbrev pub WithExpr : Beginning → Beginning
    WithExpr next = Then (BeginsExprBelow room) (ExprBelow room) next

    -- an `else` belongs to the nearest `if` that can take it: what stands before it is whole
    abbrev pub BeginsStmtLayer : Beginning
    BeginsStmtLayer =
        Nothing
        or Then (BeginsVariable room) (IsVariable room) (After k.Becomes (BeginsExpr room))
        or After k.Name BeginsMayBeArgs
        or Opens room k.Begin (Then (BeginStmts (S false) B) (StmtsOf (S false)) (OneToken k.End))
        or Opens room k.If (WithExpr (After k.Then (Then B (S true) (After k.Else B))))
        or Opens room k.While (WithExpr (After k.Do B))
        or Opens room k.Repeat (Then (BeginStmts (S false) B) (StmtsOf (S false)) (After k.Until (BeginsExprBelow room)))
        or Opens room k.For (After k.Name (After k.Becomes (WithExpr (AfterOne of_direction (WithExpr (After k.Do B))))))
        or Opens room k.Case (WithExpr (After k.Of (Separating k.Semicolon (BeginCase B) (CaseOf (S false)) (MayBe k.Semicolon (OneToken k.End)))))
        or After k.Init (After k.Name (After k.With (After k.Name BeginsMayBeArgs)))
        or After k.Release BeginsName
        or After k.Connect (Then BeginsIp IsIp (After k.To BeginsIp))
        or After k.Disconnect BeginsIp
        or After k.Attach (After k.Name (After k.To (After k.Name (After k.Dot BeginsName))))
        or After k.Detach BeginsName
        or After k.Output (After k.Name (After k.Dot (After k.Name BeginsMayBeArgs)))

-- one level down from where this many levels may open
abbrev pub BeginsStmtBelow : ℕ → Beginning
BeginsStmtBelow zero i j = Nothing i j
BeginsStmtBelow (suc room) i j = BeginsStmtLayer room (StmtBelow room) (BeginsStmtBelow room) i j

-- where this many more levels of nesting may open
abbrev pub BeginsStmts : ℕ → Beginning
BeginsStmts room = BeginStmts (StmtBelow (suc room) false) (BeginsStmtBelow (suc room))
