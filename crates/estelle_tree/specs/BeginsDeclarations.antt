-- Which pieces begin definitions and routines.
use Rattle.std.specs.Prelude.{ℕ, false}
use Rattle.estelle_tree.specs.declared.kind.Kind.TheVariants as k
use Rattle.estelle_tree.specs.Types.{IsNames, IsType}
use Rattle.estelle_tree.specs.Statements.{StmtsOf, StmtBelow}
use Rattle.estelle_tree.specs.Declarations.{IsConstDef, IsFormal, AreFormals, IsTypeDef, AreVars, IsBlockDecl}
use Rattle.estelle_tree.specs.Beginning.{Beginning, Nothing, ◌or◌, Then, After, OneToken, Opens, MayBe, May, Many, Separating, Lining}
use Rattle.estelle_tree.specs.BeginsTypes.{BeginsName, BeginsNames, BeginsConst, BeginTyped, BeginsType}
use Rattle.estelle_tree.specs.BeginsStatements.{BeginStmts, BeginsStmtBelow}

-- `NAME "=" Const`
abbrev pub BeginsConstDef : Beginning
BeginsConstDef = After k.Name (After k.Equal BeginsConst)

-- Formal = [var] Names ":" NAME
abbrev pub BeginsFormal : Beginning
BeginsFormal = MayBe k.Var (Then BeginsNames IsNames (After k.Colon BeginsName))

-- Formals = "(" Formal {";" Formal} ")"
abbrev pub BeginFormals : Beginning
BeginFormals = After k.OpenParenthesis (Separating k.Semicolon BeginsFormal IsFormal (OneToken k.CloseParenthesis))

-- Where this many more levels of nesting may open.
module _ (room : ℕ) where
  -- `NAME "=" Type`
  abbrev pub BeginsTypeDef : Beginning
  BeginsTypeDef = After k.Name (After k.Equal (BeginsType room))

  -- `Names ":" Type`
  abbrev pub BeginVars : Beginning
  BeginVars = BeginTyped (IsType room) (BeginsType room)

  -- BlockDecl = const {NAME "=" Const ";"}+ | type {NAME "=" Type ";"}+ | var {Names ":" Type ";"}+
  abbrev pub BeginsBlockDecl : Beginning
  BeginsBlockDecl =
      After k.Const (Lining BeginsConstDef IsConstDef Nothing)
      or After k.Type (Lining BeginsTypeDef (IsTypeDef room) Nothing)
      or After k.Var (Lining BeginVars (AreVars room) Nothing)

  -- `begin Stmts end ";"`
  abbrev pub BeginsStatementPart : Beginning
  BeginsStatementPart =
      Opens room k.Begin (Then (BeginStmts (StmtBelow room false) (BeginsStmtBelow room)) (StmtsOf (StmtBelow room false)) (After k.End (OneToken k.Semicolon)))

  -- Routine = procedure NAME [Formals] ";" {BlockDecl} begin Stmts end ";"
  --         | function NAME [Formals] ":" NAME ";" {BlockDecl} begin Stmts end ";"
  abbrev pub BeginsRoutine : Beginning
  BeginsRoutine =
      After k.Procedure (After k.Name (May BeginFormals AreFormals rest))
      or After k.Function (After k.Name (May BeginFormals AreFormals (After k.Colon (After k.Name rest))))
    where
      rest : Beginning
      rest = After k.Semicolon (Many BeginsBlockDecl (IsBlockDecl room) BeginsStatementPart)
