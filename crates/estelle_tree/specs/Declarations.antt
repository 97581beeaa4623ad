-- Which tokens definitions, routines and their parameters spell.
use Rattle.std.specs.Prelude.{◌≡◌, ℕ, ◌<◌, false}
use Rattle.estelle_tree.specs.declared.kind.Kind.{Kind}
use Rattle.estelle_tree.specs.declared.kind.Kind.TheVariants as k
use Rattle.estelle_tree.specs.declared.tree.type_expr.TypedNames.{TypedNames}
use Rattle.estelle_tree.specs.declared.tree.statement.Stmts.{Stmts}
use Rattle.estelle_tree.specs.declared.tree.declaration.ConstDef.{ConstDef}
use Rattle.estelle_tree.specs.declared.tree.declaration.TypeDef.{TypeDef}
use Rattle.estelle_tree.specs.declared.tree.declaration.BlockDecl.{BlockDecl}
use Rattle.estelle_tree.specs.declared.tree.declaration.BlockDecl.TheVariants as block_decl
use Rattle.estelle_tree.specs.declared.tree.declaration.Routine.{Routine}
use Rattle.estelle_tree.specs.declared.tree.declaration.RoutineForm.{RoutineForm}
use Rattle.estelle_tree.specs.declared.tree.declaration.RoutineForm.TheVariants as form
use Rattle.estelle_tree.specs.declared.tree.declaration.Formals.{Formals}
use Rattle.estelle_tree.specs.declared.tree.declaration.Formal.{Formal}
use Rattle.estelle_tree.specs.Input.{Input, between}
use Rattle.estelle_tree.specs.Spelling.{Spelling, Takes, Flag, Optional, Chain, Lines, Behind, Ended, Joined, Separated, Enclosed}
use Rattle.estelle_tree.specs.Types.{IsName, IsNames, IsConst, IsType, AreTyped}
use Rattle.estelle_tree.specs.Statements.{StmtsOf, StmtBelow}

-- `NAME "=" Const`
abbrev pub IsConstDef : Spelling ConstDef
IsConstDef d i j = Joined k.Equal IsName IsConst d.name d.value i j

-- Formal = [var] Names ":" NAME
pub record IsFormal (f : Formal) (i j : Input) : Type 0 where
  pub at : Input
  pub is_var : Flag k.Var f.is_var i at
  pub names : Joined k.Colon IsNames IsName f.names f.type_name at j
  pub span : f.span ≡ between i j

-- Formals = "(" Formal {";" Formal} ")"
pub record AreFormals (fs : Formals) (i j : Input) : Type 0 where
  pub formals : Enclosed k.OpenParenthesis k.CloseParenthesis (Separated k.Semicolon IsFormal) fs.formals i j
  pub span : fs.span ≡ between i j

-- Where this many more levels of nesting may open.
module _ (room : ℕ) where
  -- `NAME "=" Type`
  abbrev pub IsTypeDef : Spelling TypeDef
  IsTypeDef d i j = Joined k.Equal IsName (IsType room) d.name d.type_expr i j

  -- `Names ":" Type`
  abbrev pub AreVars : Spelling TypedNames
  AreVars = AreTyped (IsType room)

  -- BlockDecl = const {NAME "=" Const ";"}+ | type {NAME "=" Type ";"}+ | var {Names ":" Type ";"}+
  abbrev pub IsBlockDecl : Spelling BlockDecl
  IsBlockDecl (block_decl.Const defs span) i j = Behind k.Const (Lines IsConstDef) defs i j × (span ≡ between i j)
  IsBlockDecl (block_decl.Types defs span) i j = Behind k.Type (Lines IsTypeDef) defs i j × (span ≡ between i j)
  IsBlockDecl (block_decl.Var vars span) i j = Behind k.Var (Lines AreVars) vars i j × (span ≡ between i j)

  -- `begin Stmts end ";"`: the word `begin` opens a level
  pub record IsStatementPart (ss : Stmts) (i j : Input) : Type 0 where
    pub fits : 0 < room
    pub stmts : Ended k.Semicolon (Enclosed k.Begin k.End (StmtsOf (StmtBelow room false))) ss i j

  abbrev pub of_form : RoutineForm → Kind
  of_form form.Procedure = k.Procedure
  of_form (form.Function result) = k.Function

  -- what a function has behind its parameters: `":" NAME`
  abbrev pub IsResult : Spelling RoutineForm
  IsResult form.Procedure i j = i ≡ j
  IsResult (form.Function result) i j = Behind k.Colon IsName result i j

  -- Routine = procedure NAME [Formals] ";" {BlockDecl} begin Stmts end ";"
  --         | function NAME [Formals] ":" NAME ";" {BlockDecl} begin Stmts end ";"
  pub record IsRoutine (r : Routine) (i j : Input) : Type 0 where
    pub after_name : Input
    pub after_formals : Input
    pub after_result : Input
    pub after_head : Input
    pub after_decls : Input
    pub name : Behind (of_form r.form) IsName r.name i after_name
    pub formals : Optional AreFormals r.formals after_name after_formals
    pub result : IsResult r.form after_formals after_result
    pub semicolon : Takes k.Semicolon after_result after_head
    pub decls : Chain IsBlockDecl r.decls after_head after_decls
    pub body : IsStatementPart r.body after_decls j
    pub span : r.span ≡ between i j
