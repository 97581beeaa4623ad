-- Definitions and routines without their spans, where tokens have no places.
use Rattle.std.proofs.Common.{ℕ, false, map, sym, subst}
use Rattle.estelle_tree.specs.declared.kind.Kind.TheVariants as k
use Rattle.estelle_tree.specs.declared.tree.declaration.BlockDecl.TheVariants as block_decl
use Rattle.estelle_tree.specs.declared.tree.declaration.RoutineForm.TheVariants as form
use Rattle.estelle_tree.specs.Spelling.{Behind, Separated, Enclosed, Lines}
use Rattle.estelle_tree.specs.Types.{IsName, IsNames, IsConst, IsType}
use Rattle.estelle_tree.specs.Statements.{StmtsOf, StmtBelow}
use Rattle.estelle_tree.specs.Declarations.{IsConstDef, IsFormal, AreFormals, IsTypeDef, AreVars, IsBlockDecl, IsStatementPart, of_form, IsResult, IsRoutine}
use Rattle.round_trip.specs.Types.{bare_name, bare_names, bare_const, bare_type, bare_typed}
use Rattle.round_trip.specs.Statements.{bare_stmts}
use Rattle.round_trip.specs.Declarations.{bare_const_def, bare_type_def, bare_block_decl, bare_formal, bare_formals, bare_form, bare_routine}
use Rattle.round_trip.proofs.DeclarationMoves.{form_word}
use Rattle.round_trip.proofs.PlainForms.{plain, Plain, nothing, no_span, takes, flag, optional, chain, behind, ended, enclosed, separated, lines, joined}
use Rattle.round_trip.proofs.PlainTypes.{plain_name, plain_names, plain_const, plain_type, plain_vars}
use Rattle.round_trip.proofs.PlainStatements.{plain_stmts_of, plain_stmt_below}

pub plain_const_def : Plain IsConstDef bare_const_def
plain_const_def d i j h = joined k.Equal IsName IsConst bare_name bare_const plain_name plain_const d.name d.value h

plain_formal : Plain IsFormal bare_formal
plain_formal f i j h = record {
  at = plain h.at;
  is_var = flag k.Var f.is_var _ _ h.is_var;
  names = joined k.Colon IsNames IsName bare_names bare_name plain_names plain_name f.names f.type_name h.names;
  span = no_span i j;
}

plain_formals : Plain AreFormals bare_formals
plain_formals fs i j h = record {
  formals = enclosed (Separated k.Semicolon IsFormal) (map bare_formal) (separated IsFormal bare_formal plain_formal k.Semicolon) k.OpenParenthesis k.CloseParenthesis fs.formals i j h.formals;
  span = no_span i j;
}

module _ (room : ℕ) where
  pub plain_type_def : Plain (IsTypeDef room) bare_type_def
  plain_type_def d i j h = joined k.Equal IsName (IsType room) bare_name bare_type plain_name (plain_type room) d.name d.type_expr h

  pub plain_block_decl : Plain (IsBlockDecl room) bare_block_decl
  plain_block_decl (block_decl.Const defs span) i j h = (behind (Lines IsConstDef) (map bare_const_def) (lines IsConstDef bare_const_def plain_const_def) k.Const defs i j h.0, no_span i j)
  plain_block_decl (block_decl.Types defs span) i j h = (behind (Lines (IsTypeDef room)) (map bare_type_def) (lines (IsTypeDef room) bare_type_def plain_type_def) k.Type defs i j h.0, no_span i j)
  plain_block_decl (block_decl.Var vars span) i j h = (behind (Lines (AreVars room)) (map bare_typed) (lines (AreVars room) bare_typed (plain_vars room)) k.Var vars i j h.0, no_span i j)

  pub plain_statement_part : Plain (IsStatementPart room) bare_stmts
  plain_statement_part ss i j h =
      let P = StmtsOf (StmtBelow room false) in
      record { fits = h.fits; stmts = ended (Enclosed k.Begin k.End P) bare_stmts (enclosed P bare_stmts (plain_stmts_of (StmtBelow room false) (plain_stmt_below room false)) k.Begin k.End) k.Semicolon ss i j h.stmts }

  plain_result : Plain (IsResult room) bare_form
  plain_result form.Procedure i j h = nothing h
  plain_result (form.Function result) i j h = behind IsName bare_name plain_name k.Colon result i j h

  pub plain_routine : Plain (IsRoutine room) bare_routine
  plain_routine r i j h = record {
    after_name = plain h.after_name;
    after_formals = plain h.after_formals;
    after_result = plain h.after_result;
    after_head = plain h.after_head;
    after_decls = plain h.after_decls;
    name = subst (λ w. Behind w IsName (bare_name r.name) (plain i) (plain h.after_name)) (sym (form_word room r.form)) (behind IsName bare_name plain_name (of_form room r.form) r.name i h.after_name h.name);
    formals = optional AreFormals bare_formals plain_formals r.formals h.after_name h.after_formals h.formals;
    result = plain_result r.form h.after_formals h.after_result h.result;
    semicolon = takes h.semicolon;
    decls = chain (IsBlockDecl room) bare_block_decl plain_block_decl r.decls h.after_head h.after_decls h.decls;
    body = plain_statement_part r.body h.after_decls j h.body;
    span = no_span i j;
  }
