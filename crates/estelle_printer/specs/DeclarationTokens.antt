-- The tokens of definitions and routines.
use Rattle.std.specs.Prelude.{[], ◌++◌}
use Rattle.std.specs.List.{flat_map}
use Rattle.estelle_tree.specs.declared.kind.Kind.{Kind}
use Rattle.estelle_tree.specs.declared.kind.Kind.TheVariants as k
use Rattle.estelle_tree.specs.declared.tree.statement.Stmts.{Stmts}
use Rattle.estelle_tree.specs.declared.tree.declaration.ConstDef.{ConstDef}
use Rattle.estelle_tree.specs.declared.tree.declaration.TypeDef.{TypeDef}
use Rattle.estelle_tree.specs.declared.tree.declaration.BlockDecl.{BlockDecl}
use Rattle.estelle_tree.specs.declared.tree.declaration.BlockDecl.TheVariants as block_decl
use Rattle.estelle_tree.specs.declared.tree.declaration.Formal.{Formal}
use Rattle.estelle_tree.specs.declared.tree.declaration.Formals.{Formals}
use Rattle.estelle_tree.specs.declared.tree.declaration.Routine.{Routine}
use Rattle.estelle_tree.specs.declared.tree.declaration.RoutineForm.{RoutineForm}
use Rattle.estelle_tree.specs.declared.tree.declaration.RoutineForm.TheVariants as form
use Rattle.estelle_printer.specs.Forms.{Tokens, mark, flag, optional, separated, lines, enclosed}
use Rattle.estelle_printer.specs.TypeTokens.{name, names, constant, type_expr, typed_names}
use Rattle.estelle_printer.specs.StatementTokens.{stmts}

-- `NAME "=" Const`
abbrev pub const_def : ConstDef → Tokens
const_def d = name d.name ++ mark k.Equal ++ constant d.value

-- `NAME "=" Type`
abbrev pub type_def : TypeDef → Tokens
type_def d = name d.name ++ mark k.Equal ++ type_expr d.type_expr

-- BlockDecl = const {NAME "=" Const ";"}+ | type {NAME "=" Type ";"}+ | var {Names ":" Type ";"}+
abbrev pub block_decl_tokens : BlockDecl → Tokens
block_decl_tokens (block_decl.Const defs span) = mark k.Const ++ lines const_def defs
block_decl_tokens (block_decl.Types defs span) = mark k.Type ++ lines type_def defs
block_decl_tokens (block_decl.Var vars span) = mark k.Var ++ lines typed_names vars

-- `begin Stmts end ";"`
abbrev pub statement_part : Stmts → Tokens
statement_part ss = enclosed k.Begin k.End (stmts ss) ++ mark k.Semicolon

-- Formal = [var] Names ":" NAME
abbrev pub formal : Formal → Tokens
formal f = flag k.Var f.is_var ++ names f.names ++ mark k.Colon ++ name f.type_name

-- Formals = "(" Formal {";" Formal} ")"
abbrev pub formals : Formals → Tokens
formals fs = enclosed k.OpenParenthesis k.CloseParenthesis (separated k.Semicolon formal fs.formals)

-- the first word of a routine
abbrev pub routine_kind : RoutineForm → Kind
routine_kind form.Procedure = k.Procedure
routine_kind (form.Function result) = k.Function

-- what a function has behind its parameters: `":" NAME`
abbrev pub result_type : RoutineForm → Tokens
result_type form.Procedure = []
result_type (form.Function result) = mark k.Colon ++ name result

-- Routine = procedure NAME [Formals] ";" {BlockDecl} begin Stmts end ";"
--         | function NAME [Formals] ":" NAME ";" {BlockDecl} begin Stmts end ";"
abbrev pub routine : Routine → Tokens
routine r = mark (routine_kind r.form) ++ name r.name ++ optional formals r.formals ++ result_type r.form ++ mark k.Semicolon ++ flat_map block_decl_tokens r.decls ++ statement_part r.body
