-- Which tokens definitions and routines spell.
use Rattle.std.proofs.Common.{◌≡◌, ℕ, true, false, refl, append_assoc}
use Rattle.estelle_tree.specs.declared.kind.Kind.TheVariants as k
use Rattle.estelle_tree.specs.declared.tree.declaration.BlockDecl.TheVariants as block_decl
use Rattle.estelle_tree.specs.declared.tree.declaration.RoutineForm.{RoutineForm}
use Rattle.estelle_tree.specs.declared.tree.declaration.RoutineForm.TheVariants as form
use Rattle.estelle_tree.specs.Spelling.{Enclosed, Separated, Lines}
use Rattle.estelle_tree.specs.Types.{IsName, IsNames, IsConst, IsType}
use Rattle.estelle_tree.specs.Statements.{StmtsOf, StmtBelow}
use Rattle.estelle_tree.specs.Declarations.{IsConstDef, IsTypeDef, AreVars, IsBlockDecl, IsStatementPart, IsFormal, AreFormals, IsResult, IsRoutine, of_form}
use Rattle.estelle_printer.specs.Forms.{mark, separated, lines, enclosed}
use Rattle.estelle_printer.specs.TypeTokens.{name, names, constant, type_expr, typed_names}
use Rattle.estelle_printer.specs.StatementTokens.{stmts}
use Rattle.estelle_printer.specs.DeclarationTokens.{const_def, type_def, block_decl_tokens, statement_part, formal, formals, routine_kind, result_type, routine}
use Rattle.estelle_printer.proofs.TerminalLaws.{is_plain}
use Rattle.estelle_printer.proofs.FormLaws.{◌⋯◌, none, same_tokens, regrouped, takes, Tells, flagged, behind, chained, may_be, ended, in_lines, separate, enclosed_in, joined}
use Rattle.estelle_printer.proofs.TypeLaws.{name_tells, names_tells, constant_tells, type_tells, typed_names_tells}
use Rattle.estelle_printer.proofs.StatementLaws.{stmts_of_tells, stmt_below_tells}

pub const_def_tells : Tells IsConstDef const_def
const_def_tells d i j h = joined IsName IsConst name constant k.Equal refl name_tells constant_tells d.name d.value i j h

pub type_def_tells : (room : ℕ) → Tells (IsTypeDef room) type_def
type_def_tells room d i j h = joined IsName (IsType room) name type_expr k.Equal refl name_tells (type_tells room) d.name d.type_expr i j h

pub vars_tells : (room : ℕ) → Tells (AreVars room) typed_names
vars_tells room = typed_names_tells room

pub block_decl_tells : (room : ℕ) → Tells (IsBlockDecl room) block_decl_tokens
block_decl_tells room (block_decl.Const defs span) i j h = behind (Lines IsConstDef) (lines const_def) (in_lines IsConstDef const_def const_def_tells) k.Const refl defs i j h.0
block_decl_tells room (block_decl.Types defs span) i j h = behind (Lines (IsTypeDef room)) (lines type_def) (in_lines (IsTypeDef room) type_def (type_def_tells room)) k.Type refl defs i j h.0
block_decl_tells room (block_decl.Var vars span) i j h = behind (Lines (AreVars room)) (lines typed_names) (in_lines (AreVars room) typed_names (vars_tells room)) k.Var refl vars i j h.0

pub statement_part_tells : (room : ℕ) → Tells (IsStatementPart room) statement_part
statement_part_tells room ss i j h =
    ended (Enclosed k.Begin k.End (StmtsOf (StmtBelow room false))) (λ x. enclosed k.Begin k.End (stmts x))
    (enclosed_in (StmtsOf (StmtBelow room false)) stmts (stmts_of_tells room (StmtBelow room) (stmt_below_tells room) false) k.Begin k.End refl refl) k.Semicolon refl ss i j h.stmts

formal_tells : Tells IsFormal formal
formal_tells f i j h = regrouped (flagged k.Var refl f.is_var i h.at h.is_var ⋯ joined IsNames IsName names name k.Colon refl names_tells name_tells f.names f.type_name h.at j h.names) (simp append_assoc)

formals_tells : Tells AreFormals formals
formals_tells fs i j h = enclosed_in (Separated k.Semicolon IsFormal) (separated k.Semicolon formal) (separate IsFormal formal formal_tells k.Semicolon refl) k.OpenParenthesis k.CloseParenthesis refl refl fs.formals i j h.formals

result_tells : (room : ℕ) → Tells (IsResult room) result_type
result_tells room form.Procedure i j h = none h
result_tells room (form.Function result) i j h = behind IsName name name_tells k.Colon refl result i j h

form_one : (room : ℕ) (f : RoutineForm) → is_plain (of_form room f) ≡ true
form_one room form.Procedure = refl
form_one room (form.Function result) = refl

form_kind : (room : ℕ) (f : RoutineForm) → mark (routine_kind f) ≡ mark (of_form room f)
form_kind room form.Procedure = refl
form_kind room (form.Function result) = refl

pub routine_tells : (room : ℕ) → Tells (IsRoutine room) routine
routine_tells room r i j h =
    same_tokens (form_kind room r.form) (takes (of_form room r.form) i h.name.at (form_one room r.form) h.name.mark)
    ⋯ name_tells r.name h.name.at h.after_name h.name.item
    ⋯ may_be AreFormals formals formals_tells r.formals h.after_name h.after_formals h.formals
    ⋯ result_tells room r.form h.after_formals h.after_result h.result
    ⋯ takes k.Semicolon h.after_result h.after_head refl h.semicolon
    ⋯ chained (IsBlockDecl room) block_decl_tokens (block_decl_tells room) r.decls h.after_head h.after_decls h.decls
    ⋯ statement_part_tells room r.body h.after_decls j h.body
