-- Definitions and routines, moved.
use Rattle.std.proofs.Common.{◌≡◌, ℕ, false, map, sym, refl, ap, ◌∙◌, subst}
use Rattle.estelle_tree.specs.declared.kind.Kind.TheVariants as k
use Rattle.estelle_tree.specs.declared.tree.declaration.BlockDecl.TheVariants as block_decl
use Rattle.estelle_tree.specs.declared.tree.declaration.RoutineForm.{RoutineForm}
use Rattle.estelle_tree.specs.declared.tree.declaration.RoutineForm.TheVariants as form
use Rattle.estelle_tree.specs.Input.{between}
use Rattle.estelle_tree.specs.Spans.{nowhere}
use Rattle.estelle_tree.specs.Spelling.{Behind, Separated, Enclosed, Lines}
use Rattle.estelle_tree.specs.Types.{IsName, IsNames, IsConst, IsType}
use Rattle.estelle_tree.specs.Statements.{StmtsOf, StmtBelow}
use Rattle.estelle_tree.specs.Declarations.{IsConstDef, IsFormal, AreFormals, IsTypeDef, AreVars, IsBlockDecl, IsStatementPart, of_form, IsResult, IsRoutine}
use Rattle.round_trip.specs.Types.{bare_name, bare_names, bare_const, bare_type, bare_typed}
use Rattle.round_trip.specs.Statements.{bare_stmts}
use Rattle.round_trip.specs.Declarations.{bare_const_def, bare_type_def, bare_block_decl, bare_formal, bare_formals, bare_form, bare_routine}
use Rattle.round_trip.proofs.Moves.{nothing, takes, flag, Moves, ap2, ap5, optional, chain, behind, ended, enclosed, separated, lines, joined}
use Rattle.round_trip.proofs.TypeMoves.{name_moves, names_moves, const_moves, type_moves, vars_moves}
use Rattle.round_trip.proofs.StatementMoves.{stmts_of_moves, stmt_below_moves}

pub const_def_moves : Moves IsConstDef bare_const_def
const_def_moves d i j i' h s =
    let m = joined k.Equal IsName IsConst bare_name bare_const name_moves const_moves d.name d.value h s in
    record { thing = record { name = m.one; value = m.other }; end = m.end; is = m.is; same = ap2 (λ a b. record { name = a; value = b }) m.one_same m.other_same; alike = m.alike }

pub formal_moves : Moves IsFormal bare_formal
formal_moves f i j i' h s =
    let p = flag k.Var f.is_var h.is_var s in
    let m = joined k.Colon IsNames IsName bare_names bare_name names_moves name_moves f.names f.type_name h.names p.alike in
    record {
      thing = record { is_var = f.is_var; names = m.one; type_name = m.other; span = between i' m.end };
      end = m.end;
      is = record { at = p.end; is_var = p.is; names = m.is; span = refl };
      same = ap2 (λ a b. record { is_var = f.is_var; names = a; type_name = b; span = nowhere }) m.one_same m.other_same;
      alike = m.alike;
    }

pub formals_moves : Moves AreFormals bare_formals
formals_moves fs i j i' h s =
    let m = enclosed (Separated k.Semicolon IsFormal) (map bare_formal) (separated IsFormal bare_formal formal_moves k.Semicolon) k.OpenParenthesis k.CloseParenthesis fs.formals _ _ _ h.formals s in
    record {
      thing = record { formals = m.thing; span = between i' m.end };
      end = m.end;
      is = record { formals = m.is; span = refl };
      same = ap (λ a. record { formals = a; span = nowhere }) m.same;
      alike = m.alike;
    }

module _ (room : ℕ) where
  pub type_def_moves : Moves (IsTypeDef room) bare_type_def
  type_def_moves d i j i' h s =
      let m = joined k.Equal IsName (IsType room) bare_name bare_type name_moves (type_moves room) d.name d.type_expr h s in
      record { thing = record { name = m.one; type_expr = m.other }; end = m.end; is = m.is; same = ap2 (λ a b. record { name = a; type_expr = b }) m.one_same m.other_same; alike = m.alike }

  pub block_decl_moves : Moves (IsBlockDecl room) bare_block_decl
  block_decl_moves (block_decl.Const defs span) i j i' h s =
      let m = behind (Lines IsConstDef) (map bare_const_def) (lines IsConstDef bare_const_def const_def_moves) k.Const defs _ _ _ h.0 s in
      record { thing = block_decl.Const m.thing (between i' m.end); end = m.end; is = (m.is, refl); same = ap (λ a. block_decl.Const a nowhere) m.same; alike = m.alike }
  block_decl_moves (block_decl.Types defs span) i j i' h s =
      let m = behind (Lines (IsTypeDef room)) (map bare_type_def) (lines (IsTypeDef room) bare_type_def type_def_moves) k.Type defs _ _ _ h.0 s in
      record { thing = block_decl.Types m.thing (between i' m.end); end = m.end; is = (m.is, refl); same = ap (λ a. block_decl.Types a nowhere) m.same; alike = m.alike }
  block_decl_moves (block_decl.Var vars span) i j i' h s =
      let m = behind (Lines (AreVars room)) (map bare_typed) (lines (AreVars room) bare_typed (vars_moves room)) k.Var vars _ _ _ h.0 s in
      record { thing = block_decl.Var m.thing (between i' m.end); end = m.end; is = (m.is, refl); same = ap (λ a. block_decl.Var a nowhere) m.same; alike = m.alike }

  pub statement_part_moves : Moves (IsStatementPart room) bare_stmts
  statement_part_moves ss i j i' h s =
      let P = StmtsOf (StmtBelow room false) in
      let m = ended (Enclosed k.Begin k.End P) bare_stmts (enclosed P bare_stmts (stmts_of_moves (StmtBelow room false) (stmt_below_moves room false)) k.Begin k.End) k.Semicolon ss _ _ _ h.stmts s in
      record { thing = m.thing; end = m.end; is = record { fits = h.fits; stmts = m.is }; same = m.same; alike = m.alike }

  -- ---- routines: their first word and what stands behind their parameters hang on one choice

  pub form_word : (f : RoutineForm) → of_form room (bare_form f) ≡ of_form room f
  form_word form.Procedure = refl
  form_word (form.Function result) = refl

  result_moves : Moves (IsResult room) bare_form
  result_moves form.Procedure i j i' h s = let p = nothing h s in record { thing = form.Procedure; end = p.end; is = p.is; same = refl; alike = p.alike }
  result_moves (form.Function result) i j i' h s =
      let m = behind IsName bare_name name_moves k.Colon result _ _ _ h s in
      record { thing = form.Function m.thing; end = m.end; is = m.is; same = ap (λ a. form.Function a) m.same; alike = m.alike }

  pub routine_moves : Moves (IsRoutine room) bare_routine
  routine_moves r i j i' h s =
      let m = behind IsName bare_name name_moves (of_form room r.form) r.name _ _ _ h.name s in
      let n = optional AreFormals bare_formals formals_moves r.formals _ _ _ h.formals m.alike in
      let o = result_moves r.form _ _ _ h.result n.alike in
      let t = takes h.semicolon o.alike in
      let p = chain (IsBlockDecl room) bare_block_decl block_decl_moves r.decls _ _ _ h.decls t.alike in
      let q = statement_part_moves r.body _ _ _ h.body p.alike in
      let word = sym (form_word r.form) ∙ ap (of_form room) (sym o.same) ∙ form_word o.thing in
      record {
        thing = record { name = m.thing; formals = n.thing; form = o.thing; decls = p.thing; body = q.thing; span = between i' q.end };
        end = q.end;
        is = record {
          after_name = m.end;
          after_formals = n.end;
          after_result = o.end;
          after_head = t.end;
          after_decls = p.end;
          name = subst (λ w. Behind w IsName m.thing i' m.end) word m.is;
          formals = n.is;
          result = o.is;
          semicolon = t.is;
          decls = p.is;
          body = q.is;
          span = refl;
        };
        same = ap5 (λ a b c d e. record { name = a; formals = b; form = c; decls = d; body = e; span = nowhere }) m.same n.same o.same p.same q.same;
        alike = q.alike;
      }
