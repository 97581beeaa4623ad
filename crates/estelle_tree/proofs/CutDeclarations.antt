-- Definitions and routines, cut at any place.
use Rattle.std.proofs.Common.{ℕ, false, List, Option, sym, subst}
use Rattle.estelle_tree.specs.declared.kind.Kind.TheVariants as k
use Rattle.estelle_tree.specs.declared.tree.name.Name.{Name}
use Rattle.estelle_tree.specs.declared.tree.statement.Stmts.{Stmts}
use Rattle.estelle_tree.specs.declared.tree.declaration.BlockDecl.{BlockDecl}
use Rattle.estelle_tree.specs.declared.tree.declaration.BlockDecl.TheVariants as block_decl
use Rattle.estelle_tree.specs.declared.tree.declaration.RoutineForm.{RoutineForm}
use Rattle.estelle_tree.specs.declared.tree.declaration.RoutineForm.TheVariants as form
use Rattle.estelle_tree.specs.declared.tree.declaration.Formals.{Formals}
use Rattle.estelle_tree.specs.Input.{Input}
use Rattle.estelle_tree.specs.Spelling.{Takes, Optional, Behind, Chain}
use Rattle.estelle_tree.specs.Types.{IsName, IsType}
use Rattle.estelle_tree.specs.Statements.{StmtBelow}
use Rattle.estelle_tree.specs.Declarations.{IsConstDef, IsFormal, AreFormals, IsTypeDef, AreVars, IsBlockDecl, IsStatementPart, of_form, IsResult, IsRoutine}
use Rattle.estelle_tree.specs.Beginning.{Beginning, After, Many}
use Rattle.estelle_tree.specs.BeginsTypes.{BeginsType}
use Rattle.estelle_tree.specs.BeginsStatements.{BeginsStmtBelow}
use Rattle.estelle_tree.specs.BeginsDeclarations.{BeginsConstDef, BeginsFormal, BeginFormals, BeginsTypeDef, BeginVars, BeginsBlockDecl, BeginsStatementPart, BeginsRoutine}
use Rattle.estelle_tree.proofs.Cuts.{Reach, Out, Cut, one, other, stop, token, after, opens, part, flag, optional, chain, separated, joined, lines}
use Rattle.estelle_tree.proofs.CutTypes.{named, name_cut, names_cut, const_cut, typed_cut, type_cut}
use Rattle.estelle_tree.proofs.CutStatements.{stmts_of_cut, stmt_below_cut}

pub const_def_cut : Cut IsConstDef BeginsConstDef
const_def_cut i j c d h r = named _ d.name i h.mid j c h.first r (λ r. after _ h.mid h.at j c h.mark r (λ r. const_cut h.at j c d.value h.second r))

pub formal_cut : Cut IsFormal BeginsFormal
formal_cut i j c f h r = flag _ f.is_var i h.at j c h.is_var r (λ r. joined k.Colon names_cut name_cut f.names f.type_name h.at j c h.names r)

pub formals_cut : Cut AreFormals BeginFormals
formals_cut i j c fs h r =
    after _ i h.formals.at j c h.formals.opens r (λ r.
    separated _ k.Semicolon formal_cut fs.formals h.formals.at h.formals.mid j c h.formals.inside r (λ r.
    token h.formals.mid j c h.formals.closes r))

module _ (room : ℕ) where
  pub type_def_cut : Cut (IsTypeDef room) (BeginsTypeDef room)
  type_def_cut i j c d h r = named _ d.name i h.mid j c h.first r (λ r. after _ h.mid h.at j c h.mark r (λ r. type_cut room h.at j c d.type_expr h.second r))

  pub vars_cut : Cut (AreVars room) (BeginVars room)
  vars_cut i j c x h r = typed_cut (IsType room) (BeginsType room) (type_cut room) i j c x h r

  pub block_decl_cut : Cut (IsBlockDecl room) (BeginsBlockDecl room)
  block_decl_cut i j c (block_decl.Const defs span) h r = one _ _ i j c (
      after _ i h.0.at j c h.0.mark r (λ r. lines _ const_def_cut defs h.0.at j j c h.0.item r (λ r. stop r)))
  block_decl_cut i j c (block_decl.Types defs span) h r = other _ _ i j c (one _ _ i j c (
      after _ i h.0.at j c h.0.mark r (λ r. lines _ type_def_cut defs h.0.at j j c h.0.item r (λ r. stop r))))
  block_decl_cut i j c (block_decl.Var vars span) h r = other _ _ i j c (other _ _ i j c (
      after _ i h.0.at j c h.0.mark r (λ r. lines _ vars_cut vars h.0.at j j c h.0.item r (λ r. stop r))))

  pub statement_part_cut : Cut (IsStatementPart room) (BeginsStatementPart room)
  statement_part_cut i j c ss h r =
      let a = h.stmts.item in
      opens _ room h.fits i a.at j c a.opens r (λ r.
      part _ (stmts_of_cut (StmtBelow room false) (BeginsStmtBelow room) (stmt_below_cut room false)) a.at a.mid j c ss a.inside r (λ r.
      after _ a.mid h.stmts.mid j c a.closes r (λ r.
      token h.stmts.mid j c h.stmts.mark r)))

  -- behind the head of a routine
  abbrev Rest : Beginning
  Rest = After k.Semicolon (Many (BeginsBlockDecl room) (IsBlockDecl room) (BeginsStatementPart room))

  rest_cut : (decls : List BlockDecl) (body : Stmts) (i a b j c : Input) → Takes k.Semicolon i a → Chain (IsBlockDecl room) decls a b → IsStatementPart room body b j → Reach i c → Out Rest i j c
  rest_cut decls body i a b j c semicolon are part_is r =
      after _ i a j c semicolon r (λ r.
      chain _ block_decl_cut decls a b j c are r (λ r.
      statement_part_cut b j c body part_is r))

  head_cut : (f : RoutineForm) (n : Name) (formals : Option Formals) (i a b d j c : Input) → Behind (of_form room f) IsName n i a → Optional AreFormals formals a b → IsResult room f b d → (Reach d c → Out Rest d j c) → Reach i c → Out (BeginsRoutine room) i j c
  head_cut form.Procedure n formals i a b d j c name are result rest r = one _ _ i j c (
      after _ i name.at j c name.mark r (λ r.
      named _ n name.at a j c name.item r (λ r.
      optional _ formals_cut formals a b j c are r (λ r.
      subst (λ b. Out Rest b j c) (sym result) (rest (subst (λ b. Reach b c) result r))))))
  head_cut (form.Function res) n formals i a b d j c name are result rest r = other _ _ i j c (
      after _ i name.at j c name.mark r (λ r.
      named _ n name.at a j c name.item r (λ r.
      optional _ formals_cut formals a b j c are r (λ r.
      after _ b result.at j c result.mark r (λ r.
      named _ res result.at d j c result.item r rest)))))

  pub routine_cut : Cut (IsRoutine room) (BeginsRoutine room)
  routine_cut i j c x h r =
      head_cut x.form x.name x.formals i h.after_name h.after_formals h.after_result j c h.name h.formals h.result
      (λ r. rest_cut x.decls x.body h.after_result h.after_head h.after_decls j c h.semicolon h.decls h.body r) r
