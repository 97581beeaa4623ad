-- Definitions, routines, blocks and clauses.
use Rattle.std.proofs.Common.{◌≡◌, ℕ, List, [], ◌∷◌, ◌++◌, Option, Some, None, refl, subst}
use Rattle.std.specs.List.{flat_map}
use Rattle.estelle_tree.specs.declared.kind.Kind.TheVariants as k
use Rattle.estelle_tree.specs.declared.tree.name.Name.{Name}
use Rattle.estelle_tree.specs.declared.tree.name.NameList.{NameList}
use Rattle.estelle_tree.specs.declared.tree.declaration.BlockDecl.TheVariants as block_decl
use Rattle.estelle_tree.specs.declared.tree.declaration.Routine.{Routine}
use Rattle.estelle_tree.specs.declared.tree.declaration.RoutineForm.TheVariants as routine_form
use Rattle.estelle_tree.specs.declared.tree.clause.AnyDom.{AnyDom}
use Rattle.estelle_tree.specs.declared.tree.clause.NextState.TheVariants as next_state
use Rattle.estelle_tree.specs.declared.tree.clause.DelayHigh.TheVariants as delay_high
use Rattle.estelle_tree.specs.declared.tree.clause.Label.{Label}
use Rattle.estelle_tree.specs.declared.tree.clause.Clause.TheVariants as clause
use Rattle.estelle_tree.specs.Input.{Input}
use Rattle.estelle_tree.specs.Spelling.{Optional, Enclosed}
use Rattle.estelle_tree.specs.Types.{IsName, IsNames, IsType}
use Rattle.estelle_tree.specs.Declarations.{IsConstDef, IsFormal, AreFormals, IsTypeDef, AreVars, IsBlockDecl, IsStatementPart, IsResult, IsRoutine}
use Rattle.estelle_tree.specs.Clauses.{IsLabel, IsAnyDom, IsNextState, IsBlock, IsDelayHigh, IsClause}
use Rattle.scope_rules.specs.declared.declaration.Denotes.{Denotes}
use Rattle.scope_rules.specs.declared.declaration.Denotes.TheVariants as d
use Rattle.scope_rules.specs.declared.declaration.Need.TheVariants as need
use Rattle.scope_rules.specs.declared.declaration.Inside.TheVariants.{Nothing}
use Rattle.scope_rules.specs.declared.event.ScopeForm.TheVariants as scope
use Rattle.scope_rules.specs.declared.event.Event.TheVariants.{Open, Close, Declare, Receive}
use Rattle.scope_rules.specs.TypeEvents.{inside, of_type_name, ordinal_events, typed_names}
use Rattle.scope_rules.specs.ExpressionEvents.{optional}
use Rattle.scope_rules.specs.StatementEvents.{stmts}
use Rattle.scope_rules.specs.DeclarationEvents.{const_def, type_def, block_decl_events, parameters, formal, formals, result_type, routine}
use Rattle.scope_rules.specs.ClauseEvents.{block, next_state_events, delay_high_events, listed, clause_events}
use Rattle.accepted_states.proofs.Scopes.{plain_receive}
use Rattle.accepted_states.proofs.Fine.{Less, less_same, less_more, less_takes, less_names, less_flag, name_less, Fine, AllFine, silent, fine_nil, fine_append, fine_less, fine_end, fine_name, fine_names, fine_declared, fine_scope, chain, behind, ended, enclosed, separated, lines, maybe}
use Rattle.accepted_states.proofs.FineTypes.{const_fine, ordinal_fine, type_fine, typed_fine}
use Rattle.accepted_states.proofs.FineExpressions.{expr_fine}
use Rattle.accepted_states.proofs.FineStatements.{member_fine, stmts_fine}
use Rattle.std.proofs.Common.{append_assoc}

pub const_def_fine : AllFine const_def IsConstDef
const_def_fine x i j h = fine_less (name_less h.first) (fine_less (less_takes h.mark) (fine_append (const_fine x.value h.at j h.second) (fine_declared (x.name ∷ []) d.Constant Nothing (λ e. cc) (less_same {i = j} refl))))

-- names of a type that is named
pub parameters_fine : {xs : NameList} {t : Name} {i a b j : Input} → IsNames xs i a → Less a b → IsName t b j → Fine i j (parameters xs t)
parameters_fine {xs} {t} {i} {a} {b} {j} h l g = fine_less (less_more (less_names h) l) (fine_append (fine_name need.Type g) (fine_declared xs.names d.Variable (of_type_name t) (λ e. cc) (less_same {i = j} refl)))

formal_fine : AllFine formal IsFormal
formal_fine f i j h = fine_less (less_flag k.Var f.is_var h.is_var) (parameters_fine h.names.first (less_takes h.names.mark) h.names.second)

formals_fine : AllFine formals AreFormals
formals_fine fs i j h = enclosed (separated k.Semicolon formal_fine) fs.formals i j h.formals

module _ (room : ℕ) where
  pub result_fine : AllFine result_type (IsResult room)
  result_fine routine_form.Procedure i j h = fine_nil (less_same h)
  result_fine (routine_form.Function x) i j h = fine_less (less_takes h.mark) (fine_name need.Type h.item)

  pub type_def_fine : AllFine type_def (IsTypeDef room)
  type_def_fine x i j h = fine_less (name_less h.first) (fine_less (less_takes h.mark) (fine_append (type_fine room x.type_expr h.at j h.second) (fine_declared (x.name ∷ []) d.Type (inside x.type_expr) (λ e. cc) (less_same {i = j} refl))))

  pub vars_fine : (kind : Denotes) → (kind ≡ d.State → ⊥) → AllFine (typed_names kind) (AreVars room)
  vars_fine = typed_fine (IsType room) (type_fine room)

  block_decl_fine : AllFine block_decl_events (IsBlockDecl room)
  block_decl_fine (block_decl.Const defs span) i j h = behind (lines const_def_fine) defs i j h.0
  block_decl_fine (block_decl.Types defs span) i j h = behind (lines type_def_fine) defs i j h.0
  block_decl_fine (block_decl.Var vars span) i j h = behind (lines (vars_fine d.Variable (λ e. cc))) vars i j h.0

  pub part_fine : AllFine stmts (IsStatementPart room)
  part_fine ss i j h = ended (enclosed (stmts_fine room)) ss i j h.stmts

  -- what stands in a routine
  pub routine_inside_fine : (r : Routine) (i j : Input) → IsRoutine room r i j → Fine i j (optional formals r.formals ++ (result_type r.form ++ (flat_map block_decl_events r.decls ++ stmts r.body)))
  routine_inside_fine r i j h =
      let a = maybe formals_fine r.formals h.after_name h.after_formals h.formals in
      let b = result_fine r.form h.after_formals h.after_result h.result in
      let c = chain block_decl_fine r.decls h.after_head h.after_decls h.decls in
      let e = part_fine r.body h.after_decls j h.body in
      fine_less (less_takes h.name.mark) (fine_less (name_less h.name.item) (fine_append a (fine_append b (fine_less (less_takes h.semicolon) (fine_append c e)))))

  pub routine_fine : AllFine routine (IsRoutine room)
  routine_fine r i j h =
      let A = optional formals r.formals in
      let B = result_type r.form in
      let C = flat_map block_decl_events r.decls in
      let E = stmts r.body in
      let all : Fine i j (Open scope.Inner ∷ ((A ++ (B ++ (C ++ E))) ++ Close ∷ [])) = fine_scope scope.Inner (routine_inside_fine r i j h) in
      subst (λ es. Fine i j (Open scope.Inner ∷ es)) (rw (append_assoc, append_assoc, append_assoc) refl) all

  pub label_less : (o : Option Label) (i j : Input) → Optional IsLabel o i j → Less i j
  label_less None i j h = less_same h
  label_less (Some l) i j h = less_more (less_takes h.word) (less_more (name_less h.name) (less_takes h.colon))

  pub block_fine : AllFine block (IsBlock room)
  block_fine b i j h =
      let c = fine_less (label_less b.label i h.after_label h.label) (fine_end (chain block_decl_fine b.decls h.after_label h.after_decls h.decls) (label_less b.late_label h.after_decls h.after_late h.late_label)) in
      subst (λ es. Fine i j (Open scope.Inner ∷ es)) (append_assoc (flat_map block_decl_events b.decls) (stmts b.body) (Close ∷ [])) (fine_scope scope.Inner (fine_append c (part_fine b.body h.after_late j h.body)))

  -- ---- clauses

  next_fine : AllFine next_state_events IsNextState
  next_fine (next_state.Name x) i j h = fine_name need.State h
  next_fine next_state.Same i j h = fine_nil (less_takes h)

  high_fine : AllFine delay_high_events (IsDelayHigh room)
  high_fine (delay_high.Expr e) i j h = expr_fine room e i j h
  high_fine delay_high.Star i j h = fine_nil (less_takes h)

  domain_fine : AllFine (λ x. ordinal_events x.domain) IsAnyDom
  domain_fine x i j h = fine_less (less_names h.parts.first) (fine_less (less_takes h.parts.mark) (ordinal_fine x.domain h.parts.at j h.parts.second))

  chosen_fine : (i : Input) (xs : List AnyDom) → Fine i i (flat_map (λ x. Declare x.names.names d.Constant Nothing ∷ []) xs)
  chosen_fine i [] = fine_nil (less_same refl)
  chosen_fine i (x ∷ xs) = fine_append (fine_declared x.names.names d.Constant Nothing (λ e. cc) (less_same {i = i} refl)) (chosen_fine i xs)

  listed_less : (o : Option NameList) (i j : Input) → Optional (Enclosed k.OpenParenthesis k.CloseParenthesis IsNames) o i j → Less i j
  listed_less None i j h = less_same h
  listed_less (Some ns) i j h = less_more (less_takes h.opens) (less_more (less_names h.inside) (less_takes h.closes))

  pub clause_fine : AllFine clause_events (IsClause room)
  clause_fine (clause.From states span) i j h = fine_less (less_takes h.0.mark) (fine_names need.Origin h.0.item)
  clause_fine (clause.To state span) i j h = behind next_fine state i j h.0
  clause_fine (clause.When ip x params span) i j h =
      let w = h.0 in
      fine_less (less_takes w.word) (fine_append (member_fine need.Ip need.Interaction w.names.first (less_takes w.names.mark) w.names.second) (silent {i = w.mid} {j = j} (Receive ip x (listed params) ∷ []) (listed_less params w.mid j w.params) (plain_receive ip x (listed params)) refl))
  clause_fine (clause.Provided condition span) i j h = behind (expr_fine room) condition i j h.0
  clause_fine (clause.Priority value span) i j h = behind const_fine value i j h.0
  clause_fine (clause.Any domains span) i j h = fine_append (enclosed (separated k.Semicolon domain_fine) domains i j h.0) (chosen_fine j domains)
  clause_fine (clause.Delay low high span) i j h =
      let w = h.0 in
      fine_less (less_takes w.word) (fine_less (less_takes w.opens) (fine_append (expr_fine room low w.after w.mid w.low) (fine_end (maybe (behind high_fine) high w.mid w.last w.high) (less_takes w.closes))))
