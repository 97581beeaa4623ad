-- Statements without one of Estelle and without a procedure statement, whose names in use mean no procedure, are quiet.
use Rattle.std.proofs.Common.{◌≡◌, Bool, true, List, [], ◌∷◌, ◌++◌, map, Option, Some, None, refl}
use Rattle.std.specs.List.{flat_map}
use Rattle.estelle_tree.specs.declared.tree.statement.Stmts.{Stmts}
use Rattle.estelle_tree.specs.declared.tree.statement.Stmt.TheOpen.{Stmt-F}
use Rattle.estelle_tree.proofs.StatementFolds as kind
use Rattle.estelle_tree.proofs.StatementFolds.{Kind, Layer, statements}
use Rattle.estelle_model.specs.Meant.{Meanings}
use Rattle.estelle_model_legality.proofs.Lists.{both_and}
use Rattle.type_rules.specs.declared.sites.Site.{Site}
use Rattle.type_rules.specs.declared.sites.Site.TheVariants.{CallsProcedure, EstelleStatement}
use Rattle.type_rules.specs.declared.types.PascalType.{PascalType}
use Rattle.type_rules.specs.declared.types.Value.{Value}
use Rattle.type_rules.specs.Meanings.{Env}
use Rattle.type_rules.specs.Sites.{Sites}
use Rattle.type_rules.specs.StatementSites as sites
use Rattle.type_rules.specs.StatementSites.{Alternative, labels, with_labels, alternatives, condition, counting}
use Rattle.type_rules.specs.ExpressionSites as site_expressions
use Rattle.scope_rules.specs.declared.declaration.Need.TheVariants as need
use Rattle.scope_rules.specs.TypeEvents.{Events, const_events}
use Rattle.scope_rules.specs.ExpressionEvents.{expr, assigned}
use Rattle.scope_rules.specs.StatementEvents.{stmt_layer, case_layer, stmts_layer, stmt, case_, stmts}
use Rattle.guards_seen.specs.Quiet.{each_is, names_no_procedure, variable_names_no_procedure, are_quiet}
use Rattle.guards_seen.proofs.Folds.{Triples, KeepsAt, folds_related}
use Rattle.guards_seen.proofs.Statements.{quiet_layers}
use Rattle.accepted_states.proofs.Lists.{Each, each_front, each_back}
use Rattle.accepted_functions.proofs.Expressions.{UsesNone, AllUseNone, expr_told, variable_told}

-- no procedure statement stands there, and no statement of Estelle
abbrev pub IsNoEffect : Site → Type 0
IsNoEffect (CallsProcedure span) = ⊥
IsNoEffect (EstelleStatement span) = ⊥
IsNoEffect x = Unit {0}

abbrev pub NoEffects : Sites → Type 0
NoEffects = Each IsNoEffect

-- ---- what rules and events say of a node

abbrev Sited : Kind → Type 0
Sited kind.stmt = Sites
Sited kind.branch = Alternative
Sited kind.stmts = Sites

abbrev site_layers : (env : Env) (k : Kind) → Layer k Sited → Sited k
site_layers env kind.stmt = sites.stmt_layer env
site_layers env kind.branch = sites.case_layer
site_layers env kind.stmts = sites.stmts_layer

abbrev pub Named : Kind → Type 0
Named k = Events

abbrev pub event_layers : (k : Kind) → Layer k Named → Named k
event_layers kind.stmt = stmt_layer
event_layers kind.branch = case_layer
event_layers kind.stmts = stmts_layer

module _ (env : Env) (known : Meanings) where
  abbrev NodeTold : (k : Kind) → Sited k → Named k → Bool → Type 0
  NodeTold kind.stmt ss es b = NoEffects ss → AllUseNone known es → b ≡ true
  NodeTold kind.branch a es b = NoEffects a.1 → AllUseNone known es → b ≡ true
  NodeTold kind.stmts ss es b = NoEffects ss → AllUseNone known es → b ≡ true

  abbrev Nodes : Kind → Type 0
  Nodes = Triples statements Sited Named (λ k. Bool) (site_layers env) event_layers (quiet_layers known) NodeTold

  abbrev Keeps : (k : Kind) → Layer k Nodes → Type 0
  Keeps = KeepsAt statements Sited Named (λ k. Bool) (site_layers env) event_layers (quiet_layers known) NodeTold

  U : Events → Type 0
  U = AllUseNone known

  abbrev Both : Events → Events → Type 0
  Both es fs = AllUseNone known (es ++ fs)

  front : (es fs : Events) → Both es fs → AllUseNone known es
  front = each_front (UsesNone known)

  back : (es fs : Events) → Both es fs → AllUseNone known fs
  back = each_back (UsesNone known)

  -- the cases of a `case`
  cases_told : (selector : Option PascalType) (values : List Value) (xs : List (Nodes kind.branch)) → NoEffects (alternatives env selector values (map (λ (x : Nodes kind.branch). x.left) xs)) → AllUseNone known (flat_map (λ c. c) (map (λ (x : Nodes kind.branch). x.right) xs))
      → each_is (map (λ (x : Nodes kind.branch). x.third) xs) ≡ true
  cases_told selector values [] n u = refl
  cases_told selector values (x ∷ xs) n u =
      let more = alternatives env selector (with_labels env values x.left.0) (map (λ (y : Nodes kind.branch). y.left) xs) in
      let events = flat_map (λ c. c) (map (λ (y : Nodes kind.branch). y.right) xs) in
      let here = each_front IsNoEffect (labels env selector values x.left.0 ++ x.left.1) more n in
      both_and x.third _ (x.holds (each_back IsNoEffect (labels env selector values x.left.0) x.left.1 here) (front x.right events u))
      (cases_told selector (with_labels env values x.left.0) xs (each_back IsNoEffect (labels env selector values x.left.0 ++ x.left.1) more n) (back x.right events u))

  all_told : (xs : List (Nodes kind.stmt)) → NoEffects (flat_map (λ s. s) (map (λ (x : Nodes kind.stmt). x.left) xs)) → AllUseNone known (flat_map (λ s. s) (map (λ (x : Nodes kind.stmt). x.right) xs)) → each_is (map (λ (x : Nodes kind.stmt). x.third) xs) ≡ true
  all_told [] n u = refl
  all_told (x ∷ xs) n u =
      let more = flat_map (λ s. s) (map (λ (y : Nodes kind.stmt). y.left) xs) in
      let events = flat_map (λ s. s) (map (λ (y : Nodes kind.stmt). y.right) xs) in
      both_and x.third _ (x.holds (each_front IsNoEffect x.left more n) (front x.right events u)) (all_told xs (each_back IsNoEffect x.left more n) (back x.right events u))

  keeps : (k : Kind) (l : Layer k Nodes) → Keeps k l
  keeps kind.stmt Stmt-F.Empty = λ n u. refl
  keeps kind.stmt (Stmt-F.Assign v e span) = λ n u.
      both_and (variable_names_no_procedure known v) (names_no_procedure known e) (variable_told known v need.Assigned tt (front (assigned v) (expr e) u)) (expr_told known e (back (assigned v) (expr e) u))
  keeps kind.stmt (Stmt-F.Begin body span) = λ n u. body.holds n u
  keeps kind.stmt (Stmt-F.If test then_part None span) = λ n u.
      let after = each_back IsNoEffect (condition env test) (then_part.left ++ []) n in
      let events = back (expr test) (then_part.right ++ []) u in
      both_and (names_no_procedure known test) _ (expr_told known test (front (expr test) (then_part.right ++ []) u))
      (both_and then_part.third true (then_part.holds (each_front IsNoEffect then_part.left [] after) (front then_part.right [] events)) refl)
  keeps kind.stmt (Stmt-F.If test then_part (Some p) span) = λ n u.
      let after = each_back IsNoEffect (condition env test) (then_part.left ++ p.left) n in
      let events = back (expr test) (then_part.right ++ p.right) u in
      both_and (names_no_procedure known test) _ (expr_told known test (front (expr test) (then_part.right ++ p.right) u))
      (both_and then_part.third p.third (then_part.holds (each_front IsNoEffect then_part.left p.left after) (front then_part.right p.right events))
      (p.holds (each_back IsNoEffect then_part.left p.left after) (back then_part.right p.right events)))
  keeps kind.stmt (Stmt-F.While test body span) = λ n u.
      both_and (names_no_procedure known test) body.third (expr_told known test (front (expr test) body.right u)) (body.holds (each_back IsNoEffect (condition env test) body.left n) (back (expr test) body.right u))
  keeps kind.stmt (Stmt-F.Repeat body test span) = λ n u.
      both_and body.third (names_no_procedure known test) (body.holds (each_front IsNoEffect body.left (condition env test) n) (front body.right (expr test) u)) (expr_told known test (back body.right (expr test) u))
  keeps kind.stmt (Stmt-F.Count x first dir last body span) = λ n u.
      let after = back (expr first) (expr last ++ body.right) u.1 in
      both_and (names_no_procedure known first) _ (expr_told known first (front (expr first) (expr last ++ body.right) u.1))
      (both_and (names_no_procedure known last) body.third (expr_told known last (front (expr last) body.right after))
      (body.holds (each_back IsNoEffect (counting env span x first last) body.left n) (back (expr last) body.right after)))
  keeps kind.stmt (Stmt-F.Case e cases semicolon span) = λ n u.
      let judged = site_expressions.expr env e in
      let events = flat_map (λ c. c) (map (λ (x : Nodes kind.branch). x.right) cases) in
      both_and (names_no_procedure known e) _ (expr_told known e (front (expr e) events u))
      (cases_told judged.typed.type_ [] cases (each_back IsNoEffect judged.sites _ n) (back (expr e) events u))
  keeps kind.stmt (Stmt-F.Call x es span) = λ n u. absurd n.0
  keeps kind.stmt (Stmt-F.Init x b es span) = λ n u. absurd n.0
  keeps kind.stmt (Stmt-F.Release x span) = λ n u. absurd n.0
  keeps kind.stmt (Stmt-F.Connect a b span) = λ n u. absurd n.0
  keeps kind.stmt (Stmt-F.Disconnect a span) = λ n u. absurd n.0
  keeps kind.stmt (Stmt-F.Attach p x q span) = λ n u. absurd n.0
  keeps kind.stmt (Stmt-F.Detach p span) = λ n u. absurd n.0
  keeps kind.stmt (Stmt-F.Output p m es span) = λ n u. absurd n.0
  keeps kind.branch l = λ n u. l.body.holds n (back (flat_map const_events l.labels) l.body.right u)
  keeps kind.stmts l = λ n u. all_told l.stmts n u

  pub stmts_told : (x : Stmts) → NoEffects (sites.stmts env x) → AllUseNone known (stmts x) → are_quiet known x ≡ true
  unfolding sites.stmt sites.case_ sites.stmts stmt case_ stmts are_quiet
  stmts_told = folds_related statements Sited Named (λ k. Bool) (site_layers env) event_layers (quiet_layers known) NodeTold keeps kind.stmts
