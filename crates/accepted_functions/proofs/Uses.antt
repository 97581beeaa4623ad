-- Expressions and statements say of names only that they are used: what holds of each such event holds of all that they say.
use Rattle.std.proofs.Common.{List, [], ◌∷◌, ◌++◌, map, Option, Some, None}
use Rattle.std.specs.List.{flat_map}
use Rattle.estelle_tree.specs.declared.span.Span.{Span}
use Rattle.estelle_tree.specs.declared.tree.name.Name.{Name}
use Rattle.estelle_tree.specs.declared.tree.type_expr.Const.{Const}
use Rattle.estelle_tree.specs.declared.tree.type_expr.Const.TheVariants as const
use Rattle.estelle_tree.specs.declared.tree.expression.Relation.{Relation}
use Rattle.estelle_tree.specs.declared.tree.expression.Adding.{Adding}
use Rattle.estelle_tree.specs.declared.tree.expression.Multiplying.{Multiplying}
use Rattle.estelle_tree.specs.declared.tree.expression.Args.{Args}
use Rattle.estelle_tree.specs.declared.tree.expression.Expr.{Expr}
use Rattle.estelle_tree.specs.declared.tree.expression.Variable.{Variable}
use Rattle.estelle_tree.specs.declared.tree.expression.Factor.TheOpen.{Factor-F, Selector-F}
use Rattle.estelle_tree.specs.declared.tree.statement.Stmts.{Stmts}
use Rattle.estelle_tree.specs.declared.tree.statement.Stmt.TheOpen.{Stmt-F}
use Rattle.estelle_tree.proofs.Folds.{Related, Pairs, KeepsAt, folds_related}
use Rattle.estelle_tree.proofs.ExpressionFolds as kind
use Rattle.estelle_tree.proofs.ExpressionFolds.{Kind, Layer, expressions}
use Rattle.estelle_tree.proofs.StatementFolds as statement_kind
use Rattle.estelle_tree.proofs.StatementFolds.{Kind as StatementKind, Layer as StatementLayer, statements}
use Rattle.scope_rules.specs.declared.declaration.Need.{Need}
use Rattle.scope_rules.specs.declared.declaration.Need.TheVariants as need
use Rattle.scope_rules.specs.declared.event.Step.{Step}
use Rattle.scope_rules.specs.declared.event.Event.{Event}
use Rattle.scope_rules.specs.declared.event.Event.TheVariants.{Use, Init}
use Rattle.scope_rules.specs.TypeEvents.{Events, const_events}
use Rattle.scope_rules.specs.ExpressionEvents.{optional, Selected, expr, args, factor, selector, elem, simple, term, variable, assigned}
use Rattle.scope_rules.specs.StatementEvents.{ip_part, ip_events, stmt, case_, stmts}
use Rattle.accepted_states.proofs.Lists.{Each, each_append}
use Rattle.accepted_functions.proofs.Expressions.{Results, layers}
use Rattle.accepted_functions.proofs.Statements.{Named, event_layers}

module _ (U : Event → Type 0) (used : (x : Name) (n : Need) (steps : List Step) → U (Use x n steps)) where
  -- ---- expressions

  abbrev One : Type 0
  One = Related Events (Unit {0}) (λ es u. Each U es)

  all_of : (xs : List One) → Each U (flat_map (λ x. x) (map (λ (x : One). x.left) xs))
  all_of [] = tt
  all_of (x ∷ xs) = each_append U x.left (flat_map (λ x. x) (map (λ (x : One). x.left) xs)) x.holds (all_of xs)

  marked_of : {M : Type 0} (xs : List (M × One)) → Each U (flat_map (λ (x : M × Events). x.1) (map {B = M × Events} (λ (x : M × One). (x.0, x.1.left)) xs))
  marked_of [] = tt
  marked_of {M} (x ∷ xs) = each_append U x.1.left (flat_map (λ (y : M × Events). y.1) (map {B = M × Events} (λ (y : M × One). (y.0, y.1.left)) xs)) x.1.holds (marked_of xs)

  abbrev OneSelector : Type 0
  OneSelector = Related Selected (Unit {0}) (λ s u. Each U s.1)

  selectors_of : (xs : List OneSelector) → Each U (flat_map (λ (s : Selected). s.1) (map (λ (x : OneSelector). x.left) xs))
  selectors_of [] = tt
  selectors_of (x ∷ xs) = each_append U x.left.1 (flat_map (λ (s : Selected). s.1) (map (λ (x : OneSelector). x.left) xs)) x.holds (selectors_of xs)

  abbrev NodeHas : (k : Kind) → Results k → Unit {0} → Type 0
  NodeHas kind.factor es u = Each U es
  NodeHas kind.selector s u = Each U s.1
  NodeHas kind.args es u = Each U es
  NodeHas kind.elem es u = Each U es
  NodeHas kind.expr es u = Each U es
  NodeHas kind.simple es u = Each U es
  NodeHas kind.term es u = Each U es
  NodeHas kind.variable v u = Each U v.2

  abbrev Nodes : Kind → Type 0
  Nodes = Pairs expressions Results (λ k. Unit {0}) layers (λ k l. tt) NodeHas

  abbrev Keeps : (k : Kind) → Layer k Nodes → Type 0
  Keeps = KeepsAt expressions Results (λ k. Unit {0}) layers (λ k l. tt) NodeHas

  at_elem : (first : One) (last : Option One) (span : Span) → Keeps kind.elem (record { first = first; last = last; span = span })
  at_elem first None span = each_append U first.left [] first.holds tt
  at_elem first (Some e) span = each_append U first.left e.left first.holds e.holds

  at_expr : (left : One) (right : Option (Relation × One)) (span : Span) → Keeps kind.expr (record { left = left; right = right; span = span })
  at_expr left None span = each_append U left.left [] left.holds tt
  at_expr left (Some x) span = each_append U left.left x.1.left left.holds x.1.holds

  keeps : (k : Kind) (l : Layer k Nodes) → Keeps k l
  keeps kind.factor (Factor-F.Number n span) = tt
  keeps kind.factor (Factor-F.Char n span) = tt
  keeps kind.factor (Factor-F.Variable v) = (used v.left.0 _ v.left.1, v.holds)
  keeps kind.factor (Factor-F.Call x es span) = (used x need.Function [], es.holds)
  keeps kind.factor (Factor-F.Paren e span) = e.holds
  keeps kind.factor (Factor-F.Not e span) = e.holds
  keeps kind.factor (Factor-F.Set elems span) = all_of elems
  keeps kind.selector (Selector-F.Index es) = all_of es
  keeps kind.selector (Selector-F.Field x) = tt
  keeps kind.args l = all_of l.exprs
  keeps kind.elem l = at_elem l.first l.last l.span
  keeps kind.expr l = at_expr l.left l.right l.span
  keeps kind.simple l = each_append U l.first.left (flat_map (λ (x : Adding × Events). x.1) (map {B = Adding × Events} (λ (x : Adding × One). (x.0, x.1.left)) l.others)) l.first.holds (marked_of l.others)
  keeps kind.term l = each_append U l.first.left (flat_map (λ (x : Multiplying × Events). x.1) (map {B = Multiplying × Events} (λ (x : Multiplying × One). (x.0, x.1.left)) l.others)) l.first.holds (marked_of l.others)
  keeps kind.variable l = selectors_of l.selectors

  nodes_have : (k : Kind) (x : kind.Tree k) → NodeHas k (kind.folded Results layers k x) (kind.folded (λ k. Unit {0}) (λ k l. tt) k x)
  nodes_have = folds_related expressions Results (λ k. Unit {0}) layers (λ k l. tt) NodeHas keeps

  pub expr_all : (x : Expr) → Each U (expr x)
  unfolding factor selector args elem expr simple term variable
  expr_all = nodes_have kind.expr

  args_all : (x : Args) → Each U (args x)
  unfolding factor selector args elem expr simple term variable
  args_all = nodes_have kind.args

  variable_all : (x : Variable) → Each U (variable x).2
  unfolding factor selector args elem expr simple term variable
  variable_all = nodes_have kind.variable

  -- ---- statements

  pub const_all : (c : Const) → Each U (const_events c)
  const_all (const.Number s v span) = tt
  const_all (const.Name s x span) = (used x need.Constant [], tt)
  const_all (const.Char v span) = tt

  consts_all : (cs : List Const) → Each U (flat_map const_events cs)
  consts_all [] = tt
  consts_all (c ∷ cs) = each_append U (const_events c) (flat_map const_events cs) (const_all c) (consts_all cs)

  some_args : (a : Option Args) → Each U (optional args a)
  some_args None = tt
  some_args (Some a) = args_all a

  assigned_all : (v : Variable) → Each U (assigned v)
  assigned_all v = (used (variable v).0 _ (variable v).1, variable_all v)

  ip_all : (alone : Need) (x : Name) (o : Option Name) → Each U (ip_part alone x o)
  ip_all alone x None = (used x alone [], tt)
  ip_all alone x (Some p) = (used x need.ModuleVariable _, tt)

  module _ (begun : (x y : Name) → U (Init x y)) where
    abbrev Statements : StatementKind → Type 0
    Statements = Pairs statements Named (λ k. Unit {0}) event_layers (λ k l. tt) (λ k es u. Each U es)

    keeps_statement : (k : StatementKind) (l : StatementLayer k Statements) → KeepsAt statements Named (λ k. Unit {0}) event_layers (λ k l. tt) (λ k es u. Each U es) k l
    keeps_statement statement_kind.stmt Stmt-F.Empty = tt
    keeps_statement statement_kind.stmt (Stmt-F.Assign v e span) = each_append U (assigned v) (expr e) (assigned_all v) (expr_all e)
    keeps_statement statement_kind.stmt (Stmt-F.Call x a span) = (used x need.Procedure [], some_args a)
    keeps_statement statement_kind.stmt (Stmt-F.Begin body span) = body.holds
    keeps_statement statement_kind.stmt (Stmt-F.If test then_part None span) = each_append U (expr test) (then_part.left ++ []) (expr_all test) (each_append U then_part.left [] then_part.holds tt)
    keeps_statement statement_kind.stmt (Stmt-F.If test then_part (Some p) span) = each_append U (expr test) (then_part.left ++ p.left) (expr_all test) (each_append U then_part.left p.left then_part.holds p.holds)
    keeps_statement statement_kind.stmt (Stmt-F.While test body span) = each_append U (expr test) body.left (expr_all test) body.holds
    keeps_statement statement_kind.stmt (Stmt-F.Repeat body test span) = each_append U body.left (expr test) body.holds (expr_all test)
    keeps_statement statement_kind.stmt (Stmt-F.Count x first dir last body span) = (used x need.Variable [], each_append U (expr first) (expr last ++ body.left) (expr_all first) (each_append U (expr last) body.left (expr_all last) body.holds))
    keeps_statement statement_kind.stmt (Stmt-F.Case e cases semicolon span) = each_append U (expr e) (flat_map (λ c. c) (map (λ (x : One). x.left) cases)) (expr_all e) (all_of cases)
    keeps_statement statement_kind.stmt (Stmt-F.Init x b a span) = (used x need.ModuleVariable [], (used b need.Body [], (begun x b, some_args a)))
    keeps_statement statement_kind.stmt (Stmt-F.Release x span) = (used x need.ModuleVariable [], tt)
    keeps_statement statement_kind.stmt (Stmt-F.Connect a b span) = each_append U (ip_events need.Ip a) (ip_events need.Ip b) (ip_all need.Ip a.name a.part) (ip_all need.Ip b.name b.part)
    keeps_statement statement_kind.stmt (Stmt-F.Disconnect a span) = ip_all need.Disconnected a.name a.part
    keeps_statement statement_kind.stmt (Stmt-F.Attach p x q span) = (used p need.Ip [], (used x need.ModuleVariable _, tt))
    keeps_statement statement_kind.stmt (Stmt-F.Detach p span) = (used p need.Ip [], tt)
    keeps_statement statement_kind.stmt (Stmt-F.Output p m a span) = (used p need.Ip _, some_args a)
    keeps_statement statement_kind.branch l = each_append U (flat_map const_events l.labels) l.body.left (consts_all l.labels) l.body.holds
    keeps_statement statement_kind.stmts l = all_of l.stmts

    pub stmts_all : (x : Stmts) → Each U (stmts x)
    unfolding stmt case_ stmts
    stmts_all = folds_related statements Named (λ k. Unit {0}) event_layers (λ k l. tt) (λ k es u. Each U es) keeps_statement statement_kind.stmts
