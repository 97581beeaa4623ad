-- An expression whose names in use mean no procedure names none.
use Rattle.std.proofs.Common.{◌≡◌, Bool, true, List, [], ◌∷◌, map, Option, Some, None, refl}
use Rattle.std.specs.List.{flat_map, list_all}
use Rattle.estelle_tree.specs.declared.span.Span.{Span}
use Rattle.estelle_tree.specs.declared.tree.name.Name.{Name}
use Rattle.estelle_tree.specs.declared.tree.expression.Relation.{Relation}
use Rattle.estelle_tree.specs.declared.tree.expression.Adding.{Adding}
use Rattle.estelle_tree.specs.declared.tree.expression.Multiplying.{Multiplying}
use Rattle.estelle_tree.specs.declared.tree.expression.Expr.{Expr}
use Rattle.estelle_tree.specs.declared.tree.expression.Variable.{Variable}
use Rattle.estelle_tree.specs.declared.tree.expression.Factor.TheOpen.{Factor-F, Selector-F}
use Rattle.estelle_tree.proofs.Folds.{Related, Pairs, KeepsAt, folds_related}
use Rattle.estelle_tree.proofs.ExpressionFolds as kind
use Rattle.estelle_tree.proofs.ExpressionFolds.{Kind, Layer, expressions}
use Rattle.estelle_model.specs.Meant.{Meanings}
use Rattle.estelle_model_legality.proofs.Lists.{both_and}
use Rattle.scope_rules.specs.declared.declaration.Need.{Need}
use Rattle.scope_rules.specs.declared.declaration.Need.TheVariants as need
use Rattle.scope_rules.specs.declared.event.Step.{Step}
use Rattle.scope_rules.specs.declared.event.Step.TheVariants as step
use Rattle.scope_rules.specs.declared.event.Event.{Event}
use Rattle.scope_rules.specs.declared.event.Event.TheVariants.{Use}
use Rattle.scope_rules.specs.TypeEvents.{Events}
use Rattle.scope_rules.specs.ExpressionEvents.{Selected, Accessed, needed, access_events, factor_layer, selector_layer, args_layer, elem_layer, expr_layer, simple_layer, term_layer, variable_layer, expr, args, factor, selector, elem, simple, term, variable}
use Rattle.guards_seen.specs.Quiet.{is_no_procedure, each_is, names_no_procedure, variable_names_no_procedure}
use Rattle.guards_seen.proofs.Expressions.{no_procedure_layers}
use Rattle.accepted_states.proofs.Lists.{Each, each_front, each_back}

-- ---- what events say of a node

abbrev pub Results : Kind → Type 0
Results kind.factor = Events
Results kind.selector = Selected
Results kind.args = Events
Results kind.elem = Events
Results kind.expr = Events
Results kind.simple = Events
Results kind.term = Events
Results kind.variable = Accessed

abbrev pub layers : (k : Kind) → Layer k Results → Results k
layers kind.factor = factor_layer
layers kind.selector = selector_layer
layers kind.args = args_layer
layers kind.elem = elem_layer
layers kind.expr = expr_layer
layers kind.simple = simple_layer
layers kind.term = term_layer
layers kind.variable = variable_layer

-- no procedure is needed
abbrev pub IsNoCall : Need → Type 0
IsNoCall need.Procedure = ⊥
IsNoCall n = Unit {0}

module _ (known : Meanings) where
  -- a name that is used, but where a procedure is called, means no procedure
  abbrev pub UsesNone : Event → Type 0
  UsesNone (Use x need.Procedure steps) = Unit {0}
  UsesNone (Use x n steps) = is_no_procedure (known x) ≡ true
  UsesNone e = Unit {0}

  abbrev pub AllUseNone : Events → Type 0
  AllUseNone = Each UsesNone

  used_none : (x : Name) (n : Need) (steps : List Step) → IsNoCall n → UsesNone (Use x n steps) → is_no_procedure (known x) ≡ true
  used_none x need.Procedure steps h u = absurd h
  used_none x _ steps h u = u

  needed_none : (alone : Need) → IsNoCall alone → (steps : List Step) → IsNoCall (needed alone steps)
  needed_none alone h [] = h
  needed_none alone h (step.Index ∷ more) = tt
  needed_none alone h (step.Member x n ∷ more) = tt
  needed_none alone h (step.Role x ∷ more) = tt

  -- ---- lists

  abbrev Told : Type 0
  Told = Related Events Bool (λ es b. AllUseNone es → b ≡ true)

  all_told : (xs : List Told) → AllUseNone (flat_map (λ x. x) (map (λ (x : Told). x.left) xs)) → each_is (map (λ (x : Told). x.right) xs) ≡ true
  all_told [] h = refl
  all_told (x ∷ xs) h =
      let more = flat_map (λ x. x) (map (λ (x : Told). x.left) xs) in
      both_and x.right _ (x.holds (each_front UsesNone x.left more h)) (all_told xs (each_back UsesNone x.left more h))

  marked_told : {M : Type 0} (xs : List (M × Told)) → AllUseNone (flat_map (λ (x : M × Events). x.1) (map {B = M × Events} (λ (x : M × Told). (x.0, x.1.left)) xs))
      → list_all (λ (o : M × Bool). o.1) (map {B = M × Bool} (λ (x : M × Told). (x.0, x.1.right)) xs) ≡ true
  marked_told [] h = refl
  marked_told {M} (x ∷ xs) h =
      let more = flat_map (λ (y : M × Events). y.1) (map {B = M × Events} (λ (y : M × Told). (y.0, y.1.left)) xs) in
      both_and x.1.right _ (x.1.holds (each_front UsesNone x.1.left more h)) (marked_told xs (each_back UsesNone x.1.left more h))

  abbrev ToldSelector : Type 0
  ToldSelector = Related Selected Bool (λ s b. AllUseNone s.1 → b ≡ true)

  selectors_told : (xs : List ToldSelector) → AllUseNone (flat_map (λ (s : Selected). s.1) (map (λ (x : ToldSelector). x.left) xs)) → each_is (map (λ (x : ToldSelector). x.right) xs) ≡ true
  selectors_told [] h = refl
  selectors_told (x ∷ xs) h =
      let more = flat_map (λ (s : Selected). s.1) (map (λ (x : ToldSelector). x.left) xs) in
      both_and x.right _ (x.holds (each_front UsesNone x.left.1 more h)) (selectors_told xs (each_back UsesNone x.left.1 more h))

  -- ---- trees

  abbrev NodeTold : (k : Kind) → Results k → Bool → Type 0
  NodeTold kind.factor es b = AllUseNone es → b ≡ true
  NodeTold kind.selector s b = AllUseNone s.1 → b ≡ true
  NodeTold kind.args es b = AllUseNone es → b ≡ true
  NodeTold kind.elem es b = AllUseNone es → b ≡ true
  NodeTold kind.expr es b = AllUseNone es → b ≡ true
  NodeTold kind.simple es b = AllUseNone es → b ≡ true
  NodeTold kind.term es b = AllUseNone es → b ≡ true
  NodeTold kind.variable v b = (alone : Need) → IsNoCall alone → AllUseNone (access_events alone v) → b ≡ true

  abbrev Nodes : Kind → Type 0
  Nodes = Pairs expressions Results (λ k. Bool) layers (no_procedure_layers known) NodeTold

  abbrev Keeps : (k : Kind) → Layer k Nodes → Type 0
  Keeps = KeepsAt expressions Results (λ k. Bool) layers (no_procedure_layers known) NodeTold

  at_elem : (first : Told) (last : Option Told) (span : Span) → Keeps kind.elem (record { first = first; last = last; span = span })
  at_elem first None span = λ h. both_and first.right true (first.holds (each_front UsesNone first.left [] h)) refl
  at_elem first (Some e) span = λ h. both_and first.right e.right (first.holds (each_front UsesNone first.left e.left h)) (e.holds (each_back UsesNone first.left e.left h))

  at_expr : (left : Told) (right : Option (Relation × Told)) (span : Span) → Keeps kind.expr (record { left = left; right = right; span = span })
  at_expr left None span = λ h. both_and left.right true (left.holds (each_front UsesNone left.left [] h)) refl
  at_expr left (Some x) span = λ h. both_and left.right x.1.right (left.holds (each_front UsesNone left.left x.1.left h)) (x.1.holds (each_back UsesNone left.left x.1.left h))

  keeps : (k : Kind) (l : Layer k Nodes) → Keeps k l
  keeps kind.factor (Factor-F.Number n span) = λ h. refl
  keeps kind.factor (Factor-F.Char n span) = λ h. refl
  keeps kind.factor (Factor-F.Variable v) = λ h. v.holds need.Value tt h
  keeps kind.factor (Factor-F.Call x es span) = λ h. both_and (is_no_procedure (known x)) es.right h.0 (es.holds h.1)
  keeps kind.factor (Factor-F.Paren e span) = λ h. e.holds h
  keeps kind.factor (Factor-F.Not e span) = λ h. e.holds h
  keeps kind.factor (Factor-F.Set elems span) = λ h. all_told elems h
  keeps kind.selector (Selector-F.Index es) = λ h. all_told es h
  keeps kind.selector (Selector-F.Field x) = λ h. refl
  keeps kind.args l = λ h. all_told l.exprs h
  keeps kind.elem l = at_elem l.first l.last l.span
  keeps kind.expr l = at_expr l.left l.right l.span
  keeps kind.simple l = λ h.
      let more = flat_map (λ (x : Adding × Events). x.1) (map {B = Adding × Events} (λ (x : Adding × Told). (x.0, x.1.left)) l.others) in
      both_and l.first.right _ (l.first.holds (each_front UsesNone l.first.left more h)) (marked_told l.others (each_back UsesNone l.first.left more h))
  keeps kind.term l = λ h.
      let more = flat_map (λ (x : Multiplying × Events). x.1) (map {B = Multiplying × Events} (λ (x : Multiplying × Told). (x.0, x.1.left)) l.others) in
      both_and l.first.right _ (l.first.holds (each_front UsesNone l.first.left more h)) (marked_told l.others (each_back UsesNone l.first.left more h))
  keeps kind.variable l = λ alone n h.
      let steps = flat_map (λ (s : Selected). s.0) (map (λ (x : ToldSelector). x.left) l.selectors) in
      both_and (is_no_procedure (known l.name)) _ (used_none l.name (needed alone steps) steps (needed_none alone n steps) h.0) (selectors_told l.selectors h.1)

  nodes_told : (k : Kind) (x : kind.Tree k) → NodeTold k (kind.folded Results layers k x) (kind.folded (λ k. Bool) (no_procedure_layers known) k x)
  nodes_told = folds_related expressions Results (λ k. Bool) layers (no_procedure_layers known) NodeTold keeps

  pub expr_told : (x : Expr) → AllUseNone (expr x) → names_no_procedure known x ≡ true
  unfolding factor selector args elem expr simple term variable names_no_procedure
  expr_told = nodes_told kind.expr

  pub variable_told : (x : Variable) (alone : Need) → IsNoCall alone → AllUseNone (access_events alone (variable x)) → variable_names_no_procedure known x ≡ true
  unfolding factor selector args elem expr simple term variable variable_names_no_procedure
  variable_told = nodes_told kind.variable
