-- Expressions, statements, clauses, channels and headers declare no types: so say the events.
use Rattle.std.proofs.Common.{◌≡◌, ◌∙◌, ℕ, zero, suc, Bool, true, false, List, [], ◌∷◌, ◌++◌, map, Option, Some, None, refl, ap, sym, subst, drop}
use Rattle.std.specs.Prelude.{flat_map}
use Rattle.std.specs.List.{AllByRecursion}
use Rattle.estelle_tree.specs.declared.kind.Kind.TheVariants as k
use Rattle.estelle_tree.specs.declared.span.Span.{Span}
use Rattle.estelle_tree.specs.declared.tree.name.Name.{Name}
use Rattle.estelle_tree.specs.declared.tree.type_expr.Const.{Const}
use Rattle.estelle_tree.specs.declared.tree.type_expr.Const.TheVariants as const
use Rattle.estelle_tree.specs.declared.tree.type_expr.Ordinal.{Ordinal}
use Rattle.estelle_tree.specs.declared.tree.type_expr.Ordinal.TheVariants as ordinal
use Rattle.estelle_tree.specs.declared.tree.type_expr.TypeExpr.{TypeExpr, out-TypeExpr, map-TypeExpr}
use Rattle.estelle_tree.specs.declared.tree.type_expr.TypeExpr.TheOpen.{TypeExpr-F}
use Rattle.estelle_tree.specs.declared.tree.type_expr.Fields.{Fields, out-Fields}
use Rattle.estelle_tree.specs.declared.tree.type_expr.TypedNames.{TypedNames, out-TypedNames}
use Rattle.estelle_tree.specs.declared.tree.expression.Expr.{Expr, out-Expr}
use Rattle.estelle_tree.specs.declared.tree.expression.Simple.{Simple, out-Simple}
use Rattle.estelle_tree.specs.declared.tree.expression.Term.{Term, out-Term}
use Rattle.estelle_tree.specs.declared.tree.expression.Factor.{Factor, out-Factor, map-Factor}
use Rattle.estelle_tree.specs.declared.tree.expression.Factor.TheOpen.{Factor-F, Selector-F}
use Rattle.estelle_tree.specs.declared.tree.expression.Factor.TheFolds.{map-Selector}
use Rattle.estelle_tree.specs.declared.tree.expression.Elem.{Elem, out-Elem}
use Rattle.estelle_tree.specs.declared.tree.expression.Args.{Args, out-Args}
use Rattle.estelle_tree.specs.declared.tree.expression.Variable.{Variable, out-Variable}
use Rattle.estelle_tree.specs.declared.tree.expression.Selector.{Selector, out-Selector}
use Rattle.estelle_tree.specs.declared.tree.statement.Ip.{Ip}
use Rattle.estelle_tree.specs.declared.tree.statement.Stmt.{Stmt, out-Stmt, map-Stmt}
use Rattle.estelle_tree.specs.declared.tree.statement.Stmt.TheOpen.{Stmt-F}
use Rattle.estelle_tree.specs.declared.tree.statement.Case.{Case, out-Case}
use Rattle.estelle_tree.specs.declared.tree.statement.Stmts.{Stmts, out-Stmts}
use Rattle.estelle_tree.specs.declared.tree.declaration.Formals.{Formals}
use Rattle.estelle_tree.specs.declared.tree.declaration.ConstDef.{ConstDef}
use Rattle.estelle_tree.specs.declared.tree.declaration.RoutineForm.{RoutineForm}
use Rattle.estelle_tree.specs.declared.tree.declaration.RoutineForm.TheVariants as form
use Rattle.estelle_tree.specs.declared.tree.clause.AnyDom.{AnyDom}
use Rattle.estelle_tree.specs.declared.tree.clause.NextState.TheVariants as next_state
use Rattle.estelle_tree.specs.declared.tree.clause.DelayHigh.TheVariants as delay_high
use Rattle.estelle_tree.specs.declared.tree.clause.Clause.TheVariants as clause
use Rattle.estelle_tree.specs.declared.tree.specification.Channel.{Channel}
use Rattle.estelle_tree.specs.declared.tree.specification.Inter.{Inter}
use Rattle.estelle_tree.specs.declared.tree.specification.InterGroup.{InterGroup}
use Rattle.estelle_tree.specs.declared.tree.specification.Params.{Params}
use Rattle.estelle_tree.specs.declared.tree.specification.IpDecl.{IpDecl}
use Rattle.estelle_tree.specs.declared.tree.specification.ModvarDecl.{ModvarDecl}
use Rattle.estelle_tree.specs.declared.tree.specification.StatesetDef.{StatesetDef}
use Rattle.estelle_tree.specs.Input.{Input}
use Rattle.estelle_tree.specs.Spans.{FactorLayer, SelectorLayer, StmtLayer, TypeExprLayer, of_ordinal}
use Rattle.estelle_tree.specs.Spelling.{Spelling, Behind, Optional, Lines}
use Rattle.estelle_tree.specs.Expressions.{TermOf, SimpleOf, ExprOf, ArgsOf, ElemOf, ElemsOf, SelectorLayerOf, SelectorOf, VariableOf, IsFactorLayer, FactorBelow, ExprBelow, IsExpr, of_adding, of_multiplying, of_relation}
use Rattle.estelle_tree.specs.Statements.{StmtsOf, CaseOf, IsStmtLayer, StmtBelow, MayBeArgs}
use Rattle.estelle_tree.specs.Types.{AreTyped, AreFields, IsTypeLayer, TypeBelow, IsType}
use Rattle.estelle_tree.specs.Clauses.{IsDelayHigh, IsClause}
use Rattle.estelle_tree.specs.Declarations.{AreVars}
use Rattle.estelle_tree.specs.Specification.{IsHeader}
use Rattle.scope_rules.specs.declared.declaration.Denotes.{Denotes}
use Rattle.scope_rules.specs.declared.declaration.Denotes.TheVariants as d
use Rattle.scope_rules.specs.declared.declaration.Need.{Need}
use Rattle.scope_rules.specs.declared.declaration.Need.TheVariants as need
use Rattle.scope_rules.specs.declared.declaration.Inside.{Inside}
use Rattle.scope_rules.specs.declared.declaration.Inside.TheVariants.{Nothing}
use Rattle.scope_rules.specs.declared.event.ScopeForm.TheVariants as scope
use Rattle.scope_rules.specs.declared.event.Event.{Event}
use Rattle.scope_rules.specs.declared.event.Event.TheVariants.{Open, Keep, Declare, By}
use Rattle.scope_rules.specs.TypeEvents.{Events, use_alone, const_events, ordinal_events, array_events, type_events, typed, sections, section, typed_names}
use Rattle.scope_rules.specs.TypeEvents as naming
use Rattle.scope_rules.specs.ExpressionEvents.{optional, Selected, Accessed, access_events, factor_layer, selector_layer, factor, selector, args, elem, expr, simple, term, variable}
use Rattle.scope_rules.specs.StatementEvents.{ip_part, stmt_layer, stmt, case_, stmts}
use Rattle.scope_rules.specs.DeclarationEvents.{const_def, formal, formals, result_type}
use Rattle.scope_rules.specs.ClauseEvents.{delay_high_events, clause_events}
use Rattle.scope_rules.specs.SpecificationEvents.{param_group, params, inter, inter_group, channel, ip_decl, modvar_decl, stateset_def, header}
use Rattle.scope_names_events.proofs.ExpressionEquations.{factor_is, selector_is, args_is, elem_is, expr_is, simple_is, term_is, variable_is}
use Rattle.scope_names_events.proofs.StatementEquations.{stmt_is, case_is, stmts_is}
use Rattle.scope_names_events.proofs.WritingLemmas.{chain_map}
use Rattle.scope_names_events.proofs.TypeEquations.{type_is, sections_is, section_is, record_is}
use Rattle.trace_forms.proofs.Lists.{all_append, all_flat, all_flat_of}
use Rattle.trace_forms.proofs.AllOf.{AllOf, of_chain, of_behind, of_enclosed, of_separated, of_lines, of_may_be_lines}
use Rattle.trace_forms.proofs.TypesFound.{types_at, types_in, where_type}

-- ---- events that declare no type

abbrev pub Typeless : Events → Type 0
Typeless = AllByRecursion (λ (e : Event). types_at e ≡ [])

pub none_typed : (es : Events) → Typeless es → types_in es ≡ []
none_typed [] h = refl
none_typed (e ∷ es) h = ap (λ xs. xs ++ types_in es) h.0 ∙ none_typed es h.1

-- an event by itself, and events one after another
abbrev IsTypeless : Event → Type 0
IsTypeless e = types_at e ≡ []

flat : {A : Type 0} (f : A → Events) (xs : List A) → AllByRecursion (λ x. Typeless (f x)) xs → Typeless (flat_map f xs)
flat f xs = all_flat_of (λ x. Typeless (f x)) IsTypeless f (λ x h. h) xs

both : (es fs : Events) → Typeless es → Typeless fs → Typeless (es ++ fs)
both = all_append IsTypeless

-- ---- events that declare no type, and keep no names

-- for which place names are kept
abbrev pub keeps_at : Event → List Span
keeps_at (Keep span) = span ∷ []
keeps_at e = []

abbrev pub IsQuiet : Event → Type 0
IsQuiet e = (types_at e ≡ []) × (keeps_at e ≡ [])

abbrev pub Quiet : Events → Type 0
Quiet = AllByRecursion IsQuiet

pub quiet_typeless : (es : Events) → Quiet es → Typeless es
quiet_typeless [] h = tt
quiet_typeless (e ∷ es) h = (h.0.0, quiet_typeless es h.1)

quiet_flat : {A : Type 0} (f : A → Events) (xs : List A) → AllByRecursion (λ x. Quiet (f x)) xs → Quiet (flat_map f xs)
quiet_flat f xs = all_flat_of (λ x. Quiet (f x)) IsQuiet f (λ x h. h) xs

quiet_both : (es fs : Events) → Quiet es → Quiet fs → Quiet (es ++ fs)
quiet_both = all_append IsQuiet

quiet_maybe : {A : Type 0} (f : A → Events) {S : Spelling A} → AllOf (λ x. Quiet (f x)) S → AllOf (λ o. Quiet (optional f o)) (Optional S)
quiet_maybe f F None i j h = tt
quiet_maybe f F (Some x) i j h = F x i j h

pub const_quiet : (c : Const) → Quiet (const_events c)
const_quiet (const.Number s n span) = tt
const_quiet (const.Name s x span) = ((refl, refl), tt)
const_quiet (const.Char c span) = tt

pub ordinal_quiet : (o : Ordinal) → Quiet (ordinal_events o)
ordinal_quiet (ordinal.Name x) = ((refl, refl), tt)
ordinal_quiet (ordinal.Enumeration names span) = ((refl, refl), tt)
ordinal_quiet (ordinal.Subrange low high span) = quiet_both (const_events low) (const_events high) (const_quiet low) (const_quiet high)

-- ---- constants and types

pub ordinal_typeless : (o : Ordinal) → Typeless (ordinal_events o)
ordinal_typeless o = quiet_typeless (ordinal_events o) (ordinal_quiet o)

ordinals_typeless : (is : List Ordinal) → Typeless (flat_map ordinal_events is)
ordinals_typeless = all_flat IsTypeless ordinal_events ordinal_typeless

arrays_typeless : (at : Span) (is : List Ordinal) (inside : Inside) → Typeless (array_events at is inside)
arrays_typeless at [] inside = (refl, tt)
arrays_typeless at (i ∷ is) inside = (refl, arrays_typeless (of_ordinal i) is inside)

fields_typeless : (xs : List TypedNames) → Typeless (flat_map (λ x. Declare (section x).0.names d.Field (section x).1.0 ∷ []) xs)
fields_typeless = all_flat IsTypeless (λ x. Declare (section x).0.names d.Field (section x).1.0 ∷ []) (λ x. (refl, tt))

module _ (T : Spelling TypeExpr) (all : AllOf (λ t. Typeless (type_events t)) T) where
  section_typeless : AllOf (λ x. Typeless (section x).1.1) (AreTyped T)
  section_typeless x i j h = subst (λ (s : naming.Section). Typeless s.1.1) (sym (section_is x)) (all (out-TypedNames x).type_expr h.at j h.second)

  record_typeless : (at : Span) (fs : Fields) (i j : Input) → AreFields T fs i j → Typeless (naming.record_events at (sections fs))
  record_typeless at fs i j h =
      let xs = (out-Fields fs).sections in
      let S = flat_map (λ x. (section x).1.1) xs in
      let D = flat_map (λ x. Declare (section x).0.names d.Field (section x).1.0 ∷ []) xs in
      subst (λ (ss : List naming.Section). Typeless (naming.record_events at ss)) (sym (sections_is fs))
      (subst Typeless (sym (record_is at xs))
      (both S (Open scope.Inner ∷ (D ++ Keep at ∷ [])) (flat (λ x. (section x).1.1) xs (of_separated k.Semicolon section_typeless xs i h.mid h.sections)) (refl, both D (Keep at ∷ []) (fields_typeless xs) (refl, tt))))

  type_layer_typeless : (room : ℕ) (l : TypeExprLayer) (i j : Input) → IsTypeLayer room T l i j → Typeless (naming.type_layer (map-TypeExpr TypeExpr Fields TypedNames naming.Typed (List naming.Section) naming.Section typed sections section l)).1
  type_layer_typeless room (TypeExpr-F.Ordinal o) i j h = ordinal_typeless o
  type_layer_typeless room (TypeExpr-F.Array packed indices component span) i j h =
      both (flat_map ordinal_events indices) (type_events component ++ array_events span (drop 1 indices) (typed component).0) (ordinals_typeless indices)
      (both (type_events component) (array_events span (drop 1 indices) (typed component).0) (of_behind all component h.1.mid j h.1.component) (arrays_typeless span (drop 1 indices) (typed component).0))
  type_layer_typeless room (TypeExpr-F.Fields packed fields span) i j h = record_typeless span fields h.1.fields.at h.1.fields.mid h.1.fields.inside
  type_layer_typeless room (TypeExpr-F.Set packed base span) i j h = ordinal_typeless base

type_below_typeless : (room : ℕ) → AllOf (λ t. Typeless (type_events t)) (TypeBelow room)
type_below_typeless zero t i j h = absurd h
type_below_typeless (suc room) t i j h = subst (λ (p : naming.Typed). Typeless p.1) (sym (type_is t)) (type_layer_typeless (TypeBelow room) (type_below_typeless room) room (out-TypeExpr t) i j h)

pub type_typeless : (room : ℕ) → AllOf (λ t. Typeless (type_events t)) (IsType room)
type_typeless room = type_below_typeless (suc room)

-- names with their type, which are declared as no type
pub typed_typeless : (room : ℕ) (kind : Denotes) → ((xs : List Name) → where_type kind xs ≡ []) → AllOf (λ x. Typeless (typed_names kind x)) (AreTyped (IsType room))
typed_typeless room kind other x i j h =
    both (section x).1.1 (Declare (section x).0.names kind (section x).1.0 ∷ []) (section_typeless (IsType room) (type_typeless room) x i j h) (other (section x).0.names, tt)

-- ---- expressions

module _ (F : Spelling Factor) (all : AllOf (λ x. Quiet (factor x)) F) where
  term_quiet : AllOf (λ x. Quiet (term x)) (TermOf F)
  term_quiet t i j h =
      let o = out-Term t in
      subst Quiet (sym (term_is t))
      (quiet_both (factor o.first) (flat_map (λ y. factor y.1) o.others) (all o.first i h.mid h.first) (quiet_flat (λ y. factor y.1) o.others (of_chain {S = λ y. Behind (of_multiplying y.0) F y.1} (λ y i j h. all y.1 h.at j h.item) o.others h.mid j h.others)))

  simple_quiet : AllOf (λ x. Quiet (simple x)) (SimpleOf F)
  simple_quiet s i j h =
      let o = out-Simple s in
      subst Quiet (sym (simple_is s))
      (quiet_both (term o.first) (flat_map (λ y. term y.1) o.others) (term_quiet o.first h.at h.mid h.first) (quiet_flat (λ y. term y.1) o.others (of_chain {S = λ y. Behind (of_adding y.0) (TermOf F) y.1} (λ y i j h. term_quiet y.1 h.at j h.item) o.others h.mid j h.others)))

  expr_of_quiet : AllOf (λ x. Quiet (expr x)) (ExprOf F)
  expr_of_quiet e i j h =
      let o = out-Expr e in
      subst Quiet (sym (expr_is e))
      (quiet_both (simple o.left) (optional (λ y. simple y.1) o.right) (simple_quiet o.left i h.mid h.left) (quiet_maybe (λ y. simple y.1) {S = λ y. Behind (of_relation y.0) (SimpleOf F) y.1} (λ y i j h. simple_quiet y.1 h.at j h.item) o.right h.mid j h.right))

  args_of_quiet : AllOf (λ x. Quiet (args x)) (ArgsOf F)
  args_of_quiet a i j h = subst Quiet (sym (args_is a)) (quiet_flat expr (out-Args a).exprs (of_separated k.Comma expr_of_quiet (out-Args a).exprs i j h.exprs))

  elem_quiet : AllOf (λ x. Quiet (elem x)) (ElemOf F)
  elem_quiet x i j h =
      let o = out-Elem x in
      subst Quiet (sym (elem_is x)) (quiet_both (expr o.first) (optional expr o.last) (expr_of_quiet o.first i h.mid h.first) (quiet_maybe expr (of_behind expr_of_quiet) o.last h.mid j h.last))

  elems_quiet : AllOf (λ xs. Quiet (flat_map elem xs)) (ElemsOf F)
  elems_quiet [] i j h = tt
  elems_quiet (x ∷ xs) i j h = quiet_flat elem (x ∷ xs) (of_separated k.Comma elem_quiet (x ∷ xs) i j h)

  module _ (room : ℕ) where
    selector_layer_quiet : (l : SelectorLayer) (i j : Input) → SelectorLayerOf room F l i j
        → Quiet (selector_layer (map-Selector Factor Selector Args Elem Expr Simple Term Variable Events Selected Events Events Events Events Events Accessed factor selector args elem expr simple term variable l)).1
    selector_layer_quiet (Selector-F.Index exprs) i j h = subst Quiet (sym (chain_map (λ (es : Events). es) expr exprs)) (quiet_flat expr exprs (of_enclosed (of_separated k.Comma expr_of_quiet) exprs i j h.1))
    selector_layer_quiet (Selector-F.Field x) i j h = tt

    selector_quiet : AllOf (λ s. Quiet (selector s).1) (SelectorOf room F)
    selector_quiet s i j h = subst (λ (p : Selected). Quiet p.1) (sym (selector_is s)) (selector_layer_quiet (out-Selector s) i j h)

    access_quiet : (alone : Need) → AllOf (λ v. Quiet (access_events alone (variable v))) (VariableOf room F)
    access_quiet alone v i j h =
        let ss = (out-Variable v).selectors in
        subst (λ (a : Accessed). Quiet (access_events alone a)) (sym (variable_is v)) ((refl, refl), quiet_flat (λ s. (selector s).1) ss (of_chain selector_quiet ss h.mid j h.selectors))

    factor_layer_quiet : (l : FactorLayer) (i j : Input) → IsFactorLayer room F l i j
        → Quiet (factor_layer (map-Factor Factor Selector Args Elem Expr Simple Term Variable Events Selected Events Events Events Events Events Accessed factor selector args elem expr simple term variable l))
    factor_layer_quiet (Factor-F.Number value span) i j h = tt
    factor_layer_quiet (Factor-F.Char value span) i j h = tt
    factor_layer_quiet (Factor-F.Variable v) i j h = access_quiet need.Value v i j h
    factor_layer_quiet (Factor-F.Call x a span) i j h = ((refl, refl), of_enclosed args_of_quiet a h.1.mid j h.1.args)
    factor_layer_quiet (Factor-F.Paren inner span) i j h = of_enclosed expr_of_quiet inner i j h.1
    factor_layer_quiet (Factor-F.Not operand span) i j h = of_behind all operand i j h.1
    factor_layer_quiet (Factor-F.Set elems span) i j h = subst Quiet (sym (chain_map (λ (es : Events). es) elem elems)) (of_enclosed elems_quiet elems i j h.1)

factor_below_quiet : (room : ℕ) → AllOf (λ x. Quiet (factor x)) (FactorBelow room)
factor_below_quiet zero f i j h = absurd h
factor_below_quiet (suc room) f i j h = subst Quiet (sym (factor_is f)) (factor_layer_quiet (FactorBelow room) (factor_below_quiet room) room (out-Factor f) i j h)

expr_below_quiet : (room : ℕ) → AllOf (λ x. Quiet (expr x)) (ExprBelow room)
expr_below_quiet room = expr_of_quiet (FactorBelow room) (factor_below_quiet room)

expr_quiet : (room : ℕ) → AllOf (λ x. Quiet (expr x)) (IsExpr room)
expr_quiet room = expr_below_quiet (suc room)

may_be_args_quiet : (room : ℕ) → AllOf (λ o. Quiet (optional args o)) (MayBeArgs room)
may_be_args_quiet room = quiet_maybe args (of_enclosed (args_of_quiet (FactorBelow (suc room)) (factor_below_quiet (suc room))))

-- ---- statements

ip_quiet : (alone : Need) (p : Ip) → Quiet (ip_part alone p.name p.part)
ip_quiet alone p = by p.part
  where
    by : (o : Option Name) → Quiet (ip_part alone p.name o)
    by None = ((refl, refl), tt)
    by (Some x) = ((refl, refl), tt)

module _ (room : ℕ) (S : Bool → Spelling Stmt) (all : (whole : Bool) → AllOf (λ s. Quiet (stmt s)) (S whole)) where
  stmts_of_quiet : AllOf (λ x. Quiet (stmts x)) (StmtsOf (S false))
  stmts_of_quiet ss i j h = subst Quiet (sym (stmts_is ss)) (quiet_flat stmt (out-Stmts ss).stmts (of_separated k.Semicolon (all false) (out-Stmts ss).stmts i j h.stmts))

  case_quiet : AllOf (λ x. Quiet (case_ x)) (CaseOf (S false))
  case_quiet c i j h =
      subst Quiet (sym (case_is c)) (quiet_both (flat_map const_events (out-Case c).labels) (stmt (out-Case c).body) (all_flat IsQuiet const_events const_quiet (out-Case c).labels) (all false (out-Case c).body h.parts.at j h.parts.second))

  stmt_layer_quiet : (whole : Bool) (l : StmtLayer) (i j : Input) → IsStmtLayer room S whole l i j → Quiet (stmt_layer (map-Stmt Stmt Case Stmts Events Events Events stmt case_ stmts l))
  stmt_layer_quiet whole Stmt-F.Empty i j h = tt
  stmt_layer_quiet whole (Stmt-F.Assign v value span) i j h =
      quiet_both (access_events need.Assigned (variable v)) (expr value) (access_quiet (FactorBelow room) (factor_below_quiet room) room need.Assigned v i h.0.mid h.0.first) (expr_quiet room value h.0.at j h.0.second)
  stmt_layer_quiet whole (Stmt-F.Call x a span) i j h = ((refl, refl), may_be_args_quiet room a h.0.mid j h.0.args)
  stmt_layer_quiet whole (Stmt-F.Begin ss span) i j h = of_enclosed stmts_of_quiet ss i j h.1
  stmt_layer_quiet whole (Stmt-F.If e s None span) i j h =
      let c = h.1.1 in
      quiet_both (expr e) (stmt s ++ []) (expr_below_quiet room e c.at c.mid c.condition) (quiet_both (stmt s) [] (of_behind (all false) s c.mid j c.then_part) tt)
  stmt_layer_quiet whole (Stmt-F.If e s (Some t) span) i j h =
      let m = h.1.0 in
      let c = h.1.1 in
      quiet_both (expr e) (stmt s ++ stmt t) (expr_below_quiet room e c.at c.mid c.condition) (quiet_both (stmt s) (stmt t) (of_behind (all true) s c.mid m c.then_part) (of_behind (all whole) t m j h.1.2))
  stmt_layer_quiet whole (Stmt-F.While e s span) i j h = let c = h.1 in quiet_both (expr e) (stmt s) (expr_below_quiet room e c.at c.mid c.condition) (of_behind (all whole) s c.mid j c.body)
  stmt_layer_quiet whole (Stmt-F.Repeat ss e span) i j h = let c = h.1 in quiet_both (stmts ss) (expr e) (of_enclosed stmts_of_quiet ss i c.mid c.stmts) (expr_below_quiet room e c.mid j c.condition)
  stmt_layer_quiet whole (Stmt-F.Count x e direction f s span) i j h =
      let c = h.1 in
      ((refl, refl), quiet_both (expr e) (expr f ++ stmt s) (expr_below_quiet room e c.start.at c.mid c.start.second) (quiet_both (expr f) (stmt s) (of_behind (expr_below_quiet room) f c.mid c.after c.last) (of_behind (all whole) s c.after j c.body)))
  stmt_layer_quiet whole (Stmt-F.Case e cs ended span) i j h =
      let c = h.1 in
      quiet_both (expr e) (flat_map (λ (es : Events). es) (map case_ cs)) (expr_below_quiet room e c.at c.parts.mid c.parts.first)
      (subst Quiet (sym (chain_map (λ (es : Events). es) case_ cs)) (quiet_flat case_ cs (of_separated k.Semicolon case_quiet cs c.parts.at c.mid c.parts.second)))
  stmt_layer_quiet whole (Stmt-F.Init x b a span) i j h = ((refl, refl), ((refl, refl), ((refl, refl), may_be_args_quiet room a h.0.mid j h.0.args)))
  stmt_layer_quiet whole (Stmt-F.Release x span) i j h = ((refl, refl), tt)
  stmt_layer_quiet whole (Stmt-F.Connect p q span) i j h = quiet_both (ip_part need.Ip p.name p.part) (ip_part need.Ip q.name q.part) (ip_quiet need.Ip p) (ip_quiet need.Ip q)
  stmt_layer_quiet whole (Stmt-F.Disconnect p span) i j h = ip_quiet need.Disconnected p
  stmt_layer_quiet whole (Stmt-F.Attach o m p span) i j h = ((refl, refl), ((refl, refl), tt))
  stmt_layer_quiet whole (Stmt-F.Detach o span) i j h = ((refl, refl), tt)
  stmt_layer_quiet whole (Stmt-F.Output p n a span) i j h = ((refl, refl), may_be_args_quiet room a h.0.mid j h.0.args)

stmt_quiet : (room : ℕ) (whole : Bool) → AllOf (λ s. Quiet (stmt s)) (StmtBelow room whole)
stmt_quiet zero whole s i j h = absurd h
stmt_quiet (suc room) whole s i j h = subst Quiet (sym (stmt_is s)) (stmt_layer_quiet room (StmtBelow room) (stmt_quiet room) whole (out-Stmt s) i j h)

pub stmts_quiet : (room : ℕ) → AllOf (λ x. Quiet (stmts x)) (StmtsOf (StmtBelow room false))
stmts_quiet room = stmts_of_quiet room (StmtBelow room) (stmt_quiet room)

-- ---- clauses

high_quiet : (room : ℕ) → AllOf (λ x. Quiet (delay_high_events x)) (IsDelayHigh room)
high_quiet room (delay_high.Expr e) i j h = expr_quiet room e i j h
high_quiet room delay_high.Star i j h = tt

uses_quiet : (n : Need) (xs : List Name) → Quiet (flat_map (use_alone n) xs)
uses_quiet n = all_flat IsQuiet (use_alone n) (λ x. ((refl, refl), tt))

pub clause_quiet : (room : ℕ) → AllOf (λ c. Quiet (clause_events c)) (IsClause room)
clause_quiet room (clause.From states span) i j h = uses_quiet need.Origin states.names
clause_quiet room (clause.To (next_state.Name x) span) i j h = ((refl, refl), tt)
clause_quiet room (clause.To next_state.Same span) i j h = tt
clause_quiet room (clause.When ip x params span) i j h = ((refl, refl), ((refl, refl), tt))
clause_quiet room (clause.Provided e span) i j h = of_behind (expr_quiet room) e i j h.0
clause_quiet room (clause.Priority c span) i j h = const_quiet c
clause_quiet room (clause.Any domains span) i j h =
    quiet_both (flat_map (λ x. ordinal_events x.domain) domains) (flat_map (λ x. Declare x.names.names d.Constant Nothing ∷ []) domains)
    (all_flat IsQuiet (λ (x : AnyDom). ordinal_events x.domain) (λ x. ordinal_quiet x.domain) domains) (all_flat IsQuiet (λ (x : AnyDom). Declare x.names.names d.Constant Nothing ∷ []) (λ x. ((refl, refl), tt)) domains)
clause_quiet room (clause.Delay low high span) i j h = quiet_both (expr low) (optional delay_high_events high) (expr_quiet room low h.0.after h.0.mid h.0.low) (quiet_maybe delay_high_events (of_behind (high_quiet room)) high h.0.mid h.0.last h.0.high)

-- ---- parameters, channels and headers

pub params_quiet : (o : Option Params) → Quiet (optional params o)
params_quiet None = tt
params_quiet (Some ps) = all_flat IsQuiet param_group (λ g. ((refl, refl), ((refl, refl), tt))) ps.groups

pub formals_quiet : (o : Option Formals) → Quiet (optional formals o)
formals_quiet None = tt
formals_quiet (Some fs) = all_flat IsQuiet formal (λ f. ((refl, refl), ((refl, refl), tt))) fs.formals

pub result_quiet : (r : RoutineForm) → Quiet (result_type r)
result_quiet form.Procedure = tt
result_quiet (form.Function x) = ((refl, refl), tt)

inter_typeless : (x : Inter) → Typeless (inter x)
inter_typeless x = (refl, (refl, both (optional params x.params) (Keep x.name.span ∷ []) (quiet_typeless (optional params x.params) (params_quiet x.params)) (refl, tt)))

by_typeless : (xs : List Name) → Typeless (map By xs)
by_typeless [] = tt
by_typeless (x ∷ xs) = (refl, by_typeless xs)

group_typeless : (g : InterGroup) → Typeless (inter_group g)
group_typeless g = both (map By g.roles.names) (flat_map inter g.inters) (by_typeless g.roles.names) (all_flat IsTypeless inter inter_typeless g.inters)

pub channel_typeless : (c : Channel) → Typeless (channel c)
channel_typeless c = (refl, (refl, (refl, both (flat_map inter_group c.groups) (Keep c.name.span ∷ []) (all_flat IsTypeless inter_group group_typeless c.groups) (refl, tt))))

pub ips_quiet : (ps : List IpDecl) → Quiet (flat_map ip_decl ps)
ips_quiet = all_flat IsQuiet ip_decl (λ p. ((refl, refl), ((refl, refl), tt)))

pub modvars_quiet : (ms : List ModvarDecl) → Quiet (flat_map modvar_decl ms)
modvars_quiet = all_flat IsQuiet modvar_decl (λ m. ((refl, refl), ((refl, refl), tt)))

pub statesets_quiet : (ss : List StatesetDef) → Quiet (flat_map stateset_def ss)
statesets_quiet = all_flat IsQuiet stateset_def (λ s. quiet_both (flat_map (use_alone need.State) s.states.names) _ (uses_quiet need.State s.states.names) ((refl, refl), tt))

pub consts_quiet : (ds : List ConstDef) → Quiet (flat_map const_def ds)
consts_quiet = all_flat IsQuiet const_def (λ x. quiet_both (const_events x.value) _ (const_quiet x.value) ((refl, refl), tt))

pub header_typeless : (room : ℕ) → AllOf (λ h. Typeless (header h)) (IsHeader room)
header_typeless room h i j s =
    let A = optional params h.params in
    let B = flat_map ip_decl h.ips in
    let C = flat_map (typed_names d.Exported) h.exports in
    let exports = flat (typed_names d.Exported) h.exports (of_may_be_lines k.Export (typed_typeless room d.Exported (λ xs. refl)) h.exports s.after_ips s.after_exports s.exports) in
    (refl, (refl, both A (B ++ (C ++ Keep h.name.span ∷ [])) (quiet_typeless (optional params h.params) (params_quiet h.params)) (both B (C ++ Keep h.name.span ∷ []) (quiet_typeless (flat_map ip_decl h.ips) (ips_quiet h.ips)) (both C (Keep h.name.span ∷ []) exports (refl, tt)))))

pub vars_typeless : (room : ℕ) → AllOf (λ xs. Typeless (flat_map (typed_names d.Variable) xs)) (Lines (AreVars room))
vars_typeless room xs i j h = flat (typed_names d.Variable) xs (of_lines (typed_typeless room d.Variable (λ ys. refl)) xs i j h)
