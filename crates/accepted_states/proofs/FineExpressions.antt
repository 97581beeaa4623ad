-- Expressions.
use Rattle.std.proofs.Common.{◌≡◌, ◌∙◌, ℕ, zero, suc, ◌+◌, ◌≤◌, Bool, List, [], ◌∷◌, map, refl, ap, sym, subst, arith}
use Rattle.std.specs.List.{flat_map}
use Rattle.estelle_tree.specs.declared.kind.Kind.TheVariants as k
use Rattle.estelle_tree.specs.declared.span.Span.{Span}
use Rattle.estelle_tree.specs.declared.tree.expression.Expr.{Expr, out-Expr}
use Rattle.estelle_tree.specs.declared.tree.expression.Simple.{Simple, out-Simple}
use Rattle.estelle_tree.specs.declared.tree.expression.Term.{Term, out-Term}
use Rattle.estelle_tree.specs.declared.tree.expression.Factor.{Factor, out-Factor, map-Factor}
use Rattle.estelle_tree.specs.declared.tree.expression.Factor.TheOpen.{Factor-F, Selector-F}
use Rattle.estelle_tree.specs.declared.tree.expression.Factor.TheFolds.{map-Selector}
use Rattle.estelle_tree.specs.declared.tree.expression.Elem.{Elem, out-Elem}
use Rattle.estelle_tree.specs.declared.tree.expression.Args.{Args, out-Args}
use Rattle.estelle_tree.specs.declared.tree.expression.Variable.{Variable, out-Variable}
use Rattle.estelle_tree.specs.declared.tree.expression.Selector.{Selector, out-Selector}
use Rattle.estelle_tree.specs.Input.{Input}
use Rattle.estelle_tree.specs.Spans.{FactorLayer, SelectorLayer}
use Rattle.estelle_tree.specs.Spelling.{Spelling, Chain, Behind}
use Rattle.estelle_tree.specs.Types.{of_sign}
use Rattle.estelle_tree.specs.Expressions.{of_relation, of_adding, of_multiplying, TermOf, SimpleOf, ExprOf, ArgsOf, ElemOf, ElemsOf, SelectorLayerOf, SelectorOf, VariableOf, IsFactorLayer, FactorBelow, ExprBelow, IsExpr, IsArgs, IsVariable}
use Rattle.scope_rules.specs.declared.declaration.Need.{Need}
use Rattle.scope_rules.specs.declared.declaration.Need.TheVariants as need
use Rattle.scope_rules.specs.declared.event.Step.TheVariants as step
use Rattle.scope_rules.specs.declared.event.Event.TheVariants.{Use}
use Rattle.scope_rules.specs.TypeEvents.{Events}
use Rattle.scope_rules.specs.ExpressionEvents.{Selected, Accessed, needed, access_events, factor_layer, selector_layer, factor, selector, args, elem, expr, simple, term, variable}
use Rattle.scope_names_events.proofs.ExpressionEquations.{factor_is, selector_is, args_is, elem_is, expr_is, simple_is, term_is, variable_is}
use Rattle.scope_names_events.proofs.WritingLemmas.{chain_map}
use Rattle.accepted_states.proofs.Lists.{count, count-append, flat-append}
use Rattle.accepted_states.proofs.Uses.{step_names, uses, uses_in}
use Rattle.accepted_states.proofs.Scopes.{Plain, plain_nil, plain_append, plain_next, plain_use}
use Rattle.accepted_states.proofs.Fine.{among, named, less_same, less_next, less_takes, less_mark, less_name, Fine, AllFine, fine_nil, fine_append, fine_less, fine_name, chain, behind, enclosed, separated, maybe}

-- the names in the steps of a selector, and what stands in its indices
record FineSelected (i j : Input) (s : Selected) : Type 0 where
  pub plain : Plain s.1
  pub few : (t : Span → Bool) → (count (named t) (flat_map step_names s.0) + count (named t) (uses_in s.1)) + among t j ≤ among t i

no_names : {A : Type 0} (xs : List A) → flat_map step_names (map (λ x. step.Index) xs) ≡ []
no_names [] = refl
no_names (x ∷ xs) = no_names xs

module _ (F : Spelling Factor) (fine : AllFine factor F) where
  term_fine : AllFine term (TermOf F)
  term_fine t i j h =
      subst (Fine i j) (sym (term_is t))
      (fine_append (fine (out-Term t).first i h.mid h.first) (chain {f = λ y. factor y.1} {P = λ x. Behind (of_multiplying x.0) F x.1} (λ x i j h. behind fine x.1 i j h) (out-Term t).others h.mid j h.others))

  simple_fine : AllFine simple (SimpleOf F)
  simple_fine s i j h =
      subst (Fine i j) (sym (simple_is s))
      (fine_less (less_mark of_sign (out-Simple s).sign h.sign)
      (fine_append (term_fine (out-Simple s).first h.at h.mid h.first) (chain {f = λ y. term y.1} {P = λ x. Behind (of_adding x.0) (TermOf F) x.1} (λ x i j h. behind term_fine x.1 i j h) (out-Simple s).others h.mid j h.others)))

  pub expr_of_fine : AllFine expr (ExprOf F)
  expr_of_fine e i j h =
      subst (Fine i j) (sym (expr_is e))
      (fine_append (simple_fine (out-Expr e).left i h.mid h.left) (maybe {f = λ y. simple y.1} {P = λ x. Behind (of_relation x.0) (SimpleOf F) x.1} (λ x i j h. behind simple_fine x.1 i j h) (out-Expr e).right h.mid j h.right))

  pub args_of_fine : AllFine args (ArgsOf F)
  args_of_fine a i j h = subst (Fine i j) (sym (args_is a)) (separated k.Comma expr_of_fine (out-Args a).exprs i j h.exprs)

  elem_fine : AllFine elem (ElemOf F)
  elem_fine x i j h = subst (Fine i j) (sym (elem_is x)) (fine_append (expr_of_fine (out-Elem x).first i h.mid h.first) (maybe (behind expr_of_fine) (out-Elem x).last h.mid j h.last))

  elems_fine : AllFine (flat_map elem) (ElemsOf F)
  elems_fine [] i j h = fine_nil (less_same h)
  elems_fine (x ∷ xs) i j h = separated k.Comma elem_fine (x ∷ xs) i j h

  module _ (room : ℕ) where
    selector_layer_fine : (l : SelectorLayer) (i j : Input) → SelectorLayerOf room F l i j
        → FineSelected i j (selector_layer (map-Selector Factor Selector Args Elem Expr Simple Term Variable Events Selected Events Events Events Events Events Accessed factor selector args elem expr simple term variable l))
    selector_layer_fine (Selector-F.Index exprs) i j h =
        let es = subst (Fine i j) (sym (chain_map (λ (es : Events). es) expr exprs)) (enclosed (separated k.Comma expr_of_fine) exprs i j h.1) in
        record { plain = es.plain; few = λ t. let a = es.few t in let b = ap (count (named t)) (no_names (map expr exprs)) in omega (arith, a, b) }
    selector_layer_fine (Selector-F.Field x) i j h =
        record { plain = plain_nil; few = λ t. let a = less_name h.item t in let b = (less_takes h.mark).most t in omega (arith, a, b) }

    selectors_fine : (ss : List Selector) (i j : Input) → Chain (SelectorOf room F) ss i j → FineSelected i j (flat_map (λ s. (selector s).0) ss, flat_map (λ s. (selector s).1) ss)
    selectors_fine [] i j h = record { plain = plain_nil; few = λ t. let a = (less_same h).most t in omega (arith, a) }
    selectors_fine (s ∷ ss) i j h =
        let one = subst (FineSelected i h.0) (sym (selector_is s)) (selector_layer_fine (out-Selector s) i h.0 h.1) in
        let more = selectors_fine ss h.0 j h.2 in
        let steps = flat_map (λ s. (selector s).0) ss in
        let events = flat_map (λ s. (selector s).1) ss in
        record {
          plain = plain_append (selector s).1 events one.plain more.plain;
          few = λ t.
              let a = one.few t in
              let b = more.few t in
              let c = ap (count (named t)) (flat-append step_names (selector s).0 steps) ∙ count-append (named t) (flat_map step_names (selector s).0) (flat_map step_names steps) in
              let e = ap (count (named t)) (flat-append uses (selector s).1 events) ∙ count-append (named t) (uses_in (selector s).1) (uses_in events) in
              omega (arith, a, b, c, e);
        }

    pub access_fine : (alone : Need) → AllFine (λ v. access_events alone (variable v)) (VariableOf room F)
    access_fine alone v i j h =
        let x = (out-Variable v).name in
        let ss = (out-Variable v).selectors in
        let steps = flat_map (λ s. (selector s).0) ss in
        let events = flat_map (λ s. (selector s).1) ss in
        let more = selectors_fine ss h.mid j h.selectors in
        subst (λ (a : Accessed). Fine i j (access_events alone a)) (sym (variable_is v)) (record {
          plain = plain_next (Use x (needed alone steps) steps) events (plain_use x (needed alone steps) steps) more.plain;
          few = λ t.
              let a = less_name h.name t in
              let b = more.few t in
              let c = count-append (named t) (flat_map step_names steps) (uses_in events) in
              omega (arith, a, b, c);
        })

    layer_fine : (l : FactorLayer) (i j : Input) → IsFactorLayer room F l i j
        → Fine i j (factor_layer (map-Factor Factor Selector Args Elem Expr Simple Term Variable Events Selected Events Events Events Events Events Accessed factor selector args elem expr simple term variable l))
    layer_fine (Factor-F.Number value span) i j h = fine_nil (less_next h.0.next)
    layer_fine (Factor-F.Char value span) i j h = fine_nil (less_next h.0.next)
    layer_fine (Factor-F.Variable v) i j h = access_fine need.Value v i j h
    layer_fine (Factor-F.Call x a span) i j h = fine_append (fine_name need.Function h.1.name) (enclosed args_of_fine a h.1.mid j h.1.args)
    layer_fine (Factor-F.Paren inner span) i j h = enclosed expr_of_fine inner i j h.1
    layer_fine (Factor-F.Not operand span) i j h = behind fine operand i j h.1
    layer_fine (Factor-F.Set elems span) i j h = subst (Fine i j) (sym (chain_map (λ (es : Events). es) elem elems)) (enclosed elems_fine elems i j h.1)

below_fine : (room : ℕ) → AllFine factor (FactorBelow room)
below_fine zero f i j h = absurd h
below_fine (suc room) f i j h = subst (Fine i j) (sym (factor_is f)) (layer_fine (FactorBelow room) (below_fine room) room (out-Factor f) i j h)

pub expr_below_fine : (room : ℕ) → AllFine expr (ExprBelow room)
expr_below_fine room = expr_of_fine (FactorBelow room) (below_fine room)

pub expr_fine : (room : ℕ) → AllFine expr (IsExpr room)
expr_fine room = expr_below_fine (suc room)

pub args_fine : (room : ℕ) → AllFine args (IsArgs room)
args_fine room = args_of_fine (FactorBelow (suc room)) (below_fine (suc room))

pub variable_fine : (alone : Need) (room : ℕ) → AllFine (λ v. access_events alone (variable v)) (IsVariable room)
variable_fine alone room = access_fine (FactorBelow room) (below_fine room) room alone
