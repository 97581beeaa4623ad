-- What loops over the parts of an expression have given at their ends.
use Rattle.std.proofs.Common.{◌≡◌, ◌∙◌, ℕ, ◌≤◌, List, take, length, sym, ap}
use Rattle.std.specs.Prelude.{fold}
use Rattle.std.specs.List.{flat_map}
use Rattle.estelle_tree.specs.declared.span.Span.{Span}
use Rattle.estelle_tree.specs.declared.tree.expression.Adding.{Adding}
use Rattle.estelle_tree.specs.declared.tree.expression.Multiplying.{Multiplying}
use Rattle.estelle_tree.specs.declared.tree.expression.Expr.{Expr}
use Rattle.estelle_tree.specs.declared.tree.expression.Elem.{Elem}
use Rattle.estelle_tree.specs.declared.tree.expression.Args.{Args}
use Rattle.estelle_tree.specs.declared.tree.expression.Factor.{Factor, out-Factor, map-Factor}
use Rattle.estelle_tree.specs.declared.tree.expression.Factor.TheOpen.{Factor-F, Selector-F}
use Rattle.estelle_tree.specs.declared.tree.expression.Factor.TheFolds.{map-Selector}
use Rattle.estelle_tree.specs.declared.tree.expression.Selector.{Selector, out-Selector}
use Rattle.estelle_tree.specs.declared.tree.expression.Simple.{Simple, out-Simple}
use Rattle.estelle_tree.specs.declared.tree.expression.Term.{Term, out-Term}
use Rattle.estelle_tree.specs.declared.tree.expression.Variable.{Variable, out-Variable}
use Rattle.type_rules.specs.Meanings.{Env}
use Rattle.type_rules.specs.Sites.{Sites}
use Rattle.type_rules.specs.ExpressionSites.{Judged, Selection, adding_, multiplying_, signed, begun_at, named, selected, indexed, set_constructor, factor_layer, selector_layer, factor, selector, args, elem, expr, simple, term, variable}
use Rattle.type_rules.proofs.ExpressionEquations.{with_term, with_factor, with_selector, factor_is, selector_is, simple_is, term_is, variable_is}
use Rattle.type_rules.proofs.Lists.{chain_map, fold_map}
use Rattle.pascal_check_sites.proofs.SiteLists.{behind, operation_behind, signed_behind, selected_behind, fold_behind, walked_all, with_index}

-- the terms of a simple expression, one after another
pub simple_walked : (env : Env) (s : Simple) (ys : List (Adding × Term)) (i : ℕ) (before : Sites) (j0 j1 j : Judged) → ys ≡ (out-Simple s).others → length ys ≤ i
    → j0 ≡ behind before (term env (out-Simple s).first) → j1 ≡ signed (out-Simple s).span (out-Simple s).sign j0
    → j ≡ fold (with_term env) j1 (take i ys) → j ≡ behind before (simple env s)
simple_walked env s ys i before j0 j1 j e all e0 e1 h =
    let f = with_term env in
    let first : Judged = term env (out-Simple s).first in
    let begun : Judged = signed (out-Simple s).span (out-Simple s).sign first in
    walked_all f j1 j (out-Simple s).others ys i e all h
    ∙ ap (λ k. fold f k (out-Simple s).others) (e1 ∙ ap (signed (out-Simple s).span (out-Simple s).sign) e0 ∙ signed_behind (out-Simple s).span (out-Simple s).sign before first)
    ∙ fold_behind f (λ p k y. operation_behind (adding_ y.0) p k (term env y.1)) before begun (out-Simple s).others
    ∙ ap (behind before) (sym (simple_is env s))

-- the factors of a term
pub term_walked : (env : Env) (x : Term) (ys : List (Multiplying × Factor)) (i : ℕ) (before : Sites) (j0 j : Judged) → ys ≡ (out-Term x).others → length ys ≤ i
    → j0 ≡ behind before (factor env (out-Term x).first) → j ≡ fold (with_factor env) j0 (take i ys) → j ≡ behind before (term env x)
term_walked env x ys i before j0 j e all e0 h =
    let f = with_factor env in
    walked_all f j0 j (out-Term x).others ys i e all h
    ∙ ap (λ k. fold f k (out-Term x).others) e0
    ∙ fold_behind f (λ p k y. operation_behind (multiplying_ y.0) p k (factor env y.1)) before (factor env (out-Term x).first) (out-Term x).others
    ∙ ap (behind before) (sym (term_is env x))

-- the selectors of a variable
pub variable_walked : (env : Env) (x : Variable) (ys : List Selector) (i : ℕ) (before : Sites) (j0 j : Judged) → ys ≡ (out-Variable x).selectors → length ys ≤ i
    → j0 ≡ behind before (begun_at (out-Variable x).span (named env (out-Variable x).name)) → j ≡ fold (with_selector env) j0 (take i ys) → j ≡ behind before (variable env x)
variable_walked env x ys i before j0 j e all e0 h =
    let f = with_selector env in
    let begun : Judged = begun_at (out-Variable x).span (named env (out-Variable x).name) in
    walked_all f j0 j (out-Variable x).selectors ys i e all h
    ∙ ap (λ k. fold f k (out-Variable x).selectors) e0
    ∙ fold_behind f (λ p k s. selected_behind env p k (selector env s)) before begun (out-Variable x).selectors
    ∙ ap (behind before) (sym (variable_is env x))

-- indices, one after another
pub indices_walked : (env : Env) (s : Selector) (xs ys : List Expr) (i : ℕ) (v j : Judged) → out-Selector s ≡ Selector-F.Index xs → ys ≡ xs → length ys ≤ i
    → j ≡ fold (with_index env) v (take i ys) → j ≡ selected env v (selector env s)
indices_walked env s xs ys i v j is e all h =
    walked_all (with_index env) v j xs ys i e all h
    ∙ sym (fold_map (indexed env) (expr env) v xs)
    ∙ ap (selected env v) (sym (selector_is env s ∙ ap (λ l. selector_layer (map-Selector Factor Selector Args Elem Expr Simple Term Variable Judged Selection (List Judged) (List Judged) Judged Judged Judged Judged (factor env) (selector env) (args env) (elem env) (expr env) (simple env) (term env) (variable env) l)) is))

-- a set constructor by its member designators
pub set_walked : (env : Env) (x : Factor) (xs : List Elem) (span : Span) → out-Factor x ≡ Factor-F.Set xs span → factor env x ≡ set_constructor span (flat_map (elem env) xs)
set_walked env x xs span is =
    factor_is env x
    ∙ ap (λ l. factor_layer env (map-Factor Factor Selector Args Elem Expr Simple Term Variable Judged Selection (List Judged) (List Judged) Judged Judged Judged Judged (factor env) (selector env) (args env) (elem env) (expr env) (simple env) (term env) (variable env) l)) is
    ∙ ap (set_constructor span) (chain_map (λ (es : List Judged). es) (elem env) xs)
