-- Lists of sites, piece by piece.
use Rattle.std.proofs.Common.{◌≡◌, ◌∙◌, ℕ, ◌+◌, ◌<◌, ◌≤◌, List, [], ◌∷◌, ◌++◌, refl, map, take, drop, get_or, length, ap, sym, append_assoc, append-nil, add-one, suc, Option, Some, None}
use Rattle.std.proofs.lemmas.List.{take_all}
use Rattle.std.proofs.Math.ListN.{drop_of_length-le}
use Rattle.std.proofs.Math.Seq.{drop-cons}
use Rattle.std.specs.Prelude.{Bool, Result, Ok, Err, OnOk}
use Rattle.std.specs.List.{flat_map}
use Rattle.estelle_tree.specs.declared.span.Span.{Span}
use Rattle.estelle_tree.specs.declared.tree.expression.Expr.{Expr}
use Rattle.estelle_tree.specs.declared.tree.type_expr.Const.{Const}
use Rattle.estelle_tree.specs.declared.tree.statement.Stmt.{Stmt, out-Stmt, map-Stmt}
use Rattle.estelle_tree.specs.declared.tree.statement.Stmt.TheOpen.{Stmt-F}
use Rattle.estelle_tree.specs.declared.tree.statement.Stmts.{Stmts, out-Stmts}
use Rattle.estelle_tree.specs.declared.tree.statement.Case.{Case, out-Case}
use Rattle.type_rules.specs.declared.types.PascalType.{PascalType}
use Rattle.type_rules.specs.declared.types.Value.{Value}
use Rattle.type_rules.specs.declared.sites.Typed.{Typed}
use Rattle.type_rules.specs.Meanings.{Env}
use Rattle.type_rules.specs.Sites.{Sites}
use Rattle.type_rules.specs.StatementSites.{Alternative, with_labels, labels, alternatives, stmt_layer, stmt, case_, stmts}
use Rattle.type_rules.specs.ExpressionSites.{expr}
use Rattle.type_rules.proofs.StatementEquations.{stmt_is, case_is, stmts_is}

-- one more element before those that are left
next : {A : Type 0} (xs : List A) (i : ℕ) (x : A) → i < length xs → x ≡ get_or xs i x → drop i xs ≡ x ∷ drop (suc i) xs
next xs i x h at = drop-cons xs i x h ∙ ap (λ y. y ∷ drop (suc i) xs) (sym at)

-- statements, once none is left
chain_end : {A : Type 0} (f : A → Sites) (xs : List A) (i : ℕ) (out : Sites) → length xs ≤ i → out ++ flat_map f (drop i xs) ≡ out
chain_end f xs i out h = rw (drop_of_length-le xs h) (append-nil out)

-- the end of a walk over a sequence
pub stmts_walked : (env : Env) (x : Stmts) (ys : List Stmt) (i : ℕ) (s0 s : Sites) → ys ≡ (out-Stmts x).stmts → length ys ≤ i
    → s ++ flat_map (stmt env) (drop i ys) ≡ s0 ++ flat_map (stmt env) ys → s ≡ s0 ++ stmts env x
stmts_walked env x ys i s0 s own all h =
    sym (chain_end (stmt env) ys i s all) ∙ h ∙ ap (λ zs. s0 ++ flat_map (stmt env) zs) own ∙ ap (λ t. s0 ++ t) (sym (stmts_is env x))

-- one case, before those that are left
pub cases_more : (env : Env) (u : Option PascalType) (xs : List Case) (i : ℕ) (x : Case) (ls : List Const) (vs ws : List Value) (s0 s1 s all : Sites) → i < length xs → x ≡ get_or xs i x → ls ≡ (out-Case x).labels
    → ws ≡ with_labels env vs ls → s1 ≡ s0 ++ labels env u vs ls → s ≡ s1 ++ stmt env (out-Case x).body
    → s0 ++ alternatives env u vs (map (case_ env) (drop i xs)) ≡ all → s ++ alternatives env u ws (map (case_ env) (drop (i + 1) xs)) ≡ all
cases_more env u xs i x ls vs ws s0 s1 s all h at own wf lf sf before =
    let here : Sites = labels env u vs ls ++ stmt env (out-Case x).body in
    let rest : List Alternative = map (case_ env) (drop (suc i) xs) in
    let more : Sites = alternatives env u (with_labels env vs ls) rest in
    let begun : s ≡ s0 ++ here = rw (sf, lf) (append_assoc s0 (labels env u vs ls) (stmt env (out-Case x).body)) in
    let this : (ls, stmt env (out-Case x).body) ≡ case_ env x = ap (λ (l : List Const). (l, stmt env (out-Case x).body)) own ∙ sym (case_is env x) in
    rw (add-one, wf, begun) (append_assoc s0 here more
    ∙ ap (λ a. s0 ++ alternatives env u vs (a ∷ rest)) this
    ∙ ap (λ ys. s0 ++ alternatives env u vs (map (case_ env) ys)) (sym (next xs i x h at)) ∙ before)

-- a `case` by its selector and its cases
case_is_all : (env : Env) (x : Stmt) (e : Expr) (xs : List Case) (semicolon : Bool) (span : Span) → out-Stmt x ≡ Stmt-F.Case e xs semicolon span
    → stmt env x ≡ (expr env e).sites ++ alternatives env (expr env e).typed.type_ [] (map (case_ env) xs)
case_is_all env x e xs semicolon span is =
    stmt_is env x ∙ ap (λ l. stmt_layer env (map-Stmt Stmt Case Stmts Sites Alternative Sites (stmt env) (case_ env) (stmts env) l)) is

-- the selector is walked, and then the cases
pub case_walked : (env : Env) (x : Stmt) (e : Expr) (xs ys : List Case) (semicolon : Bool) (span : Span) (typed : Typed) (s0 s1 s : Sites) → out-Stmt x ≡ Stmt-F.Case e xs semicolon span
    → ys ≡ xs → typed ≡ (expr env e).typed → s1 ≡ s0 ++ (expr env e).sites → s ≡ s1 ++ alternatives env typed.type_ [] (map (case_ env) ys) → s ≡ s0 ++ stmt env x
case_walked env x e xs ys semicolon span typed s0 s1 s is own tf ef sf =
    rw (sf, ef, tf, own) (append_assoc s0 (expr env e).sites (alternatives env (expr env e).typed.type_ [] (map (case_ env) xs))
    ∙ ap (λ t. s0 ++ t) (sym (case_is_all env x e xs semicolon span is)))

-- what holds of a success, where another fact does
pub on_ok : {T E : Type 0} {P Q : Type 0} (r : Result T E) → (P → Q) → OnOk r P → OnOk r Q
on_ok (Ok v) f p = f p
on_ok (Err e) f p = tt

-- what the check tries at each goal
pub ruleset sites = (append_assoc, append-nil)
