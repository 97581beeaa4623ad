-- Lists of sites, piece by piece.
use Rattle.std.proofs.Common.{◌≡◌, ◌∙◌, ℕ, ◌+◌, ◌<◌, ◌≤◌, List, [], ◌∷◌, ◌++◌, refl, map, take, drop, get_or, length, ap, sym, append_assoc, append-nil, add-one, suc, Option, Some, None}
use Rattle.std.proofs.lemmas.List.{take_all}
use Rattle.std.proofs.lemmas.List.Sums.{fold_more}
use Rattle.std.proofs.Math.ListN.{drop_of_length-le}
use Rattle.std.proofs.Math.Seq.{drop-cons}
use Rattle.std.specs.Prelude.{fold}
use Rattle.std.specs.List.{flat_map}
use Rattle.estelle_tree.specs.declared.span.Span.{Span}
use Rattle.estelle_tree.specs.declared.tree.type_expr.Sign.{Sign}
use Rattle.estelle_tree.specs.declared.tree.expression.Expr.{Expr}
use Rattle.estelle_tree.specs.declared.tree.expression.Elem.{Elem, out-Elem}
use Rattle.type_rules.specs.declared.types.PascalType.{PascalType}
use Rattle.estelle_tree.specs.declared.required.Required.{Required}
use Rattle.type_rules.specs.declared.meanings.Parameter.{Parameter}
use Rattle.type_rules.specs.declared.sites.Typed.{Typed}
use Rattle.type_rules.specs.declared.sites.Site.TheVariants.{Operation, Wants}
use Rattle.type_rules.specs.declared.sites.Operator.{Operator}
use Rattle.type_rules.specs.declared.sites.Members.{Members}
use Rattle.type_rules.specs.Meanings.{Env, Parameters}
use Rattle.type_rules.specs.Sites.{Sites}
use Rattle.type_rules.specs.ExpressionSites.{Judged, Selection, Indices, Member, operation, indexed, selected, signed, operated, component_of, index_sites, next_wanted, with_member, with_all, member_sites, argument, first_of, rest_of, arguments, all_sites, required_arguments, first_type, optional, expr, elem}
use Rattle.type_rules.proofs.ExpressionEquations.{elem_is}
use Rattle.pascal_check_sites.specs.TakenArguments.{first_or, taken_site, type_in}

-- an expression with the sites in it
abbrev pub judged : Typed → Sites → Judged
judged e s = record { typed = e; sites = s }

-- one whose sites stand behind others
abbrev pub behind : Sites → Judged → Judged
behind before j = judged j.typed (before ++ j.sites)

-- ---- what acts on an expression does so alike where its sites stand behind others

-- an operation
pub operation_behind : (o : Operator) (before : Sites) (a b : Judged) → operation o (behind before a) b ≡ behind before (operation o a b)
operation_behind o before a b = ap (judged (operation o a b).typed) (append_assoc before a.sites _)

-- an index
pub indexed_behind : (env : Env) (before : Sites) (a b : Judged) → indexed env (behind before a) b ≡ behind before (indexed env a b)
indexed_behind env before a b = ap (judged (indexed env a b).typed) (append_assoc before a.sites _)

-- a sign
pub signed_behind : (at : Span) (sign : Option Sign) (before : Sites) (a : Judged) → signed at sign (behind before a) ≡ behind before (signed at sign a)
signed_behind at None before a = refl
signed_behind at (Some s) before a = ap (judged (signed at (Some s) a).typed) (append_assoc before a.sites _)

-- one after another
pub fold_behind : {A : Type 0} (f : Judged → A → Judged) → ((before : Sites) (j : Judged) (a : A) → f (behind before j) a ≡ behind before (f j a)) → (before : Sites) (j : Judged) (xs : List A) → fold f (behind before j) xs ≡ behind before (fold f j xs)
fold_behind f alike before j [] = refl
fold_behind f alike before j (x ∷ xs) = ap (λ k. fold f k xs) (alike before j x) ∙ fold_behind f alike before (f j x) xs

-- a selector
pub selected_behind : (env : Env) (before : Sites) (a : Judged) (s : Selection) → selected env (behind before a) s ≡ behind before (selected env a s)
selected_behind env before a (Indices es) = fold_behind (indexed env) (indexed_behind env) before a es
selected_behind env before a (Member x) = refl

-- ---- one step of a walk

-- an expression by its type and its sites
pub both_is : (j : Judged) (e : Typed) (s : Sites) → e ≡ j.typed → s ≡ j.sites → judged e s ≡ j
both_is j e s p q = rw (p, q) refl

-- an operation, whose sites are pushed one after another
pub operation_is : (o made : Operator) (b : Judged) (left right e : Typed) (s0 s1 s : Sites) → made ≡ o → right ≡ b.typed → s1 ≡ s0 ++ b.sites
    → e ≡ operated made left right → s ≡ s1 ++ Operation made left right ∷ [] → judged e s ≡ operation o (judged left s0) b
operation_is o made b left right e s0 s1 s p q r u v = rw (u, v, r, p, q) (ap (judged (operated o left b.typed)) (append_assoc s0 b.sites _))

-- an index
pub indexed_is : (env : Env) (b : Judged) (array index e : Typed) (s0 s1 s : Sites) → index ≡ b.typed → s1 ≡ s0 ++ b.sites
    → e ≡ component_of env array → s ≡ s1 ++ index_sites env array index → judged e s ≡ indexed env (judged array s0) b
indexed_is env b array index e s0 s1 s q r u v = rw (u, v, r, q) (ap (judged (component_of env array)) (append_assoc s0 b.sites _))

-- ---- loops

-- one more of a fold
pub walked_more : {A B : Type 0} (f : B → A → B) (b : B) (xs : List A) (i : ℕ) (x : A) (s t : B) → i < length xs → x ≡ get_or xs i x → s ≡ fold f b (take i xs) → t ≡ f s x → t ≡ fold f b (take (i + 1) xs)
walked_more f b xs i x s t h e p q = q ∙ ap (λ k. f k x) p ∙ ap (f (fold f b (take i xs))) e ∙ sym (fold_more f b xs i x h)

-- the end of a fold
pub walked_all : {A B : Type 0} (f : B → A → B) (b c : B) (xs ys : List A) (i : ℕ) → ys ≡ xs → length ys ≤ i → c ≡ fold f b (take i ys) → c ≡ fold f b xs
walked_all f b c xs ys i e all h = h ∙ ap (fold f b) (take_all i ys all ∙ e)

-- an index on the variable so far
abbrev pub with_index : Env → Judged → Expr → Judged
with_index env v e = indexed env v (expr env e)

-- ---- set constructors

-- the members of two lists
with_all_append : (es fs : List Judged) (m : Members) → with_all m (es ++ fs) ≡ with_all (with_all m es) fs
with_all_append [] fs m = refl
with_all_append (e ∷ es) fs m = with_all_append es fs (with_member m e.typed)

-- the sites of the members of two lists
member_sites_append : (es fs : List Judged) (m : Members) → member_sites m (es ++ fs) ≡ member_sites m es ++ member_sites (with_all m es) fs
member_sites_append [] fs m = refl
member_sites_append (e ∷ es) fs m =
    let here : Sites = e.sites ++ Wants (next_wanted m) e.typed ∷ [] in
    let n : Members = with_member m e.typed in
    ap (λ s. here ++ s) (member_sites_append es fs n) ∙ sym (append_assoc here (member_sites n es) (member_sites (with_all n es) fs))

-- the members so far with their sites, and those of one more designator
abbrev pub with_elem : Env → Members × Sites → Elem → Members × Sites
with_elem env s x = (with_all s.0 (elem env x), s.1 ++ member_sites s.0 (elem env x))

-- a member designator of one expression
pub one_member : (env : Env) (x : Elem) (m n : Members) (first : Typed) (s0 s1 s : Sites) → (out-Elem x).last ≡ None
    → first ≡ (expr env (out-Elem x).first).typed → s1 ≡ s0 ++ (expr env (out-Elem x).first).sites → n ≡ with_member m first → s ≡ s1 ++ Wants (next_wanted m) first ∷ [] → (n, s) ≡ with_elem env (m, s0) x
one_member env x m n first s0 s1 s alone ft fs np sp =
    let e : Judged = expr env (out-Elem x).first in
    let es : elem env x ≡ e ∷ [] = elem_is env x ∙ ap (λ (l : Option Expr). e ∷ map (expr env) (optional l)) alone in
    rw (np, sp, fs, ft, es) (ap (λ (ts : Sites). (with_member m e.typed, ts)) (simp (append_assoc, append-nil)))

-- a member designator of two expressions
pub two_members : (env : Env) (x : Elem) (y : Expr) (m n k : Members) (first last : Typed) (s0 s1 s2 s3 s : Sites) → (out-Elem x).last ≡ Some y
    → first ≡ (expr env (out-Elem x).first).typed → s1 ≡ s0 ++ (expr env (out-Elem x).first).sites → n ≡ with_member m first → s2 ≡ s1 ++ Wants (next_wanted m) first ∷ []
    → last ≡ (expr env y).typed → s3 ≡ s2 ++ (expr env y).sites → k ≡ with_member n last → s ≡ s3 ++ Wants (next_wanted n) last ∷ [] → (k, s) ≡ with_elem env (m, s0) x
two_members env x y m n k first last s0 s1 s2 s3 s both ft fs np np_sites lt ls kp sp =
    let e : Judged = expr env (out-Elem x).first in
    let es : elem env x ≡ e ∷ expr env y ∷ [] = elem_is env x ∙ ap (λ (l : Option Expr). e ∷ map (expr env) (optional l)) both in
    rw (kp, sp, ls, np_sites, np, fs, lt, ft, es) (ap (λ (ts : Sites). (with_member (with_member m e.typed) (expr env y).typed, ts)) (simp (append_assoc, append-nil)))

-- all member designators
pub members_all : (env : Env) (xs : List Elem) (m : Members) (out : Sites) → fold (with_elem env) (m, out) xs ≡ (with_all m (flat_map (elem env) xs), out ++ member_sites m (flat_map (elem env) xs))
members_all env [] m out = ap (λ (s : Sites). (m, s)) (sym (append-nil out))
members_all env (x ∷ xs) m out =
    let e : List Judged = elem env x in
    let more : List Judged = flat_map (elem env) xs in
    members_all env xs (with_all m e) (out ++ member_sites m e)
    ∙ ap (λ (n : Members). (n, (out ++ member_sites m e) ++ member_sites (with_all m e) more)) (sym (with_all_append e more m))
    ∙ ap (λ (s : Sites). (with_all m (e ++ more), s)) (append_assoc out (member_sites m e) (member_sites (with_all m e) more) ∙ ap (λ s. out ++ s) (sym (member_sites_append e more m)))

-- ---- arguments

-- one argument, before those that are left
pub arguments_more : (env : Env) (ps qs : Parameters) (xs : List Expr) (i : ℕ) (x : Expr) (p : Option Parameter) (e : Typed) (s0 s1 s all : Sites) → i < length xs → x ≡ get_or xs i x
    → p ≡ first_of ps → qs ≡ rest_of ps → e ≡ (expr env x).typed → s1 ≡ s0 ++ (expr env x).sites → s ≡ s1 ++ argument p e
    → s0 ++ arguments ps (map (expr env) (drop i xs)) ≡ all → s ++ arguments qs (map (expr env) (drop (i + 1) xs)) ≡ all
arguments_more env ps qs xs i x p e s0 s1 s all h at pf qf ef sf tf before =
    let here : Sites = (expr env x).sites ++ argument (first_of ps) (expr env x).typed in
    let more : Sites = arguments (rest_of ps) (map (expr env) (drop (suc i) xs)) in
    let next : drop i xs ≡ x ∷ drop (suc i) xs = drop-cons xs i x h ∙ ap (λ y. y ∷ drop (suc i) xs) (sym at) in
    let begun : s ≡ s0 ++ here = rw (tf, sf, pf, ef) (append_assoc s0 (expr env x).sites _) in
    rw (add-one, qf, begun) (append_assoc s0 here more ∙ ap (λ ys. s0 ++ arguments ps (map (expr env) ys)) (sym next) ∙ before)

-- no argument is left
pub arguments_end : (env : Env) (ps : Parameters) (xs : List Expr) (i : ℕ) (out : Sites) → length xs ≤ i → out ++ arguments ps (map (expr env) (drop i xs)) ≡ out
arguments_end env ps xs i out h = rw (drop_of_length-le xs h) (append-nil out)

-- without parameters the sites in the arguments are left
pub without_parameters : (es : List Judged) → arguments [] es ≡ all_sites es
without_parameters [] = refl
without_parameters (e ∷ es) = ap (λ s. s ++ arguments [] es) (append-nil e.sites) ∙ ap (λ s. e.sites ++ s) (without_parameters es)

-- ---- arguments of required functions

-- the sites of the arguments that are left behind the first one, if that is walked
abbrev pub left_sites : Required → Option Typed → List Judged → Sites
left_sites f None es = required_arguments f es
left_sites f (Some first) es = all_sites es

-- the type of the first argument, which is walked or the first of those that are left
abbrev pub left_type : Option Typed → List Judged → Option PascalType
left_type None es = first_type es
left_type (Some first) es = first.type_

-- the sites of one more argument of a required function
left_more : (f : Required) (first : Option Typed) (e : Judged) (es : List Judged) → left_sites f first (e ∷ es) ≡ (e.sites ++ taken_site f first e.typed) ++ left_sites f (Some (first_or first e.typed)) es
left_more f None e es = refl
left_more f (Some first) e es = ap (λ s. s ++ all_sites es) (sym (append-nil e.sites))

-- one more argument leaves the type of the first
left_same : (first : Option Typed) (e : Judged) (es : List Judged) → left_type first (e ∷ es) ≡ left_type (Some (first_or first e.typed)) es
left_same None e es = refl
left_same (Some first) e es = refl

-- one argument of a required function, before those that are left
pub taken_more : (env : Env) (f : Required) (xs : List Expr) (i : ℕ) (x : Expr) (first now : Option Typed) (e : Typed) (s0 s1 s all : Sites) → i < length xs → x ≡ get_or xs i x
    → e ≡ (expr env x).typed → s1 ≡ s0 ++ (expr env x).sites → now ≡ Some (first_or first e) → s ≡ s1 ++ taken_site f first e
    → s0 ++ left_sites f first (map (expr env) (drop i xs)) ≡ all → s ++ left_sites f now (map (expr env) (drop (i + 1) xs)) ≡ all
taken_more env f xs i x first now e s0 s1 s all h at ef sf nf tf before =
    let here : Sites = (expr env x).sites ++ taken_site f first (expr env x).typed in
    let rest : List Judged = map (expr env) (drop (suc i) xs) in
    let next : drop i xs ≡ x ∷ drop (suc i) xs = drop-cons xs i x h ∙ ap (λ y. y ∷ drop (suc i) xs) (sym at) in
    let begun : s ≡ s0 ++ here = rw (tf, sf, ef) (append_assoc s0 (expr env x).sites _) in
    let now_is : now ≡ Some (first_or first (expr env x).typed) = nf ∙ ap (λ y. Some (first_or first y)) ef in
    rw (add-one, now_is, begun) (append_assoc s0 here (left_sites f (Some (first_or first (expr env x).typed)) rest) ∙ ap (λ ts. s0 ++ ts) (sym (left_more f first (expr env x) rest)) ∙ ap (λ ys. s0 ++ left_sites f first (map (expr env) ys)) (sym next) ∙ before)

-- the type of the first argument stays
pub taken_type : (env : Env) (xs : List Expr) (i : ℕ) (x : Expr) (first now : Option Typed) (e : Typed) (all : Option PascalType) → i < length xs → x ≡ get_or xs i x
    → e ≡ (expr env x).typed → now ≡ Some (first_or first e) → left_type first (map (expr env) (drop i xs)) ≡ all → left_type now (map (expr env) (drop (i + 1) xs)) ≡ all
taken_type env xs i x first now e all h at ef nf before =
    let rest : List Judged = map (expr env) (drop (suc i) xs) in
    let next : drop i xs ≡ x ∷ drop (suc i) xs = drop-cons xs i x h ∙ ap (λ y. y ∷ drop (suc i) xs) (sym at) in
    let now_is : now ≡ Some (first_or first (expr env x).typed) = nf ∙ ap (λ y. Some (first_or first y)) ef in
    rw (add-one, now_is) (sym (left_same first (expr env x) rest) ∙ ap (λ ys. left_type first (map (expr env) ys)) (sym next) ∙ before)

-- nothing is left
none_left : (f : Required) (first : Option Typed) → left_sites f first [] ≡ []
none_left f None = refl
none_left f (Some first) = refl

-- the type of the first argument, where it is walked
type_left : (first : Option Typed) → left_type first [] ≡ type_in first
type_left None = refl
type_left (Some first) = refl

-- no argument of a required function is left
pub taken_all : (env : Env) (f : Required) (first : Option Typed) (xs : List Expr) (i : ℕ) (out all : Sites) → length xs ≤ i → out ++ left_sites f first (map (expr env) (drop i xs)) ≡ all → out ≡ all
taken_all env f first xs i out all h e = sym (append-nil out) ∙ ap (λ ts. out ++ ts) (sym (none_left f first)) ∙ ap (λ ys. out ++ left_sites f first (map (expr env) ys)) (sym (drop_of_length-le xs h)) ∙ e

-- the type of the first argument at the end
pub taken_type_all : (env : Env) (first : Option Typed) (xs : List Expr) (i : ℕ) (all : Option PascalType) → length xs ≤ i → left_type first (map (expr env) (drop i xs)) ≡ all → type_in first ≡ all
taken_type_all env first xs i all h e = sym (type_left first) ∙ ap (λ ys. left_type first (map (expr env) ys)) (sym (drop_of_length-le xs h)) ∙ e

-- what puts lists of sites in one form
pub ruleset sites = (append_assoc, append-nil, without_parameters)
