-- How much of a tree is left to walk: each function's part weighs less than what calls it.
use Rattle.std.proofs.Common.{◌≡◌, ◌∙◌, ℕ, zero, suc, ◌+◌, ◌<◌, ◌≤◌, List, [], ◌∷◌, map, length, get_or, refl, sym, ap, cond, Option, Some, None, Bool, true, false, ℤ, arith}
use Rattle.estelle_tree.specs.declared.span.Span.{Span}
use Rattle.estelle_tree.specs.declared.tree.type_expr.Sign.{Sign}
use Rattle.estelle_tree.specs.declared.tree.expression.Relation.{Relation}
use Rattle.estelle_tree.specs.declared.tree.expression.Adding.{Adding}
use Rattle.estelle_tree.specs.declared.tree.expression.Multiplying.{Multiplying}
use Rattle.estelle_tree.specs.declared.tree.expression.Factor.{Factor, out-Factor}
use Rattle.estelle_tree.specs.declared.tree.expression.Selector.{Selector, out-Selector}
use Rattle.estelle_tree.specs.declared.tree.expression.Args.{Args, out-Args}
use Rattle.estelle_tree.specs.declared.tree.expression.Elem.{Elem, out-Elem}
use Rattle.estelle_tree.specs.declared.tree.expression.Expr.{Expr, out-Expr}
use Rattle.estelle_tree.specs.declared.tree.expression.Simple.{Simple, out-Simple}
use Rattle.estelle_tree.specs.declared.tree.expression.Term.{Term, out-Term}
use Rattle.estelle_tree.specs.declared.tree.expression.Variable.{Variable, out-Variable}
use Rattle.estelle_tree.specs.declared.tree.expression.Factor.TheOpen.{Factor-F, Selector-F, Args-F, Elem-F, Expr-F, Simple-F, Term-F, Variable-F}
use Rattle.estelle_tree.specs.declared.tree.expression.Factor.TheFolds.{map-Factor, map-Selector, map-Elem, map-Expr, fold-Factor, fold-Selector, fold-Args, fold-Elem, fold-Expr, fold-Simple, fold-Term, fold-Variable, fold_out-Factor, fold_out-Selector, fold_out-Args, fold_out-Elem, fold_out-Expr, fold_out-Simple, fold_out-Term, fold_out-Variable}
use Rattle.estelle_tree.specs.declared.tree.statement.Stmt.{Stmt, out-Stmt}
use Rattle.estelle_tree.specs.declared.tree.statement.Case.{Case, out-Case}
use Rattle.estelle_tree.specs.declared.tree.statement.Stmts.{Stmts, out-Stmts}
use Rattle.estelle_tree.specs.declared.tree.statement.Stmt.TheOpen.{Stmt-F, Case-F, Stmts-F}
use Rattle.estelle_model.specs.Meant.{Meanings}
use Rattle.estelle_model.specs.Statements.{is_labelled}
use Rattle.body_walker_blocks.specs.Operands.{variable_at, variable_of_factor, variable_in_term, variable_of_term, variable_in_simple, variable_of_simple, variable_in_expr, variable_in}
use Rattle.estelle_model.specs.declared.meaning.Meaning.{Meaning}
use Rattle.estelle_model.specs.declared.meaning.Meaning.TheVariants.{Module}
use Rattle.body_walker_blocks.specs.Accesses.{rest_of, behind_beginning}
use Rattle.body_walker_blocks.specs.Labels.{exprs_of, labelled}
use Rattle.estelle_tree.specs.declared.tree.statement.Stmt.TheFolds.{map-Stmt, fold-Stmt, fold-Case, fold-Stmts, fold_out-Stmt, fold_out-Case, fold_out-Stmts}

-- ---- lists

abbrev pub if_any : Option ℕ → ℕ
if_any None = 0
if_any (Some n) = n

abbrev pub total : {A : Type 0} → (A → ℕ) → List A → ℕ
total f [] = 0
total f (x ∷ xs) = f x + total f xs

abbrev pub part : {A : Type 0} → (A → ℕ) → Option A → ℕ
part f None = 0
part f (Some x) = f x

total_map : {A B : Type 0} (f : B → ℕ) (g : A → B) (xs : List A) → total f (map g xs) ≡ total (λ x. f (g x)) xs
total_map f g [] = refl
total_map f g (x ∷ xs) = ap (λ n. f (g x) + n) (total_map f g xs)

-- no item weighs more than the list
pub total_at : {A : Type 0} (f : A → ℕ) (xs : List A) (i : ℕ) (d : A) → i < length xs → f (get_or xs i d) ≤ total f xs
total_at f [] i d h = absurd (omega (arith, h))
total_at f (x ∷ xs) zero d h = omega arith
total_at f (x ∷ xs) (suc i) d h = omega (arith, total_at f xs i d (omega (arith, h)))

-- ---- expressions

abbrev Layer : Type 0 → Type 0
Layer A = Factor-F A A A A A A A A

abbrev same : ℕ → ℕ
same n = n

abbrev factor_layer : Factor-F ℕ ℕ ℕ ℕ ℕ ℕ ℕ ℕ → ℕ
factor_layer (Factor-F.Number n span) = 1
factor_layer (Factor-F.Char n span) = 1
factor_layer (Factor-F.Variable v) = v + 3
factor_layer (Factor-F.Call x es span) = es + 7
factor_layer (Factor-F.Paren e span) = e + 1
factor_layer (Factor-F.Not e span) = e + 1
factor_layer (Factor-F.Set es span) = total same es + 2

abbrev selector_layer : Selector-F ℕ ℕ ℕ ℕ ℕ ℕ ℕ ℕ → ℕ
selector_layer (Selector-F.Index es) = total same es + 3
selector_layer (Selector-F.Field x) = 1

abbrev args_layer : Args-F ℕ ℕ ℕ ℕ ℕ ℕ ℕ ℕ → ℕ
args_layer a = total same a.exprs

abbrev elem_layer : Elem-F ℕ ℕ ℕ ℕ ℕ ℕ ℕ ℕ → ℕ
elem_layer e = e.first + part same e.last + 3

abbrev second : {B : Type 0} → B × ℕ → ℕ
second p = p.1

abbrev expr_layer : Expr-F ℕ ℕ ℕ ℕ ℕ ℕ ℕ ℕ → ℕ
expr_layer e = e.left + part second e.right + 4

abbrev simple_layer : Simple-F ℕ ℕ ℕ ℕ ℕ ℕ ℕ ℕ → ℕ
simple_layer s = s.first + total second s.others + 2

abbrev term_layer : Term-F ℕ ℕ ℕ ℕ ℕ ℕ ℕ ℕ → ℕ
term_layer t = t.first + total second t.others + 2

abbrev variable_layer : Variable-F ℕ ℕ ℕ ℕ ℕ ℕ ℕ ℕ → ℕ
variable_layer v = total same v.selectors + 3

unfoldable pub of_factor : Factor → ℕ
of_factor = fold-Factor ℕ ℕ ℕ ℕ ℕ ℕ ℕ ℕ factor_layer selector_layer args_layer elem_layer expr_layer simple_layer term_layer variable_layer

unfoldable pub of_selector : Selector → ℕ
of_selector = fold-Selector ℕ ℕ ℕ ℕ ℕ ℕ ℕ ℕ factor_layer selector_layer args_layer elem_layer expr_layer simple_layer term_layer variable_layer

unfoldable pub of_args : Args → ℕ
of_args = fold-Args ℕ ℕ ℕ ℕ ℕ ℕ ℕ ℕ factor_layer selector_layer args_layer elem_layer expr_layer simple_layer term_layer variable_layer

unfoldable pub of_elem : Elem → ℕ
of_elem = fold-Elem ℕ ℕ ℕ ℕ ℕ ℕ ℕ ℕ factor_layer selector_layer args_layer elem_layer expr_layer simple_layer term_layer variable_layer

unfoldable pub of_expr : Expr → ℕ
of_expr = fold-Expr ℕ ℕ ℕ ℕ ℕ ℕ ℕ ℕ factor_layer selector_layer args_layer elem_layer expr_layer simple_layer term_layer variable_layer

unfoldable pub of_simple : Simple → ℕ
of_simple = fold-Simple ℕ ℕ ℕ ℕ ℕ ℕ ℕ ℕ factor_layer selector_layer args_layer elem_layer expr_layer simple_layer term_layer variable_layer

unfoldable pub of_term : Term → ℕ
of_term = fold-Term ℕ ℕ ℕ ℕ ℕ ℕ ℕ ℕ factor_layer selector_layer args_layer elem_layer expr_layer simple_layer term_layer variable_layer

unfoldable pub of_variable : Variable → ℕ
of_variable = fold-Variable ℕ ℕ ℕ ℕ ℕ ℕ ℕ ℕ factor_layer selector_layer args_layer elem_layer expr_layer simple_layer term_layer variable_layer

abbrev pub factor_weight : Factor-F Factor Selector Args Elem Expr Simple Term Variable → ℕ
factor_weight (Factor-F.Number n span) = 1
factor_weight (Factor-F.Char n span) = 1
factor_weight (Factor-F.Variable v) = of_variable v + 3
factor_weight (Factor-F.Call x es span) = of_args es + 7
factor_weight (Factor-F.Paren e span) = of_expr e + 1
factor_weight (Factor-F.Not e span) = of_factor e + 1
factor_weight (Factor-F.Set es span) = total of_elem es + 2

factor_out : (l : Factor-F Factor Selector Args Elem Expr Simple Term Variable) → factor_layer (map-Factor Factor Selector Args Elem Expr Simple Term Variable ℕ ℕ ℕ ℕ ℕ ℕ ℕ ℕ of_factor of_selector of_args of_elem of_expr of_simple of_term of_variable l) ≡ factor_weight l
factor_out (Factor-F.Set es span) = ap (λ n. n + 2) (total_map same of_elem es)
factor_out (Factor-F.Number n span) = refl
factor_out (Factor-F.Char n span) = refl
factor_out (Factor-F.Variable v) = refl
factor_out (Factor-F.Call x es span) = refl
factor_out (Factor-F.Paren e span) = refl
factor_out (Factor-F.Not e span) = refl

pub factor_weighs : (x : Factor) → of_factor x ≡ factor_weight (out-Factor x)
unfolding of_factor of_selector of_args of_elem of_expr of_simple of_term of_variable
factor_weighs x = fold_out-Factor ℕ ℕ ℕ ℕ ℕ ℕ ℕ ℕ factor_layer selector_layer args_layer elem_layer expr_layer simple_layer term_layer variable_layer x ∙ factor_out (out-Factor x)

abbrev pub selector_weight : Selector-F Factor Selector Args Elem Expr Simple Term Variable → ℕ
selector_weight (Selector-F.Index es) = total of_expr es + 3
selector_weight (Selector-F.Field x) = 1

selector_out : (l : Selector-F Factor Selector Args Elem Expr Simple Term Variable) → selector_layer (map-Selector Factor Selector Args Elem Expr Simple Term Variable ℕ ℕ ℕ ℕ ℕ ℕ ℕ ℕ of_factor of_selector of_args of_elem of_expr of_simple of_term of_variable l) ≡ selector_weight l
selector_out (Selector-F.Index es) = ap (λ n. n + 3) (total_map same of_expr es)
selector_out (Selector-F.Field x) = refl

pub selector_weighs : (x : Selector) → of_selector x ≡ selector_weight (out-Selector x)
unfolding of_factor of_selector of_args of_elem of_expr of_simple of_term of_variable
selector_weighs x = fold_out-Selector ℕ ℕ ℕ ℕ ℕ ℕ ℕ ℕ factor_layer selector_layer args_layer elem_layer expr_layer simple_layer term_layer variable_layer x ∙ selector_out (out-Selector x)

pub args_weigh : (x : Args) → of_args x ≡ total of_expr (out-Args x).exprs
unfolding of_factor of_selector of_args of_elem of_expr of_simple of_term of_variable
args_weigh x = fold_out-Args ℕ ℕ ℕ ℕ ℕ ℕ ℕ ℕ factor_layer selector_layer args_layer elem_layer expr_layer simple_layer term_layer variable_layer x ∙ total_map same of_expr (out-Args x).exprs

elem_out : (first : Expr) (last : Option Expr) (span : Span) → elem_layer (map-Elem Factor Selector Args Elem Expr Simple Term Variable ℕ ℕ ℕ ℕ ℕ ℕ ℕ ℕ of_factor of_selector of_args of_elem of_expr of_simple of_term of_variable (record { first = first; last = last; span = span })) ≡ of_expr first + part of_expr last + 3
elem_out first None span = refl
elem_out first (Some e) span = refl

pub elem_weighs : (x : Elem) → of_elem x ≡ of_expr (out-Elem x).first + part of_expr (out-Elem x).last + 3
unfolding of_factor of_selector of_args of_elem of_expr of_simple of_term of_variable
elem_weighs x = fold_out-Elem ℕ ℕ ℕ ℕ ℕ ℕ ℕ ℕ factor_layer selector_layer args_layer elem_layer expr_layer simple_layer term_layer variable_layer x ∙ elem_out (out-Elem x).first (out-Elem x).last (out-Elem x).span

abbrev pub of_right : Relation × Simple → ℕ
of_right r = of_simple r.1

expr_out : (left : Simple) (right : Option (Relation × Simple)) (span : Span) → expr_layer (map-Expr Factor Selector Args Elem Expr Simple Term Variable ℕ ℕ ℕ ℕ ℕ ℕ ℕ ℕ of_factor of_selector of_args of_elem of_expr of_simple of_term of_variable (record { left = left; right = right; span = span })) ≡ of_simple left + part of_right right + 4
expr_out left None span = refl
expr_out left (Some r) span = refl

pub expr_weighs : (x : Expr) → of_expr x ≡ of_simple (out-Expr x).left + part of_right (out-Expr x).right + 4
unfolding of_factor of_selector of_args of_elem of_expr of_simple of_term of_variable
expr_weighs x = fold_out-Expr ℕ ℕ ℕ ℕ ℕ ℕ ℕ ℕ factor_layer selector_layer args_layer elem_layer expr_layer simple_layer term_layer variable_layer x ∙ expr_out (out-Expr x).left (out-Expr x).right (out-Expr x).span

abbrev pub of_other_term : Adding × Term → ℕ
of_other_term o = of_term o.1

pub simple_weighs : (x : Simple) → of_simple x ≡ of_term (out-Simple x).first + total of_other_term (out-Simple x).others + 2
unfolding of_factor of_selector of_args of_elem of_expr of_simple of_term of_variable
simple_weighs x = fold_out-Simple ℕ ℕ ℕ ℕ ℕ ℕ ℕ ℕ factor_layer selector_layer args_layer elem_layer expr_layer simple_layer term_layer variable_layer x ∙ ap (λ n. of_term (out-Simple x).first + n + 2) (total_map second (λ (o : Adding × Term). (o.0, of_term o.1)) (out-Simple x).others)

abbrev pub of_other_factor : Multiplying × Factor → ℕ
of_other_factor o = of_factor o.1

pub term_weighs : (x : Term) → of_term x ≡ of_factor (out-Term x).first + total of_other_factor (out-Term x).others + 2
unfolding of_factor of_selector of_args of_elem of_expr of_simple of_term of_variable
term_weighs x = fold_out-Term ℕ ℕ ℕ ℕ ℕ ℕ ℕ ℕ factor_layer selector_layer args_layer elem_layer expr_layer simple_layer term_layer variable_layer x ∙ ap (λ n. of_factor (out-Term x).first + n + 2) (total_map second (λ (o : Multiplying × Factor). (o.0, of_factor o.1)) (out-Term x).others)

pub variable_weighs : (x : Variable) → of_variable x ≡ total of_selector (out-Variable x).selectors + 3
unfolding of_factor of_selector of_args of_elem of_expr of_simple of_term of_variable
variable_weighs x = fold_out-Variable ℕ ℕ ℕ ℕ ℕ ℕ ℕ ℕ factor_layer selector_layer args_layer elem_layer expr_layer simple_layer term_layer variable_layer x ∙ ap (λ n. n + 3) (total_map same of_selector (out-Variable x).selectors)

-- ---- statements

abbrev pub of_arguments : Option Args → ℕ
of_arguments es = part of_args es

abbrev stmt_layer : Stmt-F ℕ ℕ ℕ → ℕ
stmt_layer (Stmt-F.Assign v e span) = of_variable v + of_expr e + 2
stmt_layer (Stmt-F.Call x es span) = of_arguments es + 6
stmt_layer (Stmt-F.Begin body span) = body + 1
stmt_layer (Stmt-F.If test then_part else_part span) = of_expr test + then_part + part same else_part + 3
stmt_layer (Stmt-F.While test body span) = of_expr test + body + 3
stmt_layer (Stmt-F.Repeat body test span) = of_expr test + body + 3
stmt_layer (Stmt-F.Count x first dir last body span) = of_expr first + of_expr last + body + 6
stmt_layer (Stmt-F.Case e cases semicolon span) = of_expr e + total same cases + 4
stmt_layer (Stmt-F.Init x b es span) = of_arguments es + 4
stmt_layer (Stmt-F.Output p m es span) = of_arguments es + 4
stmt_layer _ = 1

abbrev case_layer : Case-F ℕ ℕ ℕ → ℕ
case_layer c = c.body + 1

abbrev stmts_layer : Stmts-F ℕ ℕ ℕ → ℕ
stmts_layer x = total same x.stmts + 1

unfoldable pub of_stmt : Stmt → ℕ
of_stmt = fold-Stmt ℕ ℕ ℕ stmt_layer case_layer stmts_layer

unfoldable pub of_case : Case → ℕ
of_case = fold-Case ℕ ℕ ℕ stmt_layer case_layer stmts_layer

unfoldable pub of_stmts : Stmts → ℕ
of_stmts = fold-Stmts ℕ ℕ ℕ stmt_layer case_layer stmts_layer

abbrev pub stmt_weight : Stmt-F Stmt Case Stmts → ℕ
stmt_weight (Stmt-F.Assign v e span) = of_variable v + of_expr e + 2
stmt_weight (Stmt-F.Call x es span) = of_arguments es + 6
stmt_weight (Stmt-F.Begin body span) = of_stmts body + 1
stmt_weight (Stmt-F.If test then_part else_part span) = of_expr test + of_stmt then_part + part of_stmt else_part + 3
stmt_weight (Stmt-F.While test body span) = of_expr test + of_stmt body + 3
stmt_weight (Stmt-F.Repeat body test span) = of_expr test + of_stmts body + 3
stmt_weight (Stmt-F.Count x first dir last body span) = of_expr first + of_expr last + of_stmt body + 6
stmt_weight (Stmt-F.Case e cases semicolon span) = of_expr e + total of_case cases + 4
stmt_weight (Stmt-F.Init x b es span) = of_arguments es + 4
stmt_weight (Stmt-F.Output p m es span) = of_arguments es + 4
stmt_weight _ = 1

stmt_out : (l : Stmt-F Stmt Case Stmts) → stmt_layer (map-Stmt Stmt Case Stmts ℕ ℕ ℕ of_stmt of_case of_stmts l) ≡ stmt_weight l
stmt_out (Stmt-F.If test then_part None span) = refl
stmt_out (Stmt-F.If test then_part (Some else_part) span) = refl
stmt_out (Stmt-F.Case e cases semicolon span) = ap (λ n. of_expr e + n + 4) (total_map same of_case cases)
stmt_out _ = refl

pub stmt_weighs : (x : Stmt) → of_stmt x ≡ stmt_weight (out-Stmt x)
unfolding of_stmt of_case of_stmts
stmt_weighs x = fold_out-Stmt ℕ ℕ ℕ stmt_layer case_layer stmts_layer x ∙ stmt_out (out-Stmt x)

pub case_weighs : (x : Case) → of_case x ≡ of_stmt (out-Case x).body + 1
unfolding of_stmt of_case of_stmts
case_weighs x = fold_out-Case ℕ ℕ ℕ stmt_layer case_layer stmts_layer x

pub stmts_weigh : (x : Stmts) → of_stmts x ≡ total of_stmt (out-Stmts x).stmts + 1
unfolding of_stmt of_case of_stmts
stmts_weigh x = fold_out-Stmts ℕ ℕ ℕ stmt_layer case_layer stmts_layer x ∙ ap (λ n. n + 1) (total_map same of_stmt (out-Stmts x).stmts)

-- ---- parts of a tree that is opened

-- an item of a list
pub item_at : {A : Type 0} (f : A → ℕ) (xs : List A) (i : ℕ) (x : A) → i < length xs → x ≡ get_or xs i x → f x ≤ total f xs
item_at f xs i x below at = omega (arith, total_at f xs i x below, ap f at)

pub factor_is : (x : Factor) (l : Factor-F Factor Selector Args Elem Expr Simple Term Variable) → out-Factor x ≡ l → of_factor x ≡ factor_weight l
factor_is x l is = factor_weighs x ∙ ap factor_weight is

pub selector_is : (x : Selector) (l : Selector-F Factor Selector Args Elem Expr Simple Term Variable) → out-Selector x ≡ l → of_selector x ≡ selector_weight l
selector_is x l is = selector_weighs x ∙ ap selector_weight is

pub stmt_is : (x : Stmt) (l : Stmt-F Stmt Case Stmts) → out-Stmt x ≡ l → of_stmt x ≡ stmt_weight l
stmt_is x l is = stmt_weighs x ∙ ap stmt_weight is

-- ---- the variable that an expression is alone

factor_part : (f : Factor) (v : Variable) → variable_of_factor f ≡ Some v → of_variable v ≤ of_factor f
factor_part f v is = rw (factor_weighs f) (by (out-Factor f) is)
  where
    by : (l : Factor-F Factor Selector Args Elem Expr Simple Term Variable) → variable_at l ≡ Some v → of_variable v ≤ factor_weight l
    by (Factor-F.Variable w) e = let same_one : w ≡ v = cc in omega (arith, ap of_variable same_one)
    by (Factor-F.Number n span) e = cc
    by (Factor-F.Char n span) e = cc
    by (Factor-F.Call x es span) e = cc
    by (Factor-F.Paren x span) e = cc
    by (Factor-F.Not x span) e = cc
    by (Factor-F.Set es span) e = cc

term_part : (t : Term) (v : Variable) → variable_of_term t ≡ Some v → of_variable v ≤ of_term t
term_part t v is = by (out-Term t).others is
  where
    by : (os : List (Multiplying × Factor)) → variable_in_term (out-Term t).first os ≡ Some v → of_variable v ≤ of_term t
    by [] e = omega (arith, factor_part (out-Term t).first v e, term_weighs t)
    by (o ∷ os) e = cc

simple_part : (s : Simple) (v : Variable) → variable_of_simple s ≡ Some v → of_variable v ≤ of_simple s
simple_part s v is = by (out-Simple s).sign (out-Simple s).others is
  where
    by : (sign : Option Sign) (os : List (Adding × Term)) → variable_in_simple sign (out-Simple s).first os ≡ Some v → of_variable v ≤ of_simple s
    by None [] e = omega (arith, term_part (out-Simple s).first v e, simple_weighs s)
    by None (o ∷ os) e = cc
    by (Some sign) os e = cc

pub variable_part : (x : Expr) (v : Variable) → variable_in x ≡ Some v → of_variable v ≤ of_expr x
variable_part x v is = by (out-Expr x).right is
  where
    by : (right : Option (Relation × Simple)) → variable_in_expr (out-Expr x).left right ≡ Some v → of_variable v ≤ of_expr x
    by None e = omega (arith, simple_part (out-Expr x).left v e, expr_weighs x)
    by (Some r) e = cc

-- ---- the case that is chosen

either_part : (b : Bool) (x y : Stmt) (o : Option Stmt) (m n : ℕ) → cond b (Some x) o ≡ Some y → of_stmt x ≤ m → (o ≡ Some y → of_stmt y ≤ n) → of_stmt y ≤ m + n
either_part true x y o m n e here there = let same_one : x ≡ y = cc in omega (arith, ap of_stmt same_one, here)
either_part false x y o m n e here there = omega (arith, there e)

pub case_part : (meant : Meanings) (n : ℤ) (cs : List Case) (x : Stmt) → labelled meant n cs ≡ Some x → of_stmt x ≤ total of_case cs
case_part meant n [] x e = cc
case_part meant n (c ∷ cs) x e = either_part (is_labelled meant n (out-Case c).labels) (out-Case c).body x (labelled meant n cs) (of_case c) (total of_case cs) e (omega (arith, case_weighs c)) (case_part meant n cs x)

-- ---- arguments, and selectors behind a beginning

pub arguments_weigh : (es : Option Args) → total of_expr (exprs_of es) ≡ of_arguments es
arguments_weigh None = refl
arguments_weigh (Some es) = sym (args_weigh es)

rest_weighs : (ss : List Selector) → total of_selector (rest_of ss) ≤ total of_selector ss
rest_weighs [] = omega arith
rest_weighs (s ∷ ss) = omega arith

pub behind_weighs : (m : Meaning) (ss : List Selector) → total of_selector (behind_beginning m ss) ≤ total of_selector ss
behind_weighs (Module k) ss = rest_weighs ss
behind_weighs _ ss = omega arith
