-- Expressions as a group of types, of which folds are made.
use Rattle.std.proofs.Common.{◌≡◌, List, Option, Some, None, refl, ap, subst}
use Rattle.estelle_tree.specs.declared.span.Span.{Span}
use Rattle.estelle_tree.specs.declared.tree.expression.Relation.{Relation}
use Rattle.estelle_tree.specs.declared.tree.expression.Adding.{Adding}
use Rattle.estelle_tree.specs.declared.tree.expression.Multiplying.{Multiplying}
use Rattle.estelle_tree.specs.declared.tree.expression.Factor.{Factor, roll-Factor, map-Factor, fold-Factor, fold-roll-Factor}
use Rattle.estelle_tree.specs.declared.tree.expression.Selector.{Selector, roll-Selector}
use Rattle.estelle_tree.specs.declared.tree.expression.Args.{Args, roll-Args}
use Rattle.estelle_tree.specs.declared.tree.expression.Elem.{Elem, roll-Elem}
use Rattle.estelle_tree.specs.declared.tree.expression.Expr.{Expr, roll-Expr}
use Rattle.estelle_tree.specs.declared.tree.expression.Simple.{Simple, roll-Simple}
use Rattle.estelle_tree.specs.declared.tree.expression.Term.{Term, roll-Term}
use Rattle.estelle_tree.specs.declared.tree.expression.Variable.{Variable, roll-Variable}
use Rattle.estelle_tree.specs.declared.tree.expression.Factor.TheOpen.{Factor-F, Selector-F, Args-F, Elem-F, Expr-F, Simple-F, Term-F, Variable-F}
use Rattle.estelle_tree.specs.declared.tree.expression.Factor.TheFolds.{ind-Factor, map-Selector, map-Args, map-Elem, map-Expr, map-Simple, map-Term, map-Variable, fold-Selector, fold-Args, fold-Elem, fold-Expr, fold-Simple, fold-Term, fold-Variable, fold-roll-Selector, fold-roll-Args, fold-roll-Elem, fold-roll-Expr, fold-roll-Simple, fold-roll-Term, fold-roll-Variable, ind-Selector, ind-Args, ind-Elem, ind-Expr, ind-Simple, ind-Term, ind-Variable}
use Rattle.std.proofs.lemmas.Simd.{map-map}
use Rattle.estelle_tree.proofs.Folds.{Group}

-- the types of the group
pub data Kind : Type 0 where
  factor : Kind
  selector : Kind
  args : Kind
  elem : Kind
  expr : Kind
  simple : Kind
  term : Kind
  variable : Kind

abbrev pub Tree : Kind → Type 0
Tree factor = Factor
Tree selector = Selector
Tree args = Args
Tree elem = Elem
Tree expr = Expr
Tree simple = Simple
Tree term = Term
Tree variable = Variable

abbrev pub Layer : Kind → (Kind → Type 0) → Type 0
Layer factor A = Factor-F (A factor) (A selector) (A args) (A elem) (A expr) (A simple) (A term) (A variable)
Layer selector A = Selector-F (A factor) (A selector) (A args) (A elem) (A expr) (A simple) (A term) (A variable)
Layer args A = Args-F (A factor) (A selector) (A args) (A elem) (A expr) (A simple) (A term) (A variable)
Layer elem A = Elem-F (A factor) (A selector) (A args) (A elem) (A expr) (A simple) (A term) (A variable)
Layer expr A = Expr-F (A factor) (A selector) (A args) (A elem) (A expr) (A simple) (A term) (A variable)
Layer simple A = Simple-F (A factor) (A selector) (A args) (A elem) (A expr) (A simple) (A term) (A variable)
Layer term A = Term-F (A factor) (A selector) (A args) (A elem) (A expr) (A simple) (A term) (A variable)
Layer variable A = Variable-F (A factor) (A selector) (A args) (A elem) (A expr) (A simple) (A term) (A variable)

abbrev pub roll : (k : Kind) → Layer k Tree → Tree k
roll factor = roll-Factor
roll selector = roll-Selector
roll args = roll-Args
roll elem = roll-Elem
roll expr = roll-Expr
roll simple = roll-Simple
roll term = roll-Term
roll variable = roll-Variable

module _ (A B : Kind → Type 0) (f : (k : Kind) → A k → B k) where
  abbrev pub mapped : (k : Kind) → Layer k A → Layer k B
  mapped factor = map-Factor (A factor) (A selector) (A args) (A elem) (A expr) (A simple) (A term) (A variable) (B factor) (B selector) (B args) (B elem) (B expr) (B simple) (B term) (B variable) (f factor) (f selector) (f args) (f elem) (f expr) (f simple) (f term) (f variable)
  mapped selector = map-Selector (A factor) (A selector) (A args) (A elem) (A expr) (A simple) (A term) (A variable) (B factor) (B selector) (B args) (B elem) (B expr) (B simple) (B term) (B variable) (f factor) (f selector) (f args) (f elem) (f expr) (f simple) (f term) (f variable)
  mapped args = map-Args (A factor) (A selector) (A args) (A elem) (A expr) (A simple) (A term) (A variable) (B factor) (B selector) (B args) (B elem) (B expr) (B simple) (B term) (B variable) (f factor) (f selector) (f args) (f elem) (f expr) (f simple) (f term) (f variable)
  mapped elem = map-Elem (A factor) (A selector) (A args) (A elem) (A expr) (A simple) (A term) (A variable) (B factor) (B selector) (B args) (B elem) (B expr) (B simple) (B term) (B variable) (f factor) (f selector) (f args) (f elem) (f expr) (f simple) (f term) (f variable)
  mapped expr = map-Expr (A factor) (A selector) (A args) (A elem) (A expr) (A simple) (A term) (A variable) (B factor) (B selector) (B args) (B elem) (B expr) (B simple) (B term) (B variable) (f factor) (f selector) (f args) (f elem) (f expr) (f simple) (f term) (f variable)
  mapped simple = map-Simple (A factor) (A selector) (A args) (A elem) (A expr) (A simple) (A term) (A variable) (B factor) (B selector) (B args) (B elem) (B expr) (B simple) (B term) (B variable) (f factor) (f selector) (f args) (f elem) (f expr) (f simple) (f term) (f variable)
  mapped term = map-Term (A factor) (A selector) (A args) (A elem) (A expr) (A simple) (A term) (A variable) (B factor) (B selector) (B args) (B elem) (B expr) (B simple) (B term) (B variable) (f factor) (f selector) (f args) (f elem) (f expr) (f simple) (f term) (f variable)
  mapped variable = map-Variable (A factor) (A selector) (A args) (A elem) (A expr) (A simple) (A term) (A variable) (B factor) (B selector) (B args) (B elem) (B expr) (B simple) (B term) (B variable) (f factor) (f selector) (f args) (f elem) (f expr) (f simple) (f term) (f variable)

module _ (A : Kind → Type 0) (a : (k : Kind) → Layer k A → A k) where
  abbrev pub folded : (k : Kind) → Tree k → A k
  folded factor = fold-Factor (A factor) (A selector) (A args) (A elem) (A expr) (A simple) (A term) (A variable) (a factor) (a selector) (a args) (a elem) (a expr) (a simple) (a term) (a variable)
  folded selector = fold-Selector (A factor) (A selector) (A args) (A elem) (A expr) (A simple) (A term) (A variable) (a factor) (a selector) (a args) (a elem) (a expr) (a simple) (a term) (a variable)
  folded args = fold-Args (A factor) (A selector) (A args) (A elem) (A expr) (A simple) (A term) (A variable) (a factor) (a selector) (a args) (a elem) (a expr) (a simple) (a term) (a variable)
  folded elem = fold-Elem (A factor) (A selector) (A args) (A elem) (A expr) (A simple) (A term) (A variable) (a factor) (a selector) (a args) (a elem) (a expr) (a simple) (a term) (a variable)
  folded expr = fold-Expr (A factor) (A selector) (A args) (A elem) (A expr) (A simple) (A term) (A variable) (a factor) (a selector) (a args) (a elem) (a expr) (a simple) (a term) (a variable)
  folded simple = fold-Simple (A factor) (A selector) (A args) (A elem) (A expr) (A simple) (A term) (A variable) (a factor) (a selector) (a args) (a elem) (a expr) (a simple) (a term) (a variable)
  folded term = fold-Term (A factor) (A selector) (A args) (A elem) (A expr) (A simple) (A term) (A variable) (a factor) (a selector) (a args) (a elem) (a expr) (a simple) (a term) (a variable)
  folded variable = fold-Variable (A factor) (A selector) (A args) (A elem) (A expr) (A simple) (A term) (A variable) (a factor) (a selector) (a args) (a elem) (a expr) (a simple) (a term) (a variable)

  pub made : (k : Kind) (l : Layer k Tree) → folded k (roll k l) ≡ a k (mapped Tree A folded k l)
  made factor l = fold-roll-Factor (A factor) (A selector) (A args) (A elem) (A expr) (A simple) (A term) (A variable) (a factor) (a selector) (a args) (a elem) (a expr) (a simple) (a term) (a variable) l
  made selector l = fold-roll-Selector (A factor) (A selector) (A args) (A elem) (A expr) (A simple) (A term) (A variable) (a factor) (a selector) (a args) (a elem) (a expr) (a simple) (a term) (a variable) l
  made args l = fold-roll-Args (A factor) (A selector) (A args) (A elem) (A expr) (A simple) (A term) (A variable) (a factor) (a selector) (a args) (a elem) (a expr) (a simple) (a term) (a variable) l
  made elem l = fold-roll-Elem (A factor) (A selector) (A args) (A elem) (A expr) (A simple) (A term) (A variable) (a factor) (a selector) (a args) (a elem) (a expr) (a simple) (a term) (a variable) l
  made expr l = fold-roll-Expr (A factor) (A selector) (A args) (A elem) (A expr) (A simple) (A term) (A variable) (a factor) (a selector) (a args) (a elem) (a expr) (a simple) (a term) (a variable) l
  made simple l = fold-roll-Simple (A factor) (A selector) (A args) (A elem) (A expr) (A simple) (A term) (A variable) (a factor) (a selector) (a args) (a elem) (a expr) (a simple) (a term) (a variable) l
  made term l = fold-roll-Term (A factor) (A selector) (A args) (A elem) (A expr) (A simple) (A term) (A variable) (a factor) (a selector) (a args) (a elem) (a expr) (a simple) (a term) (a variable) l
  made variable l = fold-roll-Variable (A factor) (A selector) (A args) (A elem) (A expr) (A simple) (A term) (A variable) (a factor) (a selector) (a args) (a elem) (a expr) (a simple) (a term) (a variable) l

module _ (A B C : Kind → Type 0) (f : (k : Kind) → A k → B k) (g : (k : Kind) → B k → C k) where
  pub twice : (k : Kind) (l : Layer k A) → mapped B C g k (mapped A B f k l) ≡ mapped A C (λ k x. g k (f k x)) k l
  twice factor (Factor-F.Set elems span) = ap (λ ys. Factor-F.Set ys span) (map-map (g elem) (f elem) elems)
  twice factor (Factor-F.Number n span) = refl
  twice factor (Factor-F.Char n span) = refl
  twice factor (Factor-F.Variable v) = refl
  twice factor (Factor-F.Call x es span) = refl
  twice factor (Factor-F.Paren e span) = refl
  twice factor (Factor-F.Not e span) = refl
  twice selector (Selector-F.Index es) = ap (λ ys. Selector-F.Index ys) (map-map (g expr) (f expr) es)
  twice selector (Selector-F.Field x) = refl
  twice args l = let by : List (C expr) → Layer args C = λ ys. record { exprs = ys; span = l.span } in ap by (map-map (g expr) (f expr) l.exprs)
  twice elem l = by l.first l.last l.span
    where
      by : (first : A expr) (last : Option (A expr)) (span : Span) → mapped B C g elem (mapped A B f elem (record { first = first; last = last; span = span })) ≡ mapped A C (λ k x. g k (f k x)) elem (record { first = first; last = last; span = span })
      by first None span = refl
      by first (Some e) span = refl
  twice expr l = by l.left l.right l.span
    where
      by : (left : A simple) (right : Option (Relation × A simple)) (span : Span) → mapped B C g expr (mapped A B f expr (record { left = left; right = right; span = span })) ≡ mapped A C (λ k x. g k (f k x)) expr (record { left = left; right = right; span = span })
      by left None span = refl
      by left (Some x) span = refl
  twice simple l = let by : List (Adding × C term) → Layer simple C = λ ys. record { sign = l.sign; first = g term (f term l.first); others = ys; span = l.span } in
      ap by (map-map {A = Adding × A term} {B = Adding × B term} {C = Adding × C term} (λ e. (e.0, g term e.1)) (λ e. (e.0, f term e.1)) l.others)
  twice term l = let by : List (Multiplying × C factor) → Layer term C = λ ys. record { first = g factor (f factor l.first); others = ys; span = l.span } in
      ap by (map-map {A = Multiplying × A factor} {B = Multiplying × B factor} {C = Multiplying × C factor} (λ e. (e.0, g factor e.1)) (λ e. (e.0, f factor e.1)) l.others)
  twice variable l = let by : List (C selector) → Layer variable C = λ ys. record { name = l.name; selectors = ys; span = l.span } in ap by (map-map (g selector) (f selector) l.selectors)

module _ (Q : (k : Kind) → Tree k → Type 0) where
  abbrev Shown : Kind → Type 0
  Shown k = (x : Tree k) × Q k x

  module _ (step : (k : Kind) (l : Layer k Shown) → Q k (roll k (mapped Shown Tree (λ k e. e.0) k l))) where
    at_layer : (k : Kind) (x : Layer k Tree) (l : Layer k Shown) → mapped Shown Tree (λ k e. e.0) k l ≡ x → Q k (roll k x)
    at_layer k x l is = subst (λ (z : Layer k Tree). Q k (roll k z)) is (step k l)

    pub induction : (k : Kind) (x : Tree k) → Q k x
    induction factor = ind-Factor (Q factor) (Q selector) (Q args) (Q elem) (Q expr) (Q simple) (Q term) (Q variable) (at_layer factor) (at_layer selector) (at_layer args) (at_layer elem) (at_layer expr) (at_layer simple) (at_layer term) (at_layer variable)
    induction selector = ind-Selector (Q factor) (Q selector) (Q args) (Q elem) (Q expr) (Q simple) (Q term) (Q variable) (at_layer factor) (at_layer selector) (at_layer args) (at_layer elem) (at_layer expr) (at_layer simple) (at_layer term) (at_layer variable)
    induction args = ind-Args (Q factor) (Q selector) (Q args) (Q elem) (Q expr) (Q simple) (Q term) (Q variable) (at_layer factor) (at_layer selector) (at_layer args) (at_layer elem) (at_layer expr) (at_layer simple) (at_layer term) (at_layer variable)
    induction elem = ind-Elem (Q factor) (Q selector) (Q args) (Q elem) (Q expr) (Q simple) (Q term) (Q variable) (at_layer factor) (at_layer selector) (at_layer args) (at_layer elem) (at_layer expr) (at_layer simple) (at_layer term) (at_layer variable)
    induction expr = ind-Expr (Q factor) (Q selector) (Q args) (Q elem) (Q expr) (Q simple) (Q term) (Q variable) (at_layer factor) (at_layer selector) (at_layer args) (at_layer elem) (at_layer expr) (at_layer simple) (at_layer term) (at_layer variable)
    induction simple = ind-Simple (Q factor) (Q selector) (Q args) (Q elem) (Q expr) (Q simple) (Q term) (Q variable) (at_layer factor) (at_layer selector) (at_layer args) (at_layer elem) (at_layer expr) (at_layer simple) (at_layer term) (at_layer variable)
    induction term = ind-Term (Q factor) (Q selector) (Q args) (Q elem) (Q expr) (Q simple) (Q term) (Q variable) (at_layer factor) (at_layer selector) (at_layer args) (at_layer elem) (at_layer expr) (at_layer simple) (at_layer term) (at_layer variable)
    induction variable = ind-Variable (Q factor) (Q selector) (Q args) (Q elem) (Q expr) (Q simple) (Q term) (Q variable) (at_layer factor) (at_layer selector) (at_layer args) (at_layer elem) (at_layer expr) (at_layer simple) (at_layer term) (at_layer variable)

abbrev pub expressions : Group
expressions = record { Kind = Kind; Tree = Tree; Layer = Layer; mapped = mapped; roll = roll; folded = folded; made = made; twice = twice; induction = induction }
