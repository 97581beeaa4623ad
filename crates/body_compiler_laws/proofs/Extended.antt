-- Where a name that meant nothing means a constant, an expression that was compiled is compiled to the same code.
use Rattle.std.proofs.Common.{◌≡◌, refl, sym, ap, ap₂, subst, ℕ, Bool, true, false, List, [], ◌∷◌, length, inl, inr, Option, Some, None}
use Rattle.std.specs.Prelude.{◌⊎◌, ◌&&◌, IsTrue}
use Rattle.pascal_values.specs.declared.value.Value.{Value}
use Rattle.pascal_values.specs.declared.value.Value.TheVariants as pascal
use Rattle.estelle_tree.specs.declared.span.Span.{Span}
use Rattle.estelle_tree.specs.declared.tree.name.Name.{Name}
use Rattle.estelle_tree.specs.declared.tree.type_expr.Sign.{Sign}
use Rattle.estelle_tree.specs.declared.tree.type_expr.Sign.TheVariants as sign
use Rattle.estelle_tree.specs.declared.tree.expression.Relation.{Relation}
use Rattle.estelle_tree.specs.declared.tree.expression.Adding.{Adding}
use Rattle.estelle_tree.specs.declared.tree.expression.Adding.TheVariants as adding
use Rattle.estelle_tree.specs.declared.tree.expression.Multiplying.{Multiplying}
use Rattle.estelle_tree.specs.declared.tree.expression.Multiplying.TheVariants as multiplying
use Rattle.estelle_tree.specs.declared.tree.expression.Expr.{Expr}
use Rattle.estelle_tree.specs.declared.tree.expression.Args.{Args}
use Rattle.estelle_tree.specs.declared.tree.expression.Variable.{Variable}
use Rattle.estelle_tree.specs.declared.tree.expression.Factor.TheOpen.{Factor-F, Selector-F}
use Rattle.estelle_tree.specs.declared.required.Required.{Required}
use Rattle.estelle_tree.proofs.Folds.{Related, Pairs, KeepsAt, folds_related}
use Rattle.estelle_tree.proofs.ExpressionFolds as kind
use Rattle.estelle_tree.proofs.ExpressionFolds.{Kind, Layer, expressions}
use Rattle.body_code.specs.declared.instr.Instr.TheVariants as op
use Rattle.estelle_model.specs.declared.denoter.Host.{Host}
use Rattle.estelle_model.specs.declared.denoter.Host.TheVariants as hosts
use Rattle.estelle_model.specs.declared.denoter.Denoter.{Denoter, out-Denoter}
use Rattle.estelle_model.specs.Types.{shape_of, host_of, item_of, field_of}
use Rattle.estelle_model.specs.Operators.{required_host}
use Rattle.estelle_model.specs.Expressions.{result_host}
use Rattle.estelle_model.specs.declared.meaning.Passing.{Passing}
use Rattle.estelle_model.specs.declared.meaning.Passing.TheVariants.{ByValue, ByPlace}
use Rattle.estelle_model.specs.declared.meaning.Routine.{Routine}
use Rattle.estelle_model.specs.declared.meaning.Meaning.{Meaning}
use Rattle.estelle_model.specs.declared.meaning.Meaning.TheVariants.{Constant, Own, Exported, Local, Var, Field, Module, Called, RequiredFunction, Other}
use Rattle.estelle_model.specs.Meant.{Meanings}
use Rattle.estelle_model.proofs.Alike.{EachAlike, MaybeAlike, each_related, each_marked}
use Rattle.body_compiler_pieces.specs.Pieces.{Piece, refused, one, ◌⨾◌, fork}
use Rattle.body_compiler_pieces.specs.ExpressionCode as code
use Rattle.body_compiler_pieces.specs.ExpressionCode.{Operand, Access, Selecting, Written, Scope, by_number, truth, computed, item_code}
use Rattle.body_compiler_laws.proofs.CodeFolds.{Results, layers}

-- ---- meanings

-- the same, or a constant in place of nothing
abbrev pub MeansMore : Meaning → Meaning → Type 0
MeansMore m n = (m ≡ n) ⊎ ((m ≡ Other) × ((v : Value) × (h : Host) × (n ≡ Constant v h)))

-- a relation holds of both where it holds of each with itself, and of nothing with each constant
pub by_meaning : (P : Meaning → Meaning → Type 0) → ((m : Meaning) → P m m) → ((v : Value) (h : Host) → P Other (Constant v h)) → (m n : Meaning) → MeansMore m n → P m n
by_meaning P same chosen m n (inl e) = subst (λ x. P m x) e (same m)
by_meaning P same chosen m n (inr e) = subst (λ x. P x n) (sym e.0) (subst (λ y. P Other y) (sym e.1.2) (chosen e.1.0 e.1.1))

-- ---- pieces

-- where the one stands for something, the other is the same
abbrev pub Extends : Piece → Piece → Type 0
Extends p q = IsTrue p.fine → p ≡ q

pub first_true : (a b : Bool) → IsTrue (a && b) → IsTrue a
first_true true b h = refl
first_true false b h = absurd (cc)

pub second_true : (a b : Bool) → IsTrue (a && b) → IsTrue b
second_true true b h = h
second_true false b h = absurd (cc)

pub refused_extends : (q : Piece) → Extends refused q
refused_extends q fine = absurd (cc)

pub then_extends : (p q r s : Piece) → Extends p q → Extends r s → Extends (p ⨾ r) (q ⨾ s)
then_extends p q r s h k fine = ap₂ (λ a b. a ⨾ b) (h (first_true p.fine r.fine fine)) (k (second_true p.fine r.fine fine))

pub fork_extends : (p q r s : Piece) → Extends p q → Extends r s → Extends (fork p r) (fork q s)
fork_extends p q r s h k fine = ap₂ (λ a b. fork a b) (h (first_true p.fine r.fine fine)) (k (second_true p.fine r.fine fine))

-- with the same behind it
pub and_extends : (p q r : Piece) → Extends p q → Extends (p ⨾ r) (q ⨾ r)
and_extends p q r h = then_extends p q r r h (λ fine. refl)

truth_extends : (p q : Piece) → Extends p q → Extends (truth p) (truth q)
truth_extends p q h = and_extends p q (fork (one (op.Push (pascal.Bool true))) (one (op.Push (pascal.Bool false)))) h

module _ (scope : Scope) (meant : Meanings) (more : (x : Name) → MeansMore (scope.meant x) (meant x)) where
  abbrev pub wide : Scope
  wide = record scope { meant = meant }

  -- ---- operands, variables and selectors

  -- the place alone may stand for something, or the value with the host
  pub record OperandExtends (e f : Operand) : Type 0 where
    pub value : Extends e.value f.value
    pub host : IsTrue e.value.fine → e.host ≡ f.host
    pub place : Extends (code.place_of_operand scope e.place) (code.place_of_operand wide f.place)

  abbrev pub AccessExtends : Access → Access → Type 0
  AccessExtends a b = IsTrue a.place.fine → a ≡ b

  pub record SelectingExtends (x y : Selecting) : Type 0 where
    pub over : (a b : Access) → AccessExtends a b → AccessExtends (x.over a) (y.over b)
    pub name : x.name ≡ y.name

  pub record WrittenExtends (x y : Written) : Type 0 where
    pub name : x.name ≡ y.name
    pub selectors : EachAlike SelectingExtends x.selectors y.selectors

  computed_extends : (h : Host) (p q : Piece) → Extends p q → OperandExtends (computed h p) (computed h q)
  computed_extends h p q k = record { value = k; host = λ fine. refl; place = refused_extends refused }

  none_extends : (h : Host) (f : Operand) → OperandExtends (computed h refused) f
  none_extends h f = record { value = refused_extends f.value; host = λ fine. absurd (cc); place = refused_extends (code.place_of_operand wide f.place) }

  -- ---- places

  indexed_extends : (es fs : List Operand) (a b : Access) → EachAlike OperandExtends es fs → AccessExtends a b → AccessExtends (code.indexed scope es a) (code.indexed wide fs b)
  indexed_extends [] [] a b h k = k
  indexed_extends [] (f ∷ fs) a b h k = absurd h
  indexed_extends (e ∷ es) [] a b h k = absurd h
  indexed_extends (e ∷ es) (f ∷ fs) a b h k = indexed_extends es fs _ _ h.1
      (λ fine. ap₂ deeper (k (first_true a.place.fine _ fine)) (h.0.value (first_true e.value.fine true (first_true _ (item_code (out-Denoter a.denoter)).fine (second_true a.place.fine _ fine)))))
    where
      deeper : Access → Piece → Access
      deeper x p = record { denoter = item_of x.denoter; place = x.place ⨾ (p ⨾ one op.Ord) ⨾ item_code (out-Denoter x.denoter) }

  fielded_extends : (m n : Meaning) → MeansMore m n → (a b : Access) → AccessExtends a b → AccessExtends (code.fielded scope m a) (code.fielded wide n b)
  fielded_extends m n e a b k = by_meaning (λ x y. AccessExtends (code.fielded scope x a) (code.fielded wide y b)) same (λ v h fine. absurd (cc)) m n e
    where
      same : (x : Meaning) → AccessExtends (code.fielded scope x a) (code.fielded wide x b)
      same (Field i) = λ fine. ap (λ (y : Access). record { denoter = field_of y.denoter i; place = y.place ⨾ one (op.Field i) }) (k (first_true a.place.fine true fine))
      same x = λ fine. absurd (cc)

  selected_extends : (ss ts : List Selecting) (a b : Access) → EachAlike SelectingExtends ss ts → AccessExtends a b → AccessExtends (code.selected scope ss a) (code.selected wide ts b)
  selected_extends [] [] a b h k = k
  selected_extends [] (t ∷ ts) a b h k = absurd h
  selected_extends (s ∷ ss) [] a b h k = absurd h
  selected_extends (s ∷ ss) (t ∷ ts) a b h k = selected_extends ss ts (s.over a) (t.over b) h.1 (h.0.over a b k)

  exported_extends : (k : ℕ) (m n : Meaning) → MeansMore m n → (ss ts : List Selecting) → EachAlike SelectingExtends ss ts → MaybeAlike AccessExtends (code.exported scope k m ss) (code.exported wide k n ts)
  exported_extends k m n e ss ts h = by_meaning (λ x y. MaybeAlike AccessExtends (code.exported scope k x ss) (code.exported wide k y ts)) same (λ v h. tt) m n e
    where
      same : (x : Meaning) → MaybeAlike AccessExtends (code.exported scope k x ss) (code.exported wide k x ts)
      same (Exported i t) = selected_extends ss ts _ _ h (λ fine. refl)
      same x = tt

  behind_dot_extends : (k : ℕ) (o : Option Name) (ss ts : List Selecting) → EachAlike SelectingExtends ss ts → MaybeAlike AccessExtends (code.behind_dot scope k o ss) (code.behind_dot wide k o ts)
  behind_dot_extends k None ss ts h = tt
  behind_dot_extends k (Some x) ss ts h = exported_extends k (scope.meant x) (meant x) (more x) ss ts h

  behind_module_extends : (k : ℕ) (ss ts : List Selecting) → EachAlike SelectingExtends ss ts → MaybeAlike AccessExtends (code.behind_module scope k ss) (code.behind_module wide k ts)
  behind_module_extends k [] [] h = tt
  behind_module_extends k [] (t ∷ ts) h = absurd h
  behind_module_extends k (s ∷ ss) [] h = absurd h
  behind_module_extends k (s ∷ ss) (t ∷ ts) h = subst (λ (o : Option Name). MaybeAlike AccessExtends (code.behind_dot scope k s.name ss) (code.behind_dot wide k o ts)) h.0.name (behind_dot_extends k s.name ss ts h.1)

  pub accessed_extends : (m : Meaning) (ss ts : List Selecting) → EachAlike SelectingExtends ss ts → MaybeAlike AccessExtends (code.accessed scope m ss) (code.accessed wide m ts)
  accessed_extends (Own k t) ss ts h = selected_extends ss ts _ _ h (λ fine. refl)
  accessed_extends (Exported k t) ss ts h = selected_extends ss ts _ _ h (λ fine. refl)
  accessed_extends (Local k t) ss ts h = selected_extends ss ts _ _ h (λ fine. refl)
  accessed_extends (Var k t) ss ts h = selected_extends ss ts _ _ h (λ fine. refl)
  accessed_extends (Module k) ss ts h = behind_module_extends k ss ts h
  accessed_extends m ss ts h = tt

  of_access_extends : (o o' : Option Access) → MaybeAlike AccessExtends o o' → OperandExtends (code.of_access scope o) (code.of_access wide o')
  of_access_extends None None h = none_extends hosts.Integer _
  of_access_extends None (Some b) h = absurd h
  of_access_extends (Some a) None h = absurd h
  of_access_extends (Some a) (Some b) h = record {
    value = λ fine. ap (λ (x : Access). x.place ⨾ one op.Load) (h (first_true a.place.fine true fine));
    host = λ fine. ap (λ (x : Access). host_of x.denoter) (h (first_true a.place.fine true fine));
    place = λ fine. ap (λ (x : Access). x.place) (h fine);
  }

  -- ---- calls

  give_extends : (p : Passing) (e f : Operand) → OperandExtends e f → Extends (code.give scope p e) (code.give wide p f)
  give_extends (ByValue t) e f h = and_extends e.value f.value (by_number (scope.number (shape_of t)) (λ n. one (op.Fit n))) h.value
  give_extends ByPlace e f h = h.place

  pub give_all_extends : (ps : List Passing) (es fs : List Operand) → EachAlike OperandExtends es fs → Extends (code.give_all scope ps es) (code.give_all wide ps fs)
  give_all_extends [] [] [] h = λ fine. refl
  give_all_extends (p ∷ ps) (e ∷ es) (f ∷ fs) h = then_extends _ _ _ _ (give_extends p e f h.0) (give_all_extends ps es fs h.1)
  give_all_extends [] (e ∷ es) fs h = λ fine. absurd (cc)
  give_all_extends (p ∷ ps) [] fs h = λ fine. absurd (cc)
  give_all_extends [] [] (f ∷ fs) h = absurd h
  give_all_extends (p ∷ ps) (e ∷ es) [] h = absurd h

  pub call_extends : (u : Option (ℕ × ℕ)) (r : Routine) (es fs : List Operand) → EachAlike OperandExtends es fs → Extends (code.call scope u r es) (code.call wide u r fs)
  call_extends None r es fs h = λ fine. absurd (cc)
  call_extends (Some u) r es fs h = and_extends _ _ (one (op.Call u.0 u.1 (length r.parameters))) (give_all_extends r.parameters es fs h)

  called_extends : (x : Name) (r : Routine) (es fs : List Operand) → EachAlike OperandExtends es fs → OperandExtends (code.called scope x r es) (code.called wide x r fs)
  called_extends x r es fs h = computed_extends (result_host r.result) _ _ (by r.result)
    where
      by : (o : Option Denoter) → Extends (code.where_result scope o (code.call scope (scope.routine x) r es)) (code.where_result wide o (code.call wide (scope.routine x) r fs))
      by None = λ fine. absurd (cc)
      by (Some t) = call_extends (scope.routine x) r es fs h

  valued_extends : (x : Name) (m n : Meaning) → MeansMore m n → (ss ts : List Selecting) → EachAlike SelectingExtends ss ts → OperandExtends (code.valued scope x m ss) (code.valued wide x n ts)
  valued_extends x m n e ss ts h = by_meaning (λ y z. OperandExtends (code.valued scope x y ss) (code.valued wide x z ts)) same (λ v k. none_extends hosts.Integer _) m n e
    where
      same : (y : Meaning) → OperandExtends (code.valued scope x y ss) (code.valued wide x y ts)
      same (Constant v k) = computed_extends k (one (op.Push v)) (one (op.Push v)) (λ fine. refl)
      same (Called r) = called_extends x r [] [] tt
      same y = of_access_extends (code.accessed scope y ss) (code.accessed wide y ts) (accessed_extends y ss ts h)

  required_extends : (f : Required) (es fs : List Operand) → EachAlike OperandExtends es fs → OperandExtends (code.required_of scope f es) (code.required_of wide f fs)
  required_extends f (e ∷ []) (g ∷ []) h = record {
    value = λ fine. ap₂ (λ (p : Piece) (k : Host). p ⨾ code.required_code scope f k) (h.0.value (first_true e.value.fine _ fine)) (h.0.host (first_true e.value.fine _ fine));
    host = λ fine. ap (required_host f) (h.0.host (first_true e.value.fine _ fine));
    place = λ fine. absurd (cc);
  }
  required_extends f [] fs h = none_extends hosts.Integer _
  required_extends f (e ∷ (d ∷ es)) fs h = none_extends hosts.Integer _
  required_extends f (e ∷ []) [] h = absurd h
  required_extends f (e ∷ []) (g ∷ (k ∷ fs)) h = absurd h.1

  designated_extends : (x : Name) (m n : Meaning) → MeansMore m n → (es fs : List Operand) → EachAlike OperandExtends es fs → OperandExtends (code.designated scope x m es) (code.designated wide x n fs)
  designated_extends x m n e es fs h = by_meaning (λ y z. OperandExtends (code.designated scope x y es) (code.designated wide x z fs)) same (λ v k. none_extends hosts.Integer _) m n e
    where
      same : (y : Meaning) → OperandExtends (code.designated scope x y es) (code.designated wide x y fs)
      same (Called r) = called_extends x r es fs h
      same (RequiredFunction f) = required_extends f es fs h
      same y = none_extends hosts.Integer _

  -- ---- sets

  united_extends : (ps qs : List Piece) → EachAlike Extends ps qs → Extends (code.united scope ps) (code.united wide qs)
  united_extends [] [] h = λ fine. refl
  united_extends [] (q ∷ qs) h = absurd h
  united_extends (p ∷ ps) [] h = absurd h
  united_extends (p ∷ ps) (q ∷ qs) h = then_extends p q _ _ h.0 (then_extends (one op.Unite) (one op.Unite) _ _ (λ fine. refl) (united_extends ps qs h.1))

  member_extends : (e f : Operand) (o o' : Option Operand) → OperandExtends e f → MaybeAlike OperandExtends o o' → Extends (code.member scope e o) (code.member wide f o')
  member_extends e f None None h k = and_extends e.value f.value (one op.One) h.value
  member_extends e f None (Some g) h k = absurd k
  member_extends e f (Some d) None h k = absurd k
  member_extends e f (Some d) (Some g) h k = then_extends _ _ _ _ (and_extends e.value f.value (one op.Ord) h.value) (and_extends d.value g.value (one op.Span) k.value)

  -- ---- rows of operands

  multiplied_extends : (o : Multiplying) (p q r s : Piece) → Extends p q → Extends r s → Extends (code.multiplied scope o p r) (code.multiplied wide o q s)
  multiplied_extends multiplying.Star p q r s h k = then_extends p q _ _ h (and_extends r s (one op.Mul) k)
  multiplied_extends multiplying.Div p q r s h k = then_extends p q _ _ h (and_extends r s (one op.Div) k)
  multiplied_extends multiplying.Mod p q r s h k = then_extends p q _ _ h (and_extends r s (one op.Mod) k)
  multiplied_extends multiplying.And p q r s h k = then_extends p q _ _ h (fork_extends (truth r) (truth s) (one (op.Push (pascal.Bool false))) (one (op.Push (pascal.Bool false))) (truth_extends r s k) (λ fine. refl))

  added_extends : (o : Adding) (p q r s : Piece) → Extends p q → Extends r s → Extends (code.added o p r) (code.added o q s)
  added_extends adding.Plus p q r s h k = then_extends p q _ _ h (and_extends r s (one op.Add) k)
  added_extends adding.Minus p q r s h k = then_extends p q _ _ h (and_extends r s (one op.Sub) k)
  added_extends adding.Or p q r s h k = then_extends p q _ _ h (fork_extends (one (op.Push (pascal.Bool true))) (one (op.Push (pascal.Bool true))) (truth r) (truth s) (λ fine. refl) (truth_extends r s k))

  term_extends : (xs ys : List (Multiplying × Operand)) (e f : Operand) → EachAlike (λ (x y : Multiplying × Operand). (x.0 ≡ y.0) × OperandExtends x.1 y.1) xs ys → OperandExtends e f → OperandExtends (code.term_of scope e xs) (code.term_of wide f ys)
  term_extends [] [] e f h k = k
  term_extends [] (y ∷ ys) e f h k = absurd h
  term_extends (x ∷ xs) [] e f h k = absurd h
  term_extends (x ∷ xs) (y ∷ ys) e f h k = term_extends xs ys _ _ h.1
      (subst (λ (o : Multiplying). OperandExtends (computed (code.multiplied_host scope x.0) (code.multiplied scope x.0 e.value x.1.value)) (computed (code.multiplied_host wide o) (code.multiplied wide o f.value y.1.value))) h.0.0
      (computed_extends (code.multiplied_host scope x.0) _ _ (multiplied_extends x.0 e.value f.value x.1.value y.1.value k.value h.0.1.value)))

  simple_extends : (xs ys : List (Adding × Operand)) (e f : Operand) → EachAlike (λ (x y : Adding × Operand). (x.0 ≡ y.0) × OperandExtends x.1 y.1) xs ys → OperandExtends e f → OperandExtends (code.simple_of scope e xs) (code.simple_of wide f ys)
  simple_extends [] [] e f h k = k
  simple_extends [] (y ∷ ys) e f h k = absurd h
  simple_extends (x ∷ xs) [] e f h k = absurd h
  simple_extends (x ∷ xs) (y ∷ ys) e f h k = simple_extends xs ys _ _ h.1
      (subst (λ (o : Adding). OperandExtends (computed (code.added_host x.0) (code.added x.0 e.value x.1.value)) (computed (code.added_host o) (code.added o f.value y.1.value))) h.0.0
      (computed_extends (code.added_host x.0) _ _ (added_extends x.0 e.value f.value x.1.value y.1.value k.value h.0.1.value)))

  with_sign_extends : (o : Option Sign) (e f : Operand) → OperandExtends e f → OperandExtends (code.with_sign scope o e) (code.with_sign wide o f)
  with_sign_extends None e f h = h
  with_sign_extends (Some sign.Plus) e f h = computed_extends hosts.Integer e.value f.value h.value
  with_sign_extends (Some sign.Minus) e f h = computed_extends hosts.Integer _ _ (and_extends e.value f.value (one op.Neg) h.value)

  -- ---- trees

  abbrev NodeExtends : (k : Kind) → Results k → Results k → Type 0
  NodeExtends kind.selector = SelectingExtends
  NodeExtends kind.args = EachAlike OperandExtends
  NodeExtends kind.elem = Extends
  NodeExtends kind.variable = WrittenExtends
  NodeExtends kind.factor = OperandExtends
  NodeExtends kind.expr = OperandExtends
  NodeExtends kind.simple = OperandExtends
  NodeExtends kind.term = OperandExtends

  abbrev Node : Type 0
  Node = Related Operand Operand OperandExtends

  at_expr : (left : Node) (right : Option (Relation × Node)) (span : Span) → KeepsAt expressions Results Results (layers scope) (layers wide) NodeExtends kind.expr (record { left = left; right = right; span = span })
  at_expr left None span = left.holds
  at_expr left (Some x) span = computed_extends hosts.Boolean _ _ (then_extends left.left.value left.right.value _ _ left.holds.value (and_extends x.1.left.value x.1.right.value (code.relation_of scope x.0) x.1.holds.value))

  at_elem : (first : Node) (last : Option Node) (span : Span) → KeepsAt expressions Results Results (layers scope) (layers wide) NodeExtends kind.elem (record { first = first; last = last; span = span })
  at_elem first None span = member_extends first.left first.right None None first.holds tt
  at_elem first (Some x) span = member_extends first.left first.right (Some x.left) (Some x.right) first.holds x.holds

  keeps : (k : Kind) (l : Layer k (Pairs expressions Results Results (layers scope) (layers wide) NodeExtends)) → KeepsAt expressions Results Results (layers scope) (layers wide) NodeExtends k l
  keeps kind.factor (Factor-F.Number n span) = computed_extends _ _ _ (λ fine. refl)
  keeps kind.factor (Factor-F.Char n span) = computed_extends _ _ _ (λ fine. refl)
  keeps kind.factor (Factor-F.Variable v) = subst (λ (x : Name). OperandExtends (code.valued scope v.left.name (scope.meant v.left.name) v.left.selectors) (code.valued wide x (meant x) v.right.selectors)) v.holds.name
      (valued_extends v.left.name (scope.meant v.left.name) (meant v.left.name) (more v.left.name) v.left.selectors v.right.selectors v.holds.selectors)
  keeps kind.factor (Factor-F.Call x es span) = designated_extends x (scope.meant x) (meant x) (more x) es.left es.right es.holds
  keeps kind.factor (Factor-F.Paren e span) = record { value = e.holds.value; host = e.holds.host; place = refused_extends refused }
  keeps kind.factor (Factor-F.Not e span) = computed_extends _ _ _ (and_extends e.left.value e.right.value (one op.Not) e.holds.value)
  keeps kind.factor (Factor-F.Set elems span) = computed_extends _ _ _ (then_extends (one op.Empty) (one op.Empty) _ _ (λ fine. refl) (united_extends _ _ (each_related Extends elems)))
  keeps kind.selector (Selector-F.Index es) = record { over = λ a b h. indexed_extends _ _ a b (each_related OperandExtends es) h; name = refl }
  keeps kind.selector (Selector-F.Field x) = record { over = λ a b h. fielded_extends (scope.meant x) (meant x) (more x) a b h; name = refl }
  keeps kind.args l = each_related OperandExtends l.exprs
  keeps kind.elem l = at_elem l.first l.last l.span
  keeps kind.expr l = at_expr l.left l.right l.span
  keeps kind.simple l = simple_extends _ _ _ _ (each_marked OperandExtends l.others) (with_sign_extends l.sign l.first.left l.first.right l.first.holds)
  keeps kind.term l = term_extends _ _ _ _ (each_marked OperandExtends l.others) l.first.holds
  keeps kind.variable l = record { name = refl; selectors = each_related SelectingExtends l.selectors }

  nodes_extend : (k : Kind) (x : kind.Tree k) → NodeExtends k (kind.folded Results (layers scope) k x) (kind.folded Results (layers wide) k x)
  nodes_extend = folds_related expressions Results Results (layers scope) (layers wide) NodeExtends keeps

  pub expr_extends : (x : Expr) → OperandExtends (code.expr scope x) (code.expr wide x)
  unfolding code.expr
  expr_extends = nodes_extend kind.expr

  pub variable_extends : (x : Variable) → WrittenExtends (code.variable scope x) (code.variable wide x)
  unfolding code.variable
  variable_extends = nodes_extend kind.variable

  pub args_extend : (x : Args) → EachAlike OperandExtends (code.args scope x) (code.args wide x)
  unfolding code.args
  args_extend = nodes_extend kind.args
