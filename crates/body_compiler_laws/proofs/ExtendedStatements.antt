-- Where a name that meant nothing means a constant, a statement that was compiled is compiled to the same code.
use Rattle.std.proofs.Common.{◌≡◌, ◌∙◌, refl, ap, ap₂, subst, ℕ, Bool, true, false, List, [], ◌∷◌, length, map, ℤ, Result, Ok, Err, inl, Option, Some, None}
use Rattle.std.specs.Prelude.{◌&&◌, IsTrue, option_map}
use Rattle.pascal_values.specs.declared.value.Shape.{Shape}
use Rattle.estelle_tree.specs.declared.tree.name.Name.{Name}
use Rattle.estelle_tree.specs.declared.tree.type_expr.Const.{Const}
use Rattle.estelle_tree.specs.declared.tree.type_expr.Const.TheVariants as const
use Rattle.estelle_tree.specs.declared.tree.expression.Expr.{Expr}
use Rattle.estelle_tree.specs.declared.tree.expression.Args.{Args}
use Rattle.estelle_tree.specs.declared.tree.expression.Variable.{Variable}
use Rattle.estelle_tree.specs.declared.tree.statement.Direction.{Direction}
use Rattle.estelle_tree.specs.declared.tree.statement.Stmts.{Stmts}
use Rattle.estelle_tree.specs.declared.tree.statement.Stmt.TheOpen.{Stmt-F}
use Rattle.estelle_tree.proofs.Folds.{Pairs, KeepsAt, folds_related}
use Rattle.estelle_tree.proofs.StatementFolds as kind
use Rattle.estelle_tree.proofs.StatementFolds.{Kind, Layer, statements}
use Rattle.body_code.specs.declared.instr.Point as point
use Rattle.body_code.specs.declared.instr.Ends.TheVariants.{Point}
use Rattle.body_code.specs.declared.instr.Instr.TheVariants as op
use Rattle.estelle_model.specs.declared.denoter.Denoter.{Denoter}
use Rattle.estelle_model.specs.declared.denoter.Host.TheVariants as hosts
use Rattle.estelle_model.specs.Stops.{Stop}
use Rattle.estelle_model.specs.Types.{ordinal_of, shape_of, host_of, whole}
use Rattle.estelle_model.specs.Operators.{◌>>>◌}
use Rattle.estelle_model.specs.Constants.{by_sign, constant_named, constant_of}
use Rattle.estelle_model.specs.declared.meaning.Passing.TheVariants.{ByValue}
use Rattle.estelle_model.specs.declared.meaning.Routine.{Routine}
use Rattle.estelle_model.specs.declared.meaning.Meaning.{Meaning}
use Rattle.estelle_model.specs.declared.meaning.Meaning.TheVariants.{Called, Ip, Module, Body, Own as OwnVariable, Exported, Local}
use Rattle.estelle_model.specs.Definitions.{types_received}
use Rattle.estelle_model.specs.Meant.{Meanings}
use Rattle.estelle_model.specs.Statements.{Statement, Init, Release, Connect, Disconnect, Attach, Detach, Output}
use Rattle.estelle_model.proofs.Alike.{EachAlike, MaybeAlike, each_related}
use Rattle.body_compiler_pieces.specs.Pieces.{Piece, refused, one, ◌⨾◌, loop, repeat, keep}
use Rattle.body_compiler_pieces.specs.ExpressionCode as code
use Rattle.body_compiler_pieces.specs.ExpressionCode.{Operand, Access, Selecting, Scope, by_number}
use Rattle.body_compiler_pieces.specs.StatementCode as compiled
use Rattle.body_compiler_pieces.specs.StatementCode.{with_ordinal, ordinals_of, where_ordinal, labelled, first_of, counting}
use Rattle.body_compiler_laws.proofs.CodeFolds.{StatementResults, statement_layers}
use Rattle.body_compiler_laws.proofs.Extended.{MeansMore, by_meaning, Extends, first_true, second_true, refused_extends, then_extends, fork_extends, and_extends, OperandExtends, AccessExtends, SelectingExtends, accessed_extends, give_all_extends, call_extends, expr_extends, variable_extends, args_extend}
use Rattle.body_compiler_laws.proofs.Extended as expressions

-- ---- pieces

loop_extends : (p q r s : Piece) → Extends p q → Extends r s → Extends (loop p r) (loop q s)
loop_extends p q r s h k fine = ap₂ (λ a b. loop a b) (h (second_true r.fine p.fine fine)) (k (first_true r.fine p.fine fine))

by_number_extends : (o : Option ℕ) (f g : ℕ → Piece) → ((n : ℕ) → Extends (f n) (g n)) → Extends (by_number o f) (by_number o g)
by_number_extends None f g h = refused_extends refused
by_number_extends (Some n) f g h = h n

-- ---- labels

-- the same where there is one
abbrev SameIfOk : {A : Type 0} → Result A Stop → Result A Stop → Type 0
SameIfOk (Ok a) o = Ok a ≡ o
SameIfOk (Err e) o = Unit {0}

same_if_ok : {A : Type 0} (o : Result A Stop) → SameIfOk o o
same_if_ok (Ok a) = refl
same_if_ok (Err e) = tt

abbrev BranchExtends : List ℤ × Piece → List ℤ × Piece → Type 0
BranchExtends x y = IsTrue x.1.fine → x ≡ y

branches_same : (xs ys : List (List ℤ × Piece)) → EachAlike BranchExtends xs ys → IsTrue (first_of 0 xs).fine → xs ≡ ys
branches_same [] [] h fine = refl
branches_same [] (y ∷ ys) h fine = absurd h
branches_same (x ∷ xs) [] h fine = absurd h
branches_same (x ∷ xs) (y ∷ ys) h fine = let both : IsTrue (x.1.fine && (first_of 0 xs).fine) = second_true _ (x.1.fine && (first_of 0 xs).fine) fine in
    ap₂ (λ z zs. z ∷ zs) (h.0 (first_true x.1.fine (first_of 0 xs).fine both)) (branches_same xs ys h.1 (second_true x.1.fine (first_of 0 xs).fine both))

module _ (scope : Scope) (meant : Meanings) (more : (x : Name) → MeansMore (scope.meant x) (meant x)) where
  abbrev wide : Scope
  wide = expressions.wide scope meant more

  abbrev Operands : List Operand → List Operand → Type 0
  Operands = EachAlike (OperandExtends scope meant more)

  abbrev Accesses : Option Access → Option Access → Type 0
  Accesses = MaybeAlike (AccessExtends scope meant more)

  label_same : (c : Const) → SameIfOk (constant_of scope.meant c >>> ordinal_of) (constant_of meant c >>> ordinal_of)
  label_same (const.Number sign n span) = same_if_ok _
  label_same (const.Char n span) = same_if_ok _
  label_same (const.Name sign x span) = by_meaning (λ m n. SameIfOk ((constant_named m >>> by_sign sign) >>> ordinal_of) ((constant_named n >>> by_sign sign) >>> ordinal_of)) (λ m. same_if_ok _) (λ v h. tt) (scope.meant x) (meant x) (more x)

  labels_same : (cs : List Const) (p q : Piece) → Extends p q → IsTrue (labelled scope.meant cs p).fine → (ordinals_of scope.meant cs ≡ ordinals_of meant cs) × (labelled scope.meant cs p ≡ labelled meant cs q)
  labels_same [] p q h fine = (refl, h fine)
  labels_same (c ∷ cs) p q h fine = by (labels_same cs p q h) (constant_of scope.meant c >>> ordinal_of) (constant_of meant c >>> ordinal_of) (label_same c) fine
    where
      Rest : Type 0
      Rest = IsTrue (labelled scope.meant cs p).fine → (ordinals_of scope.meant cs ≡ ordinals_of meant cs) × (labelled scope.meant cs p ≡ labelled meant cs q)

      by : Rest → (o o' : Result ℤ Stop) → SameIfOk o o' → IsTrue (where_ordinal o (labelled scope.meant cs p)).fine
          → (with_ordinal o (ordinals_of scope.meant cs) ≡ with_ordinal o' (ordinals_of meant cs)) × (where_ordinal o (labelled scope.meant cs p) ≡ where_ordinal o' (labelled meant cs q))
      by rest (Err e) o' same fine = absurd (cc)
      by rest (Ok n) o' same fine = subst (λ (z : Result ℤ Stop). (with_ordinal (Ok n) (ordinals_of scope.meant cs) ≡ with_ordinal z (ordinals_of meant cs)) × (labelled scope.meant cs p ≡ where_ordinal z (labelled meant cs q))) same (ap (λ ms. n ∷ ms) (rest fine).0, (rest fine).1)

  branch_extends : (cs : List Const) (p q : Piece) → Extends p q → BranchExtends (ordinals_of scope.meant cs, labelled scope.meant cs p) (ordinals_of meant cs, labelled meant cs q)
  branch_extends cs p q h fine = ap₂ (λ ms z. (ms, z)) (labels_same cs p q h fine).0 (labels_same cs p q h fine).1

  select_extends : (e : Expr) (xs ys : List (List ℤ × Piece)) → EachAlike BranchExtends xs ys → Extends (compiled.select scope e xs) (compiled.select wide e ys)
  select_extends e xs ys h = by_number_extends (scope.number shape) _ _ (λ n fine. ap₂ (λ p zs. keep shape n (p ⨾ one op.Ord) (λ t. first_of t zs))
      ((expr_extends scope meant more e).value (first_true _ true (first_true _ (first_of 0 xs).fine fine))) (branches_same xs ys h (second_true _ (first_of 0 xs).fine fine)))
    where
      shape : Shape
      shape = shape_of (whole hosts.Integer)

  -- ---- assignments

  assign_extends : (o o' : Option Access) (e f : Operand) → Accesses o o' → OperandExtends scope meant more e f → Extends (compiled.assign_to scope o e) (compiled.assign_to wide o' f)
  assign_extends None o' e f h k = λ fine. absurd (cc)
  assign_extends (Some a) None e f h k = absurd h
  assign_extends (Some a) (Some b) e f h k = λ fine. ap₂ (λ (x : Access) (p : Piece). x.place ⨾ p ⨾ compiled.store_into scope x.denoter) (h (first_true a.place.fine _ fine)) (k.value (first_true e.value.fine _ (second_true a.place.fine _ fine)))

  result_extends : (r : Routine) (o : Option Denoter) → Accesses (compiled.result_of scope r o) (compiled.result_of wide r o)
  result_extends r None = tt
  result_extends r (Some t) = λ fine. refl

  assigned_extends : (m n : Meaning) → MeansMore m n → (ss ts : List Selecting) → EachAlike (SelectingExtends scope meant more) ss ts → Accesses (compiled.assigned scope m ss) (compiled.assigned wide n ts)
  assigned_extends m n e ss ts h = by_meaning (λ x y. Accesses (compiled.assigned scope x ss) (compiled.assigned wide y ts)) same (λ v k. tt) m n e
    where
      same : (x : Meaning) → Accesses (compiled.assigned scope x ss) (compiled.assigned wide x ts)
      same (Called r) = result_extends r r.result
      same x = accessed_extends scope meant more x ss ts h

  target_extends : (v : Variable) → Accesses (compiled.target scope v) (compiled.target wide v)
  target_extends v = let w = variable_extends scope meant more v in
      subst (λ (x : Name). Accesses (compiled.target scope v) (compiled.assigned wide (meant x) (code.variable wide v).selectors)) w.name
      (assigned_extends (scope.meant (code.variable scope v).name) (meant (code.variable scope v).name) (more (code.variable scope v).name) (code.variable scope v).selectors (code.variable wide v).selectors w.selectors)

  -- ---- the other statements of Pascal

  value_extends : (e : Expr) → Extends (compiled.value_of_expr scope e) (compiled.value_of_expr wide e)
  value_extends e = (expr_extends scope meant more e).value

  or_nothing_extends : (o o' : Option Piece) → MaybeAlike Extends o o' → Extends (compiled.or_nothing scope o) (compiled.or_nothing wide o')
  or_nothing_extends None None h = λ fine. refl
  or_nothing_extends None (Some q) h = absurd h
  or_nothing_extends (Some p) None h = absurd h
  or_nothing_extends (Some p) (Some q) h = h

  choose_extends : (e : Expr) (p q : Piece) (o o' : Option Piece) → Extends p q → MaybeAlike Extends o o' → Extends (compiled.choose scope e p o) (compiled.choose wide e q o')
  choose_extends e p q o o' h k = then_extends _ _ _ _ (value_extends e) (fork_extends p q _ _ h (or_nothing_extends o o' k))

  control_extends : (m n : Meaning) → MeansMore m n → Accesses (compiled.control scope m) (compiled.control wide n)
  control_extends m n e = by_meaning (λ x y. Accesses (compiled.control scope x) (compiled.control wide y)) same (λ v k. tt) m n e
    where
      same : (x : Meaning) → Accesses (compiled.control scope x) (compiled.control wide x)
      same (OwnVariable k t) = λ fine. refl
      same (Exported k t) = λ fine. refl
      same (Local k t) = λ fine. refl
      same x = tt

  -- what a `for` is compiled of stands for something
  count_parts : (a : Access) (p : Piece) (dir : Direction) (q z : Piece) → IsTrue (compiled.count_over scope (Some a) p dir q z).fine → IsTrue a.place.fine × IsTrue p.fine × IsTrue q.fine × IsTrue z.fine
  count_parts a p dir q z = by (compiled.is_word (host_of a.denoter)) (shape_of (whole (host_of a.denoter)))
    where
      parts : (k d : ℕ) → IsTrue (p.fine && (q.fine && (counting dir k d a.place z 0 0).fine)) → IsTrue a.place.fine × IsTrue p.fine × IsTrue q.fine × IsTrue z.fine
      parts k d fine = let more : IsTrue (q.fine && (counting dir k d a.place z 0 0).fine) = second_true p.fine _ fine in
          let turns : IsTrue (counting dir k d a.place z 0 0).fine = second_true q.fine _ more in
          let turn : IsTrue ((a.place.fine && true) && (z.fine && (compiled.goes_code dir).fine)) = first_true ((a.place.fine && true) && (z.fine && (compiled.goes_code dir).fine)) (a.place.fine && true) (second_true (compiled.begins_code dir).fine _ turns) in
          (first_true a.place.fine true (first_true (a.place.fine && true) _ turn), first_true p.fine _ fine, first_true q.fine _ more, first_true z.fine _ (second_true (a.place.fine && true) _ turn))

      by_kind : (k : ℕ) (o : Option ℕ) (shape : Shape) → IsTrue (by_number o (λ d. keep shape k p (λ t. keep shape k q (λ u. counting dir k d a.place z t u)))).fine → IsTrue a.place.fine × IsTrue p.fine × IsTrue q.fine × IsTrue z.fine
      by_kind k None shape fine = absurd (cc)
      by_kind k (Some d) shape fine = parts k d fine

      by_shape : (o : Option ℕ) (shape : Shape) → IsTrue (by_number o (λ k. by_number (scope.number (shape_of a.denoter)) (λ d. keep shape k p (λ t. keep shape k q (λ u. counting dir k d a.place z t u))))).fine → IsTrue a.place.fine × IsTrue p.fine × IsTrue q.fine × IsTrue z.fine
      by_shape None shape fine = absurd (cc)
      by_shape (Some k) shape fine = by_kind k (scope.number (shape_of a.denoter)) shape fine

      by : (b : Bool) (shape : Shape) → IsTrue (compiled.count_by scope b shape a p dir q z).fine → IsTrue a.place.fine × IsTrue p.fine × IsTrue q.fine × IsTrue z.fine
      by false shape fine = absurd (cc)
      by true shape fine = by_shape (scope.number shape) shape fine

  count_extends : (o o' : Option Access) (dir : Direction) (p p' q q' z z' : Piece) → Accesses o o' → Extends p p' → Extends q q' → Extends z z' → Extends (compiled.count_over scope o p dir q z) (compiled.count_over wide o' p' dir q' z')
  count_extends None o' dir p p' q q' z z' h i j k = λ fine. absurd (cc)
  count_extends (Some a) None dir p p' q q' z z' h i j k = absurd h
  count_extends (Some a) (Some b) dir p p' q q' z z' h i j k = λ fine. let parts = count_parts a p dir q z fine in
      ap₂ (λ (x : Access) (y : Piece). compiled.count_over scope (Some x) y dir q z) (h parts.0) (i parts.1) ∙ ap₂ (λ (x y : Piece). compiled.count_over scope (Some b) p' dir x y) (j parts.2) (k parts.3)

  arguments_extend : (es : Option Args) → Operands (compiled.arguments scope es) (compiled.arguments wide es)
  arguments_extend None = tt
  arguments_extend (Some es) = args_extend scope meant more es

  invoke_extends : (x : Name) (m n : Meaning) → MeansMore m n → (es fs : List Operand) → Operands es fs → Extends (compiled.invoke_of scope x m es) (compiled.invoke_of wide x n fs)
  invoke_extends x m n e es fs h = by_meaning (λ y z. Extends (compiled.invoke_of scope x y es) (compiled.invoke_of wide x z fs)) same (λ v k fine. absurd (cc)) m n e
    where
      plainly : (r : Routine) (o : Option Denoter) → Extends (compiled.where_no_result scope o (code.call scope (scope.routine x) r es)) (compiled.where_no_result wide o (code.call wide (scope.routine x) r fs))
      plainly r None = call_extends scope meant more (scope.routine x) r es fs h
      plainly r (Some t) = λ fine. absurd (cc)

      same : (y : Meaning) → Extends (compiled.invoke_of scope x y es) (compiled.invoke_of wide x y fs)
      same (Called r) = plainly r r.result
      same y = λ fine. absurd (cc)

  -- ---- statements of Estelle

  parts_extend : (o : Option Name) → MaybeAlike MeansMore (compiled.meant_part scope o) (compiled.meant_part wide o)
  parts_extend None = tt
  parts_extend (Some x) = more x

  point_same : (m n : Meaning) → MeansMore m n → (o o' : Option Meaning) → MaybeAlike MeansMore o o' → compiled.point_of scope m o ≡ compiled.point_of wide n o'
  point_same m n e o o' h = by_meaning (λ x y. compiled.point_of scope x o ≡ compiled.point_of wide y o') (λ x. same x o o' h) (λ v k. refl) m n e
    where
      child : (k : ℕ) (a b : Meaning) → MeansMore a b → compiled.point_of scope (Module k) (Some a) ≡ compiled.point_of wide (Module k) (Some b)
      child k a b = by_meaning (λ x y. compiled.point_of scope (Module k) (Some x) ≡ compiled.point_of wide (Module k) (Some y)) (λ x. refl) (λ v h. refl) a b

      same : (x : Meaning) (o o' : Option Meaning) → MaybeAlike MeansMore o o' → compiled.point_of scope x o ≡ compiled.point_of wide x o'
      same (Ip k) None None h = refl
      same (Ip k) (Some a) (Some b) h = refl
      same (Ip k) None (Some b) h = absurd h
      same (Ip k) (Some a) None h = absurd h
      same (Module k) None None h = refl
      same (Module k) (Some a) (Some b) h = child k a b h
      same (Module k) None (Some b) h = absurd h
      same (Module k) (Some a) None h = absurd h
      same x o o' h = refl

  ends_same : (m n : Meaning) → MeansMore m n → (o o' : Option Meaning) → MaybeAlike MeansMore o o' → compiled.ends_of scope m o ≡ compiled.ends_of wide n o'
  ends_same m n e o o' h = by_meaning (λ x y. compiled.ends_of scope x o ≡ compiled.ends_of wide y o') (λ x. same x o o' h) (λ v k. refl) m n e
    where
      same : (x : Meaning) (o o' : Option Meaning) → MaybeAlike MeansMore o o' → compiled.ends_of scope x o ≡ compiled.ends_of wide x o'
      same (Ip k) o o' h = ap (option_map Point) (point_same (Ip k) (Ip k) (inl refl) o o' h)
      same (Module k) None None h = refl
      same (Module k) (Some a) (Some b) h = ap (option_map Point) (point_same (Module k) (Module k) (inl refl) (Some a) (Some b) h)
      same (Module k) None (Some b) h = absurd h
      same (Module k) (Some a) None h = absurd h
      same x o o' h = refl

  attach_same : (m n : Meaning) → MeansMore m n → (a b : Option point.Point) → a ≡ b → compiled.attach scope m a ≡ compiled.attach wide n b
  attach_same m n e a b h = by_meaning (λ x y. compiled.attach scope x a ≡ compiled.attach wide y b) same (λ v k. refl) m n e
    where
      same : (x : Meaning) → compiled.attach scope x a ≡ compiled.attach wide x b
      same (Ip k) = ap (λ o. compiled.attach scope (Ip k) o) h
      same x = refl

  detach_same : (m n : Meaning) → MeansMore m n → compiled.detach scope m ≡ compiled.detach wide n
  detach_same m n e = by_meaning (λ x y. compiled.detach scope x ≡ compiled.detach wide y) (λ x. refl) (λ v k. refl) m n e

  release_same : (m n : Meaning) → MeansMore m n → compiled.release scope m ≡ compiled.release wide n
  release_same m n e = by_meaning (λ x y. compiled.release scope x ≡ compiled.release wide y) (λ x. refl) (λ v k. refl) m n e

  types_same : (m n : Meaning) → MeansMore m n → types_received m ≡ types_received n
  types_same m n e = by_meaning (λ x y. types_received x ≡ types_received y) (λ x. refl) (λ v k. refl) m n e

  output_same : (m n : Meaning) → MeansMore m n → (i : Option ℕ) (ts us : List Denoter) → ts ≡ us → compiled.output scope m i ts ≡ compiled.output wide n i us
  output_same m n e i ts us h = by_meaning (λ x y. compiled.output scope x i ts ≡ compiled.output wide y i us) (λ x. ap (λ vs. compiled.output scope x i vs) h) (λ v k. refl) m n e

  plan_same : (st : Statement) → compiled.plan scope st ≡ compiled.plan wide st
  plan_same (Connect x y) = ap₂ (λ a b. compiled.connect scope a b) (point_same _ _ (more x.name) _ _ (parts_extend x.part)) (point_same _ _ (more y.name) _ _ (parts_extend y.part))
  plan_same (Disconnect x) = ap (λ a. compiled.disconnect scope a) (ends_same _ _ (more x.name) _ _ (parts_extend x.part))
  plan_same (Attach own x part) = attach_same _ _ (more own) _ _ (point_same _ _ (more x) (Some (scope.meant part)) (Some (meant part)) (more part))
  plan_same (Detach own) = detach_same _ _ (more own)
  plan_same (Output ip m) = output_same _ _ (more ip) (scope.interaction ip m) _ _ (types_same _ _ (more m))
  plan_same (Release x) = release_same _ _ (more x)
  plan_same (Init x b) = refl

  given_same : (st : Statement) → compiled.given_types scope st ≡ compiled.given_types wide st
  given_same (Output ip m) = types_same _ _ (more m)
  given_same (Connect x y) = refl
  given_same (Disconnect x) = refl
  given_same (Attach own x part) = refl
  given_same (Detach own) = refl
  given_same (Release x) = refl
  given_same (Init x b) = refl

  init_extends : (m n : Meaning) → MeansMore m n → (k j : Meaning) → MeansMore k j → (es fs : List Operand) → Operands es fs → Extends (compiled.init scope m k es) (compiled.init wide n j fs)
  init_extends m n e k j d es fs h = by_meaning (λ x y. Extends (compiled.init scope x k es) (compiled.init wide y j fs)) same (λ v i fine. absurd (cc)) m n e
    where
      with : (i b : ℕ) (o : Option (List Denoter)) → Extends (compiled.init_with scope i b o es) (compiled.init_with wide i b o fs)
      with i b None = λ fine. absurd (cc)
      with i b (Some types) = and_extends _ _ (one (op.Init i b (length types))) (give_all_extends scope meant more (map ByValue types) es fs h)

      of_body : (i : ℕ) (x : Meaning) → Extends (compiled.init scope (Module i) x es) (compiled.init wide (Module i) x fs)
      of_body i (Body b) = with i b (scope.parameters b)
      of_body i x = λ fine. absurd (cc)

      same : (x : Meaning) → Extends (compiled.init scope x k es) (compiled.init wide x j fs)
      same (Module i) = by_meaning (λ x y. Extends (compiled.init scope (Module i) x es) (compiled.init wide (Module i) y fs)) (of_body i) (λ v q fine. absurd (cc)) k j d
      same x = λ fine. absurd (cc)

  planned : (st : Statement) (es fs : List Operand) → Operands es fs
      → Extends (code.give_all scope (map ByValue (compiled.given_types scope st)) es ⨾ compiled.plan scope st) (code.give_all wide (map ByValue (compiled.given_types wide st)) fs ⨾ compiled.plan wide st)
  planned st es fs h = then_extends _ _ _ _
      (subst (λ (ts : List Denoter). Extends (code.give_all scope (map ByValue (compiled.given_types scope st)) es) (code.give_all wide (map ByValue ts) fs)) (given_same st) (give_all_extends scope meant more (map ByValue (compiled.given_types scope st)) es fs h))
      (λ fine. plan_same st)

  act_extends : (st : Statement) (es fs : List Operand) → Operands es fs → Extends (compiled.act scope st es) (compiled.act wide st fs)
  act_extends (Init x b) es fs h = init_extends _ _ (more x) _ _ (more b) es fs h
  act_extends (Connect x y) es fs h = planned (Connect x y) es fs h
  act_extends (Disconnect x) es fs h = planned (Disconnect x) es fs h
  act_extends (Attach own x part) es fs h = planned (Attach own x part) es fs h
  act_extends (Detach own) es fs h = planned (Detach own) es fs h
  act_extends (Output ip m) es fs h = planned (Output ip m) es fs h
  act_extends (Release x) es fs h = planned (Release x) es fs h

  -- ---- trees

  all_extend : (ps qs : List Piece) → EachAlike Extends ps qs → Extends (compiled.all scope ps) (compiled.all wide qs)
  all_extend [] [] h = λ fine. refl
  all_extend [] (q ∷ qs) h = absurd h
  all_extend (p ∷ ps) [] h = absurd h
  all_extend (p ∷ ps) (q ∷ qs) h = then_extends p q _ _ h.0 (all_extend ps qs h.1)

  abbrev NodeExtends : (k : Kind) → StatementResults k → StatementResults k → Type 0
  NodeExtends kind.stmt = Extends
  NodeExtends kind.branch = BranchExtends
  NodeExtends kind.stmts = Extends

  keeps : (k : Kind) (l : Layer k (Pairs statements StatementResults StatementResults (statement_layers scope) (statement_layers wide) NodeExtends)) → KeepsAt statements StatementResults StatementResults (statement_layers scope) (statement_layers wide) NodeExtends k l
  keeps kind.stmt Stmt-F.Empty = λ fine. refl
  keeps kind.stmt (Stmt-F.Assign v e span) = assign_extends _ _ _ _ (target_extends v) (expr_extends scope meant more e)
  keeps kind.stmt (Stmt-F.Call x es span) = invoke_extends x (scope.meant x) (meant x) (more x) _ _ (arguments_extend es)
  keeps kind.stmt (Stmt-F.Begin body span) = body.holds
  keeps kind.stmt (Stmt-F.If test then_part None span) = choose_extends test then_part.left then_part.right None None then_part.holds tt
  keeps kind.stmt (Stmt-F.If test then_part (Some x) span) = choose_extends test then_part.left then_part.right (Some x.left) (Some x.right) then_part.holds x.holds
  keeps kind.stmt (Stmt-F.While test body span) = loop_extends _ _ _ _ (value_extends test) body.holds
  keeps kind.stmt (Stmt-F.Repeat body test span) = λ fine. ap repeat (then_extends _ _ _ _ body.holds (value_extends test) fine)
  keeps kind.stmt (Stmt-F.Count x first dir last body span) = count_extends _ _ dir _ _ _ _ _ _ (control_extends _ _ (more x)) (value_extends first) (value_extends last) body.holds
  keeps kind.stmt (Stmt-F.Case e cases semicolon span) = select_extends e _ _ (each_related BranchExtends cases)
  keeps kind.stmt (Stmt-F.Init x b es span) = act_extends (Init x b) _ _ (arguments_extend es)
  keeps kind.stmt (Stmt-F.Release x span) = act_extends (Release x) [] [] tt
  keeps kind.stmt (Stmt-F.Connect p q span) = act_extends (Connect p q) [] [] tt
  keeps kind.stmt (Stmt-F.Disconnect p span) = act_extends (Disconnect p) [] [] tt
  keeps kind.stmt (Stmt-F.Attach p x q span) = act_extends (Attach p x q) [] [] tt
  keeps kind.stmt (Stmt-F.Detach p span) = act_extends (Detach p) [] [] tt
  keeps kind.stmt (Stmt-F.Output p n es span) = act_extends (Output p n) _ _ (arguments_extend es)
  keeps kind.branch l = branch_extends l.labels l.body.left l.body.right l.body.holds
  keeps kind.stmts l = all_extend _ _ (each_related Extends l.stmts)

  pub stmts_extend : (x : Stmts) → Extends (compiled.stmts scope x) (compiled.stmts wide x)
  unfolding compiled.stmts
  stmts_extend = folds_related statements StatementResults StatementResults (statement_layers scope) (statement_layers wide) NodeExtends keeps kind.stmts
