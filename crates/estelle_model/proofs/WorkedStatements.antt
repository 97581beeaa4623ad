-- Examples of what variables, assignments and loops mean, over any state.
use Rattle.std.proofs.Common.{◌≡◌, ℕ, zero, suc, Bool, true, List, [], ◌∷◌, ℤ, pos, Result, Ok, Err, Some, refl, ap, ap₂, ◌∙◌, arith}
use Rattle.std.specs.Prelude.{slice_get}
use Rattle.pascal_values.specs.declared.fault.Fault.TheVariants as fault
use Rattle.pascal_values.specs.declared.value.Value.{Value}
use Rattle.pascal_values.specs.declared.value.Value.TheVariants as pascal
use Rattle.pascal_values.specs.declared.value.Value.TheVariants.{outs-Int, outs-Bool, outs-Unset, outs-Fields, outs-Array}
use Rattle.estelle_tree.specs.declared.tree.expression.Multiplying.TheVariants as multiplying
use Rattle.estelle_tree.specs.declared.tree.expression.Expr.{Expr}
use Rattle.estelle_tree.specs.declared.tree.statement.Direction.TheVariants as direction
use Rattle.estelle_tree.specs.declared.tree.statement.Stmt.{Stmt}
use Rattle.estelle_model.specs.declared.denoter.Host.TheVariants as host
use Rattle.estelle_model.specs.declared.denoter.Denoter.{Denoter}
use Rattle.estelle_model.specs.declared.denoter.Denoter.TheVariants as denoter
use Rattle.estelle_model.specs.declared.denoter.Denoter.TheVariants.{outs-Ordinal, outs-Array as outs-ArrayType}
use Rattle.estelle_model.specs.Types.{whole, item_of}
use Rattle.estelle_model.specs.Operators.{bool_of, divided}
use Rattle.estelle_tree.specs.Paths.{Path}
use Rattle.estelle_model.specs.States.{Offers}
use Rattle.estelle_model.specs.Stops.{Stop, Faults}
use Rattle.estelle_model.specs.Steps.{Running, StepResult, Step, Do, and_then, pure, checked_at, spend}
use Rattle.estelle_model.specs.declared.meaning.Meaning.{Meaning}
use Rattle.estelle_model.specs.declared.meaning.Meaning.TheVariants.{Constant, Local}
use Rattle.estelle_model.specs.Meant.{Meanings}
use Rattle.estelle_model.specs.Names.{or_other}
use Rattle.estelle_model.specs.declared.place.Place.TheVariants.{In}
use Rattle.estelle_model.specs.Places.{load, store, store_ordinal, put, blank_at}
use Rattle.estelle_model.specs.Loops.{count_loop, while_loop, while_turns}
use Rattle.estelle_model.specs.declared.place.Environment.{Environment}
use Rattle.estelle_model.specs.Expressions.{Call, Operand, Access, Selecting, computed, both, assigned, index_step, bool_step}
use Rattle.estelle_model.specs.Statements.{Acts, assign_to, count_over}
use Rattle.estelle_model.proofs.Trees as tree
use Rattle.estelle_model.proofs.Fitting.{shape_ordinal, assignable_ordinal, within_int, blanked_int}
use Rattle.estelle_model.proofs.Forms.{mean, run, value_of, number_is, access_is, index_is, alone_is, product_is, assignment_is, while_is, for_is, empty_is}

-- what the names of an example mean, by their places
abbrev pub meanings : List Meaning → Meanings
meanings ms x = or_other (slice_get ms x.span.start)

abbrev pub integer : Denoter
integer = whole host.Integer

-- array [1..2] of integer
abbrev pub pair : Denoter
pair = denoter.Array (pos 1) (pos 2) integer

pub spend_some : {S : Type 0} (s : Running S) (n : ℕ) → s.left ≡ suc n → spend s ≡ Ok (tt, record s { left = n })
unfolding spend
spend_some s n e = grind (arith)

module _ (S : Type 0) (on : Offers S) (act : Acts S) (call : Call S) (path : Path) (st : S) where
  -- a block runs with these variables, and so many units are left
  abbrev pub running : List Value → ℕ → Running S
  running vs n = record { state = st; frames = pascal.Fields vs ∷ []; left = n }

  abbrev pub here : Environment
  here = record { path = path; frame = 0; references = [] }

  -- what an expression comes to
  abbrev pub value : List Meaning → Expr → List Value → ℕ → StepResult S Value
  value ms e vs n = (mean S on (meanings ms) call here e).value (running vs n)

  -- what a statement does
  abbrev pub does : List Meaning → Stmt → List Value → ℕ → StepResult S (Unit {0})
  does ms p vs n = run S on (meanings ms) act call here p (running vs n)

  -- ---- unset variables

  -- a variable that has no value yet
  pub unset : (n : ℕ) → value (Local 0 integer ∷ []) (tree.alone (tree.named 0)) (pascal.Unset ∷ []) n ≡ Err (Faults fault.Unset, n)
  unfolding load
  unset n = ap (λ (o : Operand S). o.value (running (pascal.Unset ∷ []) n)) (alone_is S on (meanings (Local 0 integer ∷ [])) call here (tree.named 0) ∙ access_is S on (meanings (Local 0 integer ∷ [])) call here 0 []) ∙ simp (outs-Fields, outs-Unset)

  -- x := 5
  number_value : (ms : List Meaning) (n : ℤ) → value_of S on (meanings ms) act call here (tree.alone (tree.number n)) ≡ pure (pascal.Int n)
  number_value ms n = ap (λ (o : Operand S). o.value) (alone_is S on (meanings ms) call here (tree.number n) ∙ number_is S on (meanings ms) call here n)

  pub assigned_five : (v : Value) (n : ℕ) → does (Local 0 integer ∷ []) (tree.assignment (tree.access 0 []) (tree.alone (tree.number (pos 5)))) (v ∷ []) n ≡ Ok (tt, running (pascal.Int (pos 5) ∷ []) n)
  unfolding store put
  assigned_five v n = ap (λ p. p (running (v ∷ []) n)) (assignment_is S on (meanings (Local 0 integer ∷ [])) act call here 0 [] (tree.alone (tree.number (pos 5))))
      ∙ ap (λ q. assign_to S on (meanings (Local 0 integer ∷ [])) act call here (Some (record { denoter = integer; place = pure (In 0 0 []) })) q (running (v ∷ []) n)) (number_value (Local 0 integer ∷ []) (pos 5))
      ∙ simp (shape_ordinal, assignable_ordinal, within_int, outs-Int, outs-Fields)

  -- x := 4 for a variable of 1..3
  pub out_of_range : (v : Value) (n : ℕ) → does (Local 0 (denoter.Ordinal host.Integer (pos 1) (pos 3)) ∷ []) (tree.assignment (tree.access 0 []) (tree.alone (tree.number (pos 4)))) (v ∷ []) n ≡ Err (Faults fault.Range, n)
  unfolding store put
  out_of_range v n = ap (λ p. p (running (v ∷ []) n)) (assignment_is S on (meanings (Local 0 (denoter.Ordinal host.Integer (pos 1) (pos 3)) ∷ [])) act call here 0 [] (tree.alone (tree.number (pos 4))))
      ∙ ap (λ q. assign_to S on (meanings (Local 0 (denoter.Ordinal host.Integer (pos 1) (pos 3)) ∷ [])) act call here (Some (record { denoter = denoter.Ordinal host.Integer (pos 1) (pos 3); place = pure (In 0 0 []) })) q (running (v ∷ []) n)) (number_value (Local 0 (denoter.Ordinal host.Integer (pos 1) (pos 3)) ∷ []) (pos 4))
      ∙ simp (shape_ordinal, assignable_ordinal, within_int, outs-Int)

  -- ---- the left side is evaluated before the right side

  abbrev pub one_div_zero : Expr
  one_div_zero = tree.product (tree.number (pos 1)) multiplying.Div (tree.number (pos 0))

  -- an array's item, by a number
  abbrev item : ℤ → Access S
  item k = record { denoter = item_of pair; place = index_step S on (meanings (Local 0 pair ∷ [])) call here (record { denoter = pair; place = pure (In 0 0 []) }) (computed host.Integer (pure (pascal.Int k))) }

  item_is : (k : ℤ) (e : Expr) → run S on (meanings (Local 0 pair ∷ [])) act call here (tree.assignment (tree.access 0 (tree.index (tree.alone (tree.number k) ∷ []) ∷ [])) e) ≡ assign_to S on (meanings (Local 0 pair ∷ [])) act call here (Some (item k)) (value_of S on (meanings (Local 0 pair ∷ [])) act call here e)
  item_is k e = assignment_is S on (meanings (Local 0 pair ∷ [])) act call here 0 (tree.index (tree.alone (tree.number k) ∷ []) ∷ []) e
      ∙ ap (λ (x : Selecting S). assign_to S on (meanings (Local 0 pair ∷ [])) act call here (assigned S on (meanings (Local 0 pair ∷ [])) call here (Local 0 pair) (x ∷ [])) (value_of S on (meanings (Local 0 pair ∷ [])) act call here e)) (index_is S on (meanings (Local 0 pair ∷ [])) call here (tree.alone (tree.number k) ∷ []))
      ∙ ap (λ (o : Operand S). assign_to S on (meanings (Local 0 pair ∷ [])) act call here (Some (record { denoter = item_of pair; place = index_step S on (meanings (Local 0 pair ∷ [])) call here (record { denoter = pair; place = pure (In 0 0 []) }) o })) (value_of S on (meanings (Local 0 pair ∷ [])) act call here e))
      (alone_is S on (meanings (Local 0 pair ∷ [])) call here (tree.number k) ∙ number_is S on (meanings (Local 0 pair ∷ [])) call here k)

  quotient_value : (ms : List Meaning) → value_of S on (meanings ms) act call here one_div_zero ≡ both divided (pure (pascal.Int (pos 1))) (pure (pascal.Int (pos 0)))
  quotient_value ms = ap (λ (o : Operand S). o.value) (product_is S on (meanings ms) call here (tree.number (pos 1)) multiplying.Div (tree.number (pos 0)))
      ∙ ap₂ (λ (a b : Operand S). both divided a.value b.value) (number_is S on (meanings ms) call here (pos 1)) (number_is S on (meanings ms) call here (pos 0))

  -- a[5] := 1 div 0
  pub index_first : (v : Value) (n : ℕ) → does (Local 0 pair ∷ []) (tree.assignment (tree.access 0 (tree.index (tree.alone (tree.number (pos 5)) ∷ []) ∷ [])) one_div_zero) (v ∷ []) n ≡ Err (Faults fault.Index, n)
  index_first v n = ap (λ p. p (running (v ∷ []) n)) (item_is (pos 5) one_div_zero) ∙ simp (outs-Int, outs-ArrayType)

  -- a[1] := 1 div 0
  pub right_side_then : (v : Value) (n : ℕ) → does (Local 0 pair ∷ []) (tree.assignment (tree.access 0 (tree.index (tree.alone (tree.number (pos 1)) ∷ []) ∷ [])) one_div_zero) (v ∷ []) n ≡ Err (Faults fault.DivideByZero, n)
  unfolding divided
  right_side_then v n = ap (λ p. p (running (v ∷ []) n)) (item_is (pos 1) one_div_zero)
      ∙ ap (λ q. assign_to S on (meanings (Local 0 pair ∷ [])) act call here (Some (item (pos 1))) q (running (v ∷ []) n)) (quotient_value (Local 0 pair ∷ []))
      ∙ simp (outs-Int, outs-ArrayType)

  -- ---- while

  abbrev pub truth : Meaning
  truth = Constant (pascal.Bool true) host.Boolean

  truth_value : value_of S on (meanings (truth ∷ [])) act call here (tree.alone (tree.named 0)) ≡ pure (pascal.Bool true)
  truth_value = ap (λ (o : Operand S). o.value) (alone_is S on (meanings (truth ∷ [])) call here (tree.named 0) ∙ access_is S on (meanings (truth ∷ [])) call here 0 [])

  truth_test : bool_step {S = S} (pure (pascal.Bool true)) ≡ pure true
  truth_test =
      let is_true : bool_of (pascal.Bool true) ≡ Ok true = simp (outs-Bool) in
      let test : Result Bool Stop → Step S Bool = λ r s. checked_at r s in
      ap test is_true

  forever : (n : ℕ) (s : Running S) → s.left ≡ n → while_turns n (pure true) (pure tt) s ≡ Err (Faults fault.StepLimit, 0)
  forever zero s e = ap (λ k. Err (Faults fault.StepLimit, k)) e
  forever (suc n) s e = ap (λ o. and_then (and_then o (λ _. pure tt)) (λ _. while_turns n (pure true) (pure tt))) (spend_some s n e) ∙ forever n (record s { left = n }) refl

  -- while true do: it takes all units, and then there is none
  pub while_true : (vs : List Value) (n : ℕ) → does (truth ∷ []) (tree.while (tree.alone (tree.named 0)) tree.empty) vs n ≡ Err (Faults fault.StepLimit, 0)
  unfolding while_loop
  while_true vs n = ap (λ p. p (running vs n)) (while_is S on (meanings (truth ∷ [])) act call here (tree.alone (tree.named 0)) tree.empty)
      ∙ ap₂ (λ t b. while_turns n t b (running vs n)) (ap (λ q. bool_step q) truth_value ∙ truth_test) (empty_is S on (meanings (truth ∷ [])) act call here)
      ∙ forever n (running vs n) refl

  -- ---- for

  -- for x := a to b do, with a body that does nothing
  abbrev pub count_up : ℤ → ℤ → Stmt
  count_up a b = tree.for 0 (tree.alone (tree.number a)) direction.To (tree.alone (tree.number b)) tree.empty

  abbrev counter : Access S
  counter = record { denoter = integer; place = pure (In 0 0 []) }

  counting : (a b : ℤ) → run S on (meanings (Local 0 integer ∷ [])) act call here (count_up a b) ≡ count_over S on (meanings (Local 0 integer ∷ [])) act call here (Some counter) (pure (pascal.Int a)) direction.To (pure (pascal.Int b)) (pure tt)
  counting a b = for_is S on (meanings (Local 0 integer ∷ [])) act call here 0 (tree.alone (tree.number a)) direction.To (tree.alone (tree.number b)) tree.empty
      ∙ ap₂ (λ p q. count_over S on (meanings (Local 0 integer ∷ [])) act call here (Some counter) p direction.To q (run S on (meanings (Local 0 integer ∷ [])) act call here tree.empty)) (number_value (Local 0 integer ∷ []) a) (number_value (Local 0 integer ∷ []) b)
      ∙ ap (λ p. count_over S on (meanings (Local 0 integer ∷ [])) act call here (Some counter) (pure (pascal.Int a)) direction.To (pure (pascal.Int b)) p) (empty_is S on (meanings (Local 0 integer ∷ [])) act call here)

  -- five turns take five units; then the variable is unset
  pub five_turns : (v : Value) → does (Local 0 integer ∷ []) (count_up (pos 1) (pos 5)) (v ∷ []) 5 ≡ Ok (tt, running (pascal.Unset ∷ []) 0)
  unfolding count_loop store_ordinal store put blank_at spend
  five_turns v = ap (λ p. p (running (v ∷ []) 5)) (counting (pos 1) (pos 5)) ∙ simp (outs-Int, outs-Fields, outs-Ordinal, shape_ordinal, assignable_ordinal, within_int, blanked_int)

  -- a sixth turn has no unit
  pub sixth_turn : (v : Value) → does (Local 0 integer ∷ []) (count_up (pos 1) (pos 6)) (v ∷ []) 5 ≡ Err (Faults fault.StepLimit, 0)
  unfolding count_loop store_ordinal store put spend
  sixth_turn v = ap (λ p. p (running (v ∷ []) 5)) (counting (pos 1) (pos 6)) ∙ simp (outs-Int, outs-Ordinal, shape_ordinal, assignable_ordinal, within_int)

  -- without a turn it leaves its variable unset, and takes no unit
  pub no_turn : (m : ℤ) (n : ℕ) → does (Local 0 integer ∷ []) (count_up (pos 2) (pos 1)) (pascal.Int m ∷ []) n ≡ Ok (tt, running (pascal.Unset ∷ []) n)
  unfolding count_loop put blank_at
  no_turn m n = ap (λ p. p (running (pascal.Int m ∷ []) n)) (counting (pos 2) (pos 1)) ∙ simp (outs-Int, outs-Fields, outs-Ordinal, shape_ordinal, assignable_ordinal, within_int, blanked_int)
