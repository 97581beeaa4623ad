-- Examples of what expressions mean, over any state.
use Rattle.std.proofs.Common.{◌≡◌, ℕ, true, false, [], ℤ, pos, negsuc, Ok, Err, ap, ap₂, ◌∙◌}
use Rattle.pascal_values.specs.declared.fault.Fault.TheVariants as fault
use Rattle.pascal_values.specs.declared.value.Value.{Value}
use Rattle.pascal_values.specs.declared.value.Value.TheVariants as pascal
use Rattle.pascal_values.specs.declared.value.Value.TheVariants.{outs-Int, outs-Bool, outs-Set, outs-Enum, outs-Unset, outs-Fields, outs-Array}
use Rattle.estelle_tree.specs.declared.tree.type_expr.Sign.{Sign}
use Rattle.estelle_tree.specs.declared.tree.type_expr.Sign.TheVariants as sign
use Rattle.estelle_tree.specs.declared.tree.expression.Multiplying.{Multiplying}
use Rattle.estelle_tree.specs.declared.tree.expression.Adding.TheVariants as adding
use Rattle.estelle_tree.specs.declared.tree.expression.Multiplying.TheVariants as multiplying
use Rattle.estelle_tree.specs.declared.tree.expression.Expr.{Expr}
use Rattle.estelle_tree.specs.declared.tree.expression.Factor.{Factor}
use Rattle.estelle_model.specs.declared.denoter.Host.TheVariants as host
use Rattle.estelle_model.specs.Operators.{plus, divided, modulo, signed}
use Rattle.estelle_model.specs.States.{Offers}
use Rattle.estelle_model.specs.Stops.{Faults}
use Rattle.estelle_model.specs.Steps.{Running, StepResult, Step, ◌>>=◌, pure, checked}
use Rattle.estelle_model.specs.declared.meaning.Meaning.{Meaning}
use Rattle.estelle_model.specs.declared.meaning.Meaning.TheVariants.{Constant}
use Rattle.estelle_model.specs.Meant.{Meanings}
use Rattle.estelle_model.specs.declared.place.Environment.{Environment}
use Rattle.estelle_model.specs.Expressions.{Call, Operand, computed, multiplied, both, conjunction, disjunction, valued}
use Rattle.estelle_model.proofs.Trees as tree
use Rattle.estelle_model.proofs.Forms.{mean, mean_factor, number_is, parenthesised_is, access_is, product_is, sum_is, minus_is, minus_alone_is}

module _ (S : Type 0) (on : Offers S) (meant : Meanings) (call : Call S) (here : Environment) (s : Running S) where
  -- what an expression comes to
  abbrev pub value : Expr → StepResult S Value
  value e = (mean S on meant call here e).value s

  abbrev int : ℤ → Step S Value
  int n = pure (pascal.Int n)

  number : (n : ℤ) → mean_factor S on meant call here (tree.number n) ≡ computed host.Integer (int n)
  number n = number_is S on meant call here n

  minus_numbers : (m : ℤ) (op : Multiplying) (n : ℤ) → value (tree.signed_product sign.Minus (tree.number m) op (tree.number n)) ≡ (multiplied op (int m) (int n) >>= λ v. checked (signed sign.Minus v)) s
  minus_numbers m op n = ap (λ (o : Operand S). o.value s) (minus_is S on meant call here (tree.number m) op (tree.number n))
      ∙ ap₂ (λ (a b : Operand S). (multiplied op a.value b.value >>= λ v. checked (signed sign.Minus v)) s) (number m) (number n)

  numbers : (m : ℤ) (op : Multiplying) (n : ℤ) → value (tree.product (tree.number m) op (tree.number n)) ≡ multiplied op (int m) (int n) s
  numbers m op n = ap (λ (o : Operand S). o.value s) (product_is S on meant call here (tree.number m) op (tree.number n))
      ∙ ap₂ (λ (a b : Operand S). multiplied op a.value b.value s) (number m) (number n)

  -- a sign in parentheses
  minus : (m : ℤ) → mean_factor S on meant call here (tree.parenthesised (tree.signed_alone sign.Minus (tree.number m))) ≡ computed host.Integer (int m >>= λ v. checked (signed sign.Minus v))
  minus m = parenthesised_is S on meant call here (tree.signed_alone sign.Minus (tree.number m))
      ∙ ap (λ (o : Operand S). computed o.host o.value) (minus_alone_is S on meant call here (tree.number m))
      ∙ ap (λ (o : Operand S). computed host.Integer (o.value >>= λ v. checked (signed sign.Minus v))) (number m)

  minus_and_number : (m : ℤ) (op : Multiplying) (n : ℤ) → value (tree.product (tree.parenthesised (tree.signed_alone sign.Minus (tree.number m))) op (tree.number n)) ≡ multiplied op (int m >>= λ v. checked (signed sign.Minus v)) (int n) s
  minus_and_number m op n = ap (λ (o : Operand S). o.value s) (product_is S on meant call here (tree.parenthesised (tree.signed_alone sign.Minus (tree.number m))) op (tree.number n))
      ∙ ap₂ (λ (a b : Operand S). multiplied op a.value b.value s) (minus m) (number n)

  -- ---- a sign applies to the whole first term

  -- -7 div 2 is -(7 div 2)
  pub minus_seven_div_two : value (tree.signed_product sign.Minus (tree.number (pos 7)) multiplying.Div (tree.number (pos 2))) ≡ Ok (pascal.Int (negsuc 2), s)
  unfolding divided signed
  minus_seven_div_two = minus_numbers (pos 7) multiplying.Div (pos 2) ∙ simp (outs-Int)

  -- -7 mod 2 is -(7 mod 2)
  pub minus_seven_mod_two : value (tree.signed_product sign.Minus (tree.number (pos 7)) multiplying.Mod (tree.number (pos 2))) ≡ Ok (pascal.Int (negsuc 0), s)
  unfolding modulo signed
  minus_seven_mod_two = minus_numbers (pos 7) multiplying.Mod (pos 2) ∙ simp (outs-Int)

  -- (-7) div 2 is truncated toward zero
  pub of_minus_seven_div_two : value (tree.product (tree.parenthesised (tree.signed_alone sign.Minus (tree.number (pos 7)))) multiplying.Div (tree.number (pos 2))) ≡ Ok (pascal.Int (negsuc 2), s)
  unfolding divided signed
  of_minus_seven_div_two = minus_and_number (pos 7) multiplying.Div (pos 2) ∙ simp (outs-Int)

  -- (-7) mod 2 lies in 0..1
  pub of_minus_seven_mod_two : value (tree.product (tree.parenthesised (tree.signed_alone sign.Minus (tree.number (pos 7)))) multiplying.Mod (tree.number (pos 2))) ≡ Ok (pascal.Int (pos 1), s)
  unfolding modulo signed
  of_minus_seven_mod_two = minus_and_number (pos 7) multiplying.Mod (pos 2) ∙ simp (outs-Int)

  -- ---- faults of arithmetic

  pub one_div_zero : value (tree.product (tree.number (pos 1)) multiplying.Div (tree.number (pos 0))) ≡ Err (Faults fault.DivideByZero, s.left)
  unfolding divided
  one_div_zero = numbers (pos 1) multiplying.Div (pos 0) ∙ simp (outs-Int)

  pub one_mod_zero : value (tree.product (tree.number (pos 1)) multiplying.Mod (tree.number (pos 0))) ≡ Err (Faults fault.ModNotPositive, s.left)
  unfolding modulo
  one_mod_zero = numbers (pos 1) multiplying.Mod (pos 0) ∙ simp (outs-Int)

  -- the greatest integer and one more
  pub maxint_and_one : value (tree.sum (tree.number (pos 9223372036854775807)) adding.Plus (tree.number (pos 1))) ≡ Err (Faults fault.Overflow, s.left)
  unfolding plus
  maxint_and_one = ap (λ (o : Operand S). o.value s) (sum_is S on meant call here (tree.number (pos 9223372036854775807)) adding.Plus (tree.number (pos 1)))
      ∙ ap₂ (λ (a b : Operand S). both plus a.value b.value s) (number (pos 9223372036854775807)) (number (pos 1))
      ∙ simp (outs-Int)

  -- ---- the right operand that is not evaluated, whatever it is

  -- false and ..
  pub false_and : (x : ℕ) (q : Factor) → meant (tree.name x) ≡ Constant (pascal.Bool false) host.Boolean → value (tree.product (tree.named x) multiplying.And q) ≡ Ok (pascal.Bool false, s)
  unfolding conjunction
  false_and x q is = ap (λ (o : Operand S). o.value s) (product_is S on meant call here (tree.named x) multiplying.And q)
      ∙ ap (λ (a : Operand S). conjunction a.value (mean_factor S on meant call here q).value s) (access_is S on meant call here x [] ∙ ap (λ (m : Meaning). valued S on meant call here m []) is)
      ∙ simp (outs-Bool)

  -- true or ..
  pub true_or : (x : ℕ) (q : Factor) → meant (tree.name x) ≡ Constant (pascal.Bool true) host.Boolean → value (tree.sum (tree.named x) adding.Or q) ≡ Ok (pascal.Bool true, s)
  unfolding disjunction
  true_or x q is = ap (λ (o : Operand S). o.value s) (sum_is S on meant call here (tree.named x) adding.Or q)
      ∙ ap (λ (a : Operand S). disjunction a.value (mean_factor S on meant call here q).value s) (access_is S on meant call here x [] ∙ ap (λ (m : Meaning). valued S on meant call here m []) is)
      ∙ simp (outs-Bool)
