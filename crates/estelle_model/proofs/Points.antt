-- What the trees of the examples do in a state.
use Rattle.std.proofs.Common.{◌≡◌, ℕ, List, [], map, ℤ, Some, None, Ok, ap, ◌∙◌}
use Rattle.pascal_values.specs.declared.value.Value.TheVariants as pascal
use Rattle.estelle_tree.specs.declared.tree.expression.Adding.{Adding}
use Rattle.estelle_tree.specs.declared.tree.expression.Relation.{Relation}
use Rattle.estelle_tree.specs.declared.tree.expression.Factor.{Factor}
use Rattle.estelle_tree.specs.declared.tree.expression.Elem.{Elem}
use Rattle.estelle_tree.specs.declared.tree.expression.Expr.{Expr}
use Rattle.estelle_tree.specs.declared.tree.statement.Case.{Case}
use Rattle.estelle_tree.specs.declared.tree.statement.Stmt.{Stmt}
use Rattle.estelle_model.specs.Operators.{related}
use Rattle.estelle_model.specs.States.{Offers}
use Rattle.estelle_model.specs.Steps.{Running, Do, ◌>>=◌, all}
use Rattle.estelle_model.specs.Meant.{Meanings}
use Rattle.estelle_model.specs.declared.place.Environment.{Environment}
use Rattle.estelle_model.specs.Expressions.{Call, Operand, Access, Selecting, valued, added, designated, assigned, indexed, selector, elem, set_step, member_step, both, selector_step}
use Rattle.estelle_model.specs.Statements.{Acts, assign_to, invoke_of, chosen, branch, stmts}
use Rattle.estelle_model.proofs.Trees as tree
use Rattle.estelle_model.proofs.Forms.{mean, mean_factor, run, value_of, set_is, member_is, range_is, relation_is, sum_is, case_is, number_is, index_is, call_is, access_is, alone_is, assignment_is, call_statement_is, plain_call_is, sequence_is, empty_is}

module _ (S : Type 0) (on : Offers S) (meant : Meanings) (call : Call S) (here : Environment) (s : Running S) where
  pub number_at : (n : ℤ) → (mean S on meant call here (tree.alone (tree.number n))).value s ≡ Ok (pascal.Int n, s)
  number_at n = ap (λ (o : Operand S). o.value s) (alone_is S on meant call here (tree.number n) ∙ number_is S on meant call here n)

  pub value_at : (x : ℕ) → (mean S on meant call here (tree.alone (tree.named x))).value s ≡ (valued S on meant call here (meant (tree.name x)) []).value s
  value_at x = ap (λ (o : Operand S). o.value s) (alone_is S on meant call here (tree.named x) ∙ access_is S on meant call here x [])

  pub place_at : (x : ℕ) → (mean S on meant call here (tree.alone (tree.named x))).place ≡ (valued S on meant call here (meant (tree.name x)) []).place
  place_at x = ap (λ (o : Operand S). o.place) (alone_is S on meant call here (tree.named x) ∙ access_is S on meant call here x [])

  pub function_at : (f : ℕ) (es : List Expr) → (mean S on meant call here (tree.alone (tree.call_with f es))).value s ≡ (designated S on meant call here (meant (tree.name f)) (map (mean S on meant call here) es)).value s
  function_at f es = ap (λ (o : Operand S). o.value s) (alone_is S on meant call here (tree.call_with f es) ∙ call_is S on meant call here f es)

  pub set_at : (es : List Elem) → (mean S on meant call here (tree.alone (tree.set_of es))).value s ≡ set_step [] (map (elem S on meant call here) es) s
  set_at es = ap (λ (o : Operand S). o.value s) (alone_is S on meant call here (tree.set_of es) ∙ set_is S on meant call here es)

  pub member_at : (a : Expr) → elem S on meant call here (tree.member a None) s ≡ member_step (mean S on meant call here a) None s
  member_at a = ap (λ p. p s) (member_is S on meant call here a)

  pub range_at : (a b : Expr) → elem S on meant call here (tree.member a (Some b)) s ≡ member_step (mean S on meant call here a) (Some (mean S on meant call here b)) s
  range_at a b = ap (λ p. p s) (range_is S on meant call here a b)

  pub relation_at : (f : Factor) (op : Relation) (g : Factor) → (mean S on meant call here (tree.relation f op g)).value s ≡ both (related op) (mean_factor S on meant call here f).value (mean_factor S on meant call here g).value s
  relation_at f op g = ap (λ (o : Operand S). o.value s) (relation_is S on meant call here f op g)

  pub number_factor_at : (n : ℤ) → (mean_factor S on meant call here (tree.number n)).value s ≡ Ok (pascal.Int n, s)
  number_factor_at n = ap (λ (o : Operand S). o.value s) (number_is S on meant call here n)

  pub named_factor_at : (x : ℕ) → (mean_factor S on meant call here (tree.named x)).value s ≡ (valued S on meant call here (meant (tree.name x)) []).value s
  named_factor_at x = ap (λ (o : Operand S). o.value s) (access_is S on meant call here x [])

  pub sum_at : (f : Factor) (op : Adding) (g : Factor) → (mean S on meant call here (tree.sum f op g)).value s ≡ added op (mean_factor S on meant call here f).value (mean_factor S on meant call here g).value s
  sum_at f op g = ap (λ (o : Operand S). o.value s) (sum_is S on meant call here f op g)

  pub set_factor_at : (es : List Elem) → (mean_factor S on meant call here (tree.set_of es)).value s ≡ set_step [] (map (elem S on meant call here) es) s
  set_factor_at es = ap (λ (o : Operand S). o.value s) (set_is S on meant call here es)

module _ (S : Type 0) (on : Offers S) (meant : Meanings) (call : Call S) (here : Environment) (a : Access S) where
  pub index_at : (es : List Expr) → (selector S on meant call here (tree.index es)).over a ≡ indexed S on meant call here (map (mean S on meant call here) es) a
  index_at es = ap (λ (x : Selecting S). x.over a) (index_is S on meant call here es)

module _ (S : Type 0) (on : Offers S) (meant : Meanings) (act : Acts S) (call : Call S) (here : Environment) (s : Running S) where
  pub sequence_at : (ps : List Stmt) → stmts S on meant act call here (tree.sequence ps) s ≡ all (map (run S on meant act call here) ps) s
  sequence_at ps = ap (λ p. p s) (sequence_is S on meant act call here ps)

  pub empty_at : run S on meant act call here tree.empty s ≡ Ok (tt, s)
  empty_at = ap (λ p. p s) (empty_is S on meant act call here)

  pub assignment_at : (x : ℕ) (e : Expr) → run S on meant act call here (tree.assignment (tree.access x []) e) s ≡ assign_to S on meant act call here (assigned S on meant call here (meant (tree.name x)) []) (value_of S on meant act call here e) s
  assignment_at x e = ap (λ p. p s) (assignment_is S on meant act call here x [] e)

  pub call_at : (p : ℕ) (es : List Expr) → run S on meant act call here (tree.procedure_call p es) s ≡ invoke_of S on meant act call here (meant (tree.name p)) (map (mean S on meant call here) es) s
  call_at p es = ap (λ q. q s) (call_statement_is S on meant act call here p es)

  pub plain_call_at : (p : ℕ) → run S on meant act call here (tree.plain_call p) s ≡ invoke_of S on meant act call here (meant (tree.name p)) [] s
  plain_call_at p = ap (λ q. q s) (plain_call_is S on meant act call here p)

  pub case_at : (e : Expr) (cases : List Case) → run S on meant act call here (tree.case_of e cases) s ≡ (selector_step (value_of S on meant act call here e) >>= λ n. chosen meant n (map (branch S on meant act call here) cases)) s
  case_at e cases = ap (λ q. q s) (case_is S on meant act call here e cases)
