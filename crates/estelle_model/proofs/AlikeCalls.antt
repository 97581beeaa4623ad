-- Calls, blocks and expressions in clauses mean alike on two states that show the same.
use Rattle.std.proofs.Common.{◌≡◌, ℕ, zero, suc, ◌-◌, true, List, [], ◌∷◌, ◌++◌, length, take, refl, ap}
use Rattle.std.specs.Prelude.{slice_index_or}
use Rattle.pascal_values.specs.declared.fault.Fault.TheVariants.{CallDepth}
use Rattle.pascal_values.specs.declared.value.Value.{Value}
use Rattle.pascal_values.specs.declared.value.Value.TheVariants as pascal
use Rattle.pascal_values.specs.Values.{parts_of}
use Rattle.estelle_tree.specs.declared.tree.expression.Expr.{Expr}
use Rattle.estelle_tree.specs.Paths.{Path, is_inside}
use Rattle.estelle_model.specs.States.{Offers}
use Rattle.estelle_model.specs.Stops.{Faults}
use Rattle.estelle_model.specs.Steps.{Running, Step, Do, ◌>>◌, pure, fail, spend}
use Rattle.estelle_model.specs.declared.meaning.Routine.{Routine}
use Rattle.estelle_model.specs.Meant.{Meanings, result_number}
use Rattle.estelle_model.specs.declared.place.Environment.{Environment}
use Rattle.estelle_model.specs.declared.place.ActualParameters.{ActualParameters}
use Rattle.estelle_model.specs.Expressions.{Call, expr}
use Rattle.estelle_model.specs.Statements.{Acts, stmts}
use Rattle.estelle_model.specs.Calls.{Enters, call_by, frame_of, last_or, enter, leave, within, nested, max_depth}
use Rattle.estelle_model.specs.Blocks.{given_values, enter_values, leave_values, with_values, from_block, block_step, clause_value}
use Rattle.estelle_model.proofs.Alike.{Same, RunningAlike, OutcomeAlike, StepAlike, DoAlike, ValueAlike, and_then_alike, then_same, pure_alike, stop_alike, spend_alike}
use Rattle.estelle_model.proofs.AlikePlaces.{ShowAlike}
use Rattle.estelle_model.proofs.AlikeOperands.{AllWithin, CallAlike}
use Rattle.estelle_model.proofs.AlikeExpressions.{expr_alike}
use Rattle.estelle_model.proofs.AlikeStatements.{ActAlike, seq_alike, stmts_alike}

module _ (S T : Type 0) (on : Offers S) (on' : Offers T) (m : Path) (R : S → T → Type 0) where
  -- what enters a routine of an instance at or below m does alike, where what is done before it begins does
  abbrev pub EntersAlike : Enters S → Enters T → Type 0
  EntersAlike enters enters' = (before : Do S) (before' : Do T) (p : Path) → is_inside m p ≡ true → (r : Routine) (g : ActualParameters) → AllWithin m g.references → (s : Running S) (t : Running T) → RunningAlike S T R s t
      → OutcomeAlike S T R (Same {A = Unit {0}}) ((spend >> before) s) ((spend >> before') t) → OutcomeAlike S T R (Same {A = Value}) (enters before p r g s) (enters' before' p r g t)

  pub entered_alike : (enters : Enters S) (enters' : Enters T) → EntersAlike enters enters' → (before : Do S) (before' : Do T) → DoAlike S T R before before' → (p : Path) → is_inside m p ≡ true → (r : Routine) (g : ActualParameters) → AllWithin m g.references → ValueAlike S T R (enters before p r g) (enters' before' p r g)
  entered_alike enters enters' h before before' b p inside r g w s t a = h before before' p inside r g w s t a (seq_alike S T R spend before spend before' (spend_alike S T R) b s t a)

  -- the statements of Estelle do alike, where what they enter does
  abbrev pub ActsAlike : (Enters S → Acts S) → (Enters T → Acts T) → Type 0
  ActsAlike act act' = (enters : Enters S) (enters' : Enters T) → EntersAlike enters enters' → ActAlike S T on on' m R (act enters) (act' enters')

  enter_alike : (r : Routine) (vs : List Value) → DoAlike S T R (enter r vs) (enter r vs)
  enter_alike r vs s t a = (refl, record { state = a.state; frames = ap (λ fs. fs ++ frame_of r vs ∷ []) a.frames; left = a.left })

  leave_alike : (r : Routine) → ValueAlike S T R (leave r) (leave r)
  unfolding leave
  leave_alike r s t a = (ap (λ fs. slice_index_or (parts_of (last_or pascal.Unset fs)) (result_number r) pascal.Unset) a.frames, record { state = a.state; frames = ap (λ fs. take (length fs - 1) fs) a.frames; left = a.left })

  enter_values_alike : (vs : List Value) → DoAlike S T R (enter_values vs) (enter_values vs)
  enter_values_alike vs s t a = (refl, record { state = a.state; frames = refl; left = a.left })

  pub with_values_alike : {A : Type 0} (vs : List Value) (p : Step S A) (q : Step T A) → StepAlike S T R (Same {A = A}) p q → StepAlike S T R (Same {A = A}) (with_values vs p) (with_values vs q)
  with_values_alike {A} vs p q h = then_same S T R (Same {A = A}) (enter_values vs >> p) (enter_values vs >> q) leave_values leave_values
      (then_same S T R (Same {A = A}) (enter_values vs) (enter_values vs) (λ _. p) (λ _. q) (enter_values_alike vs) (λ _. h))
      (λ a s t r. (refl, record { state = r.state; frames = refl; left = r.left }))

module _ (S T : Type 0) (on : Offers S) (on' : Offers T) (m : Path) (R : S → T → Type 0) (show : ShowAlike S T on on' m R) (meant : Meanings) (act : Enters S → Acts S) (act' : Enters T → Acts T) (acts : ActsAlike S T on on' m R act act') where
  call_by_alike : (enters : Enters S) (enters' : Enters T) → EntersAlike S T on on' m R enters enters' → (p : Path) → is_inside m p ≡ true → CallAlike S T on on' m R (call_by enters p) (call_by enters' p)
  call_by_alike enters enters' h p inside r g w = entered_alike S T on on' m R enters enters' h (pure tt) (pure tt) (pure_alike S T R (Same {A = Unit {0}}) tt tt refl) p inside r g w

  within_alike : (enters : Enters S) (enters' : Enters T) → EntersAlike S T on on' m R enters enters' → (depth : ℕ) (p : Path) → is_inside m p ≡ true → (r : Routine) (g : ActualParameters) → AllWithin m g.references → ValueAlike S T R (within S on meant act enters depth p r g) (within T on' meant act' enters' depth p r g)
  within_alike enters enters' h depth p inside r g w =
      let here : Environment = record { path = p; frame = depth; references = g.references } in
      then_same S T R (Same {A = Value}) (enter r g.values >> stmts S on meant (act enters) (call_by enters p) here r.body) (enter r g.values >> stmts T on' meant (act' enters') (call_by enters' p) here r.body) (λ _. leave r) (λ _. leave r)
      (seq_alike S T R (enter r g.values) _ (enter r g.values) _ (enter_alike S T on on' m R r g.values) (stmts_alike S T on on' m R show meant (act enters) (act' enters') (acts enters enters' h) (call_by enters p) (call_by enters' p) (call_by_alike enters enters' h p inside) here (inside, w) r.body))
      (λ _. leave_alike S T on on' m R r)

  pub nested_alike : (n : ℕ) → EntersAlike S T on on' m R (nested S on meant act n) (nested T on' meant act' n)
  nested_alike zero before before' p inside r g w s t a b = then_same S T R (Same {A = Value}) spend spend (λ _. fail CallDepth) (λ _. fail CallDepth) (spend_alike S T R) (λ _. stop_alike S T R (Same {A = Value}) (Faults CallDepth)) s t a
  nested_alike (suc n) before before' p inside r g w s t a b = and_then_alike S T R (Same {A = Unit {0}}) (Same {A = Value}) ((spend >> before) s) ((spend >> before') t) (λ _. within S on meant act (nested S on meant act n) (max_depth - n) p r g) (λ _. within T on' meant act' (nested T on' meant act' n) (max_depth - n) p r g)
      b (λ x y e. within_alike (nested S on meant act n) (nested T on' meant act' n) (nested_alike n) (max_depth - n) p inside r g w)

  -- every block of an instance at or below m does alike
  pub block_alike : (p : Path) → is_inside m p ≡ true → (r : Routine) (vs : List Value) → DoAlike S T R (block_step S on meant act p r vs) (block_step T on' meant act' p r vs)
  unfolding block_step
  block_alike p inside r vs = then_same S T R (Same {A = Unit {0}}) (within S on meant act (from_block S on meant act) 0 p r (given_values vs)) (within T on' meant act' (from_block T on' meant act') 0 p r (given_values vs)) (λ _. pure tt) (λ _. pure tt)
      (within_alike (from_block S on meant act) (from_block T on' meant act') (nested_alike max_depth) 0 p inside r (given_values vs) tt) (λ _. pure_alike S T R (Same {A = Unit {0}}) tt tt refl)

  -- and every expression in its clauses
  pub clause_alike : (p : Path) → is_inside m p ≡ true → (e : Expr) → ValueAlike S T R (clause_value S on meant act p e) (clause_value T on' meant act' p e)
  unfolding clause_value
  clause_alike p inside e =
      (expr_alike S T on on' m R show meant (call_by (from_block S on meant act) p) (call_by (from_block T on' meant act') p) (call_by_alike (from_block S on meant act) (from_block T on' meant act') (nested_alike max_depth) p inside) (record { path = p; frame = 0; references = [] }) (inside, tt) e).value
