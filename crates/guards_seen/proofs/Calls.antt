-- Quiet functions do alike, and so do expressions in clauses that name no procedure.
use Rattle.std.proofs.Common.{◌≡◌, ℕ, zero, suc, ◌-◌, true, List, [], ◌∷◌, ◌++◌, length, take, refl, ap}
use Rattle.std.specs.Prelude.{slice_index_or}
use Rattle.pascal_values.specs.declared.fault.Fault.TheVariants.{CallDepth}
use Rattle.pascal_values.specs.declared.value.Value.{Value}
use Rattle.pascal_values.specs.declared.value.Value.TheVariants as pascal
use Rattle.pascal_values.specs.Values.{parts_of}
use Rattle.estelle_tree.specs.declared.tree.name.Name.{Name}
use Rattle.estelle_tree.specs.declared.tree.expression.Expr.{Expr}
use Rattle.estelle_tree.specs.Paths.{Path}
use Rattle.estelle_model.specs.States.{Offers}
use Rattle.estelle_model.specs.Stops.{Faults}
use Rattle.estelle_model.specs.Steps.{◌>>◌, pure, fail, spend}
use Rattle.estelle_model.specs.declared.meaning.Meaning.{Meaning}
use Rattle.estelle_model.specs.declared.meaning.Meaning.TheVariants.{Called}
use Rattle.estelle_model.specs.declared.meaning.Routine.{Routine}
use Rattle.estelle_model.specs.Meant.{Meanings, result_number}
use Rattle.estelle_model.specs.declared.place.Environment.{Environment}
use Rattle.estelle_model.specs.declared.place.ActualParameters.{ActualParameters}
use Rattle.estelle_model.specs.Statements.{Acts, stmts}
use Rattle.estelle_model.specs.Calls.{Enters, call_by, frame_of, last_or, enter, leave, within, nested, max_depth}
use Rattle.estelle_model.specs.Blocks.{from_block, clause_value}
use Rattle.estelle_model.proofs.Alike.{Same, DoAlike, ValueAlike, then_same, pure_alike, stop_alike, spend_alike}
use Rattle.estelle_model.proofs.AlikeStatements.{seq_alike}
use Rattle.guards_seen.specs.Quiet.{is_function, is_no_procedure, names_no_procedure, are_quiet}
use Rattle.guards_seen.proofs.Places.{ShowAlike}
use Rattle.guards_seen.proofs.Operands.{AllWithin, CallAlike}
use Rattle.guards_seen.proofs.Expressions.{MeaningTold, AllTold, expr_alike}
use Rattle.guards_seen.proofs.Statements.{stmts_alike}

-- what a quiet function has
abbrev pub BodyIsQuiet : Meanings → Routine → Type 0
BodyIsQuiet known r = are_quiet known r.body ≡ true

-- what names mean, where each function is quiet
pub all_told : (known : Meanings) → ((x : Name) (r : Routine) → known x ≡ Called r → is_function r ≡ true → BodyIsQuiet known r) → AllTold (BodyIsQuiet known) known
all_told known h x = by (known x) refl
  where
    by : (m : Meaning) → known x ≡ m → is_no_procedure m ≡ true → MeaningTold (BodyIsQuiet known) m
    by (Called r) e n = h x r e n
    by _ e n = tt

module _ (S T : Type 0) (R : S → T → Type 0) where
  enter_alike : (r : Routine) (vs : List Value) → DoAlike S T R (enter r vs) (enter r vs)
  enter_alike r vs s t a = (refl, record { state = a.state; frames = ap (λ fs. fs ++ frame_of r vs ∷ []) a.frames; left = a.left })

  leave_alike : (r : Routine) → ValueAlike S T R (leave r) (leave r)
  unfolding leave
  leave_alike r s t a = (ap (λ fs. slice_index_or (parts_of (last_or pascal.Unset fs)) (result_number r) pascal.Unset) a.frames, record { state = a.state; frames = ap (λ fs. take (length fs - 1) fs) a.frames; left = a.left })

module _ (S T : Type 0) (on : Offers S) (on' : Offers T) (own seen : Path → Type 0) (R : S → T → Type 0) (show : ShowAlike S T on on' own seen R) (meant : Meanings) (told : AllTold (BodyIsQuiet meant) meant) (act : Enters S → Acts S) (act' : Enters T → Acts T) where
  -- what enters a quiet function of an own instance does alike
  abbrev EntersAlike : Enters S → Enters T → Type 0
  EntersAlike enters enters' = (p : Path) → own p → CallAlike S T seen R (BodyIsQuiet meant) (call_by enters p) (call_by enters' p)

  within_alike : (enters : Enters S) (enters' : Enters T) → EntersAlike enters enters' → (depth : ℕ) (p : Path) → own p → (r : Routine) → BodyIsQuiet meant r → (g : ActualParameters) → AllWithin seen g.references → ValueAlike S T R (within S on meant act enters depth p r g) (within T on' meant act' enters' depth p r g)
  within_alike enters enters' h depth p owned r quiet g w =
      let here : Environment = record { path = p; frame = depth; references = g.references } in
      then_same S T R (Same {A = Value}) (enter r g.values >> stmts S on meant (act enters) (call_by enters p) here r.body) (enter r g.values >> stmts T on' meant (act' enters') (call_by enters' p) here r.body) (λ _. leave r) (λ _. leave r)
      (seq_alike S T R (enter r g.values) _ (enter r g.values) _ (enter_alike S T R r g.values) (stmts_alike S T on on' own seen R show meant (act enters) (act' enters') (BodyIsQuiet meant) told (call_by enters p) (call_by enters' p) (h p owned) here (owned, w) r.body quiet))
      (λ _. leave_alike S T R r)

  nested_alike : (n : ℕ) → EntersAlike (nested S on meant act n) (nested T on' meant act' n)
  nested_alike zero p owned r quiet g w = then_same S T R (Same {A = Value}) spend spend (λ _. fail CallDepth) (λ _. fail CallDepth) (spend_alike S T R) (λ _. stop_alike S T R (Same {A = Value}) (Faults CallDepth))
  nested_alike (suc n) p owned r quiet g w = then_same S T R (Same {A = Value}) (spend >> pure tt) (spend >> pure tt) (λ _. within S on meant act (nested S on meant act n) (max_depth - n) p r g) (λ _. within T on' meant act' (nested T on' meant act' n) (max_depth - n) p r g)
      (seq_alike S T R spend (pure tt) spend (pure tt) (spend_alike S T R) (pure_alike S T R (Same {A = Unit {0}}) tt tt refl))
      (λ _. within_alike (nested S on meant act n) (nested T on' meant act' n) (nested_alike n) (max_depth - n) p owned r quiet g w)

  -- an expression in a clause of an own instance does alike, where it names no procedure
  pub clause_alike : (p : Path) → own p → (e : Expr) → names_no_procedure meant e ≡ true → ValueAlike S T R (clause_value S on meant act p e) (clause_value T on' meant act' p e)
  unfolding clause_value
  clause_alike p owned e n =
      (expr_alike S T on on' own seen R show meant (BodyIsQuiet meant) told (call_by (from_block S on meant act) p) (call_by (from_block T on' meant act') p) (nested_alike max_depth p owned) (record { path = p; frame = 0; references = [] }) (owned, tt) e n).value
