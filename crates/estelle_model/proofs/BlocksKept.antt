-- A property of steps that every statement of Estelle has every call and every block has.
use Rattle.std.proofs.Common.{ℕ, zero, suc, ◌-◌, List, [], ◌∷◌, ◌++◌, length, take}
use Rattle.std.specs.Prelude.{slice_index_or}
use Rattle.pascal_values.specs.declared.fault.Fault.TheVariants as fault
use Rattle.pascal_values.specs.declared.value.Value.{Value}
use Rattle.pascal_values.specs.declared.value.Value.TheVariants as value
use Rattle.pascal_values.specs.Values.{parts_of}
use Rattle.estelle_tree.specs.Paths.{Path}
use Rattle.estelle_model.specs.States.{Offers}
use Rattle.estelle_model.specs.Stops.{Faults}
use Rattle.estelle_model.specs.Steps.{Running, StepResult, ◌>>◌, pure, fail, spend}
use Rattle.estelle_model.specs.declared.meaning.Routine.{Routine}
use Rattle.estelle_model.specs.Meant.{Meanings, result_number}
use Rattle.estelle_model.specs.declared.place.Environment.{Environment}
use Rattle.estelle_model.specs.declared.place.ActualParameters.{ActualParameters}
use Rattle.estelle_model.specs.Statements.{Acts, stmts}
use Rattle.estelle_model.specs.Calls.{Enters, call_by, frame_of, last_or, enter, leave, within, nested, max_depth}
use Rattle.estelle_model.specs.Blocks.{given_values, from_block, block_step}
use Rattle.estelle_model.proofs.Kept.{Has, IsClosed, CallKept, then_kept, pure_kept, stop_kept, spend_kept, seq_kept}
use Rattle.estelle_model.proofs.KeptStatements.{ActKept, stmts_kept}
use Rattle.estelle_model.proofs.ActsKept.{EntersKept}

module _ (S : Type 0) (on : Offers S) (Q : (A : Type 0) → Running S → StepResult S A → Type 0) (closed : IsClosed S on Q) (meant : Meanings) (act : Enters S → Acts S) where
  -- a routine in a frame of its own, where its statements of Estelle and what it calls have it
  pub within_kept : (enters : Enters S) (depth : ℕ) (p : Path) (r : Routine) (g : ActualParameters) → ActKept S on Q closed (act enters) (record { path = p; frame = depth; references = g.references }) → CallKept S on Q closed (call_by enters p) → Has Q (within S on meant act enters depth p r g)
  unfolding leave
  within_kept enters depth p r g acts calls =
      let here : Environment = record { path = p; frame = depth; references = g.references } in
      seq_kept S on Q closed Value (enter r g.values >> stmts S on meant (act enters) (call_by enters p) here r.body) (leave r)
      (seq_kept S on Q closed (Unit {0}) (enter r g.values) (stmts S on meant (act enters) (call_by enters p) here r.body)
      (closed.framed (Unit {0}) (λ fs. (tt, fs ++ frame_of r g.values ∷ [])))
      (stmts_kept S on Q closed meant (act enters) here acts (call_by enters p) calls r.body))
      (closed.framed Value (λ fs. (slice_index_or (parts_of (last_or value.Unset fs)) (result_number r) value.Unset, take (length fs - 1) fs)))

  module _ (acts : (enters : Enters S) → EntersKept S Q enters → (here : Environment) → ActKept S on Q closed (act enters) here) where
    pub call_by_kept : (enters : Enters S) → EntersKept S Q enters → (p : Path) → CallKept S on Q closed (call_by enters p)
    call_by_kept enters into p r g x = into (pure tt) p r g x (seq_kept S on Q closed (Unit {0}) spend (pure tt) (spend_kept S on Q closed) (pure_kept S on Q closed (Unit {0}) tt) x)

    entered_kept : (enters : Enters S) → EntersKept S Q enters → (depth : ℕ) (p : Path) (r : Routine) (g : ActualParameters) → Has Q (within S on meant act enters depth p r g)
    entered_kept enters into depth p r g = within_kept enters depth p r g (acts enters into (record { path = p; frame = depth; references = g.references })) (call_by_kept enters into p)

    pub nested_kept : (n : ℕ) → EntersKept S Q (nested S on meant act n)
    nested_kept zero before p r g x b = seq_kept S on Q closed Value spend (fail fault.CallDepth) (spend_kept S on Q closed) (stop_kept S on Q closed Value (Faults fault.CallDepth)) x
    nested_kept (suc n) before p r g x b = closed.then (Unit {0}) Value x ((spend >> before) x) (λ u. within S on meant act (nested S on meant act n) (max_depth - n) p r g) b (λ u. entered_kept (nested S on meant act n) (nested_kept n) (max_depth - n) p r g)

    pub block_kept : (p : Path) (r : Routine) (vs : List Value) → Has Q (block_step S on meant act p r vs)
    unfolding block_step
    block_kept p r vs = then_kept S on Q closed Value (Unit {0}) (within S on meant act (from_block S on meant act) 0 p r (given_values vs)) (λ v. pure tt) (entered_kept (from_block S on meant act) (nested_kept max_depth) 0 p r (given_values vs)) (λ v. pure_kept S on Q closed (Unit {0}) tt)
