-- No step gives units back, which is a property that expressions and statements keep.
use Rattle.std.proofs.Common.{ℕ, ◌-◌, ◌≤◌, Bool, true, false, List, ℤ, Result, Ok, Err, Option, Some, None, arith, cond}
use Rattle.std.specs.Prelude.{nat_lt, ℤ}
use Rattle.std.specs.FinMap as fin
use Rattle.pascal_values.specs.declared.fault.Fault.TheVariants.{StepLimit}
use Rattle.pascal_values.specs.declared.value.Value.{Value}
use Rattle.estelle_model.specs.declared.denoter.Denoter.{Denoter}
use Rattle.estelle_model.specs.Core.{Instance}
use Rattle.estelle_model.specs.Effects.{Store}
use Rattle.estelle_model.specs.Belonging.{may_store}
use Rattle.estelle_model.specs.States.{Offers}
use Rattle.estelle_model.specs.Stops.{Stop, Faults, Broken}
use Rattle.estelle_model.specs.Steps.{Running, StepResult, Step, Do, and_then, ◌>>=◌, ◌>>◌, pure, checked, spend, stop}
use Rattle.estelle_model.specs.declared.meaning.Routine.{Routine}
use Rattle.estelle_model.specs.declared.place.Place.{Place}
use Rattle.estelle_model.specs.Places.{put_in_instance, store_ordinal}
use Rattle.estelle_model.specs.declared.place.ActualParameters.{ActualParameters}
use Rattle.estelle_model.specs.Expressions.{Call}
use Rattle.estelle_model.proofs.LoopLaws.{AtMost, NeverRaises}
use Rattle.estelle_model.proofs.Kept.{IsClosed, store_ordinal_kept}
pub use Rattle.estelle_model.proofs.Kept.{Each, IfThere}

module _ (S : Type 0) where
  at_most_less : (A : Type 0) (k n : ℕ) (o : StepResult S A) → AtMost k o → k ≤ n → AtMost n o
  at_most_less A k n (Ok r) h l = omega (arith, h, l)
  at_most_less A k n (Err e) h l = tt

  pub and_then_never : (A B : Type 0) (n : ℕ) (o : StepResult S A) (f : A → Step S B) → AtMost n o → ((a : A) → NeverRaises (f a)) → AtMost n (and_then o f)
  and_then_never A B n (Ok r) f h k = at_most_less B r.1.left n (f r.0 r.1) (k r.0 r.1) h
  and_then_never A B n (Err e) f h k = tt

  pub then_never : (A B : Type 0) (p : Step S A) (f : A → Step S B) → NeverRaises p → ((a : A) → NeverRaises (f a)) → NeverRaises (p >>= f)
  then_never A B p f h k s = and_then_never A B s.left (p s) f (h s) k

  pub pure_never : (A : Type 0) (a : A) → NeverRaises {S = S} (pure a)
  pure_never A a s = omega arith

  pub stop_never : (A : Type 0) (e : Stop) → NeverRaises {S = S} {A = A} (stop e)
  stop_never A e s = tt

  pub checked_never : (A : Type 0) (x : Result A Stop) → NeverRaises {S = S} (checked x)
  checked_never A (Ok a) s = omega arith
  checked_never A (Err e) s = tt

  pub if_never : (A : Type 0) (b : Bool) (p q : Step S A) → NeverRaises p → NeverRaises q → NeverRaises (cond b p q)
  if_never A true p q h k = h
  if_never A false p q h k = k

  pub seq_never : (A : Type 0) (p : Do S) (q : Step S A) → NeverRaises p → NeverRaises q → NeverRaises (p >> q)
  seq_never A p q h k = then_never (Unit {0}) A p (λ _. q) h (λ _. k)

  pub spend_never : NeverRaises {S = S} spend
  unfolding spend
  spend_never s = by (nat_lt 0 s.left)
    where
      by : (b : Bool) → AtMost s.left (cond b (Ok (tt {0}, record s { left = s.left - 1 })) (Err (Faults StepLimit, s.left)))
      by true = omega arith
      by false = tt

  abbrev pub CallNever : Call S → Type 0
  CallNever call = (r : Routine) (g : ActualParameters) → NeverRaises (call r g)

  pub of_value_never : (A : Type 0) (f : Value → Result A Stop) (p : Step S Value) → NeverRaises p → NeverRaises (p >>= λ v. checked (f v))
  of_value_never A f p h = then_never Value A p (λ v. checked (f v)) h (λ v. checked_never A (f v))

  -- no more units are left than before
  abbrev pub NoMoreUnits : (A : Type 0) → Running S → StepResult S A → Type 0
  NoMoreUnits A s o = AtMost s.left o

module _ (S : Type 0) (on : Offers S) where
  stored_never : (p : List ℕ) (x : ℕ) (way : List ℕ) (v : Value) → NeverRaises {S = S} {A = Unit {0}} (λ s. put_in_instance S on (fin.get (on.core s.state).instances p) p x way v s)
  stored_never p x way v s = by (fin.get (on.core s.state).instances p)
    where
      kept : (i : Instance) (b : Bool) → AtMost s.left (cond b (Ok (tt {0}, record s { state = on.keeps p (Store x way v) s.state })) (Err (Broken, s.left)))
      kept i true = omega arith
      kept i false = tt

      by : (o : Option Instance) → AtMost s.left (put_in_instance S on o p x way v s)
      by None = tt
      by (Some i) = kept i (may_store ((on.core s.state).types i.body) x way v)

  pub units_closed : IsClosed S on (NoMoreUnits S)
  units_closed = record { then = λ A B s o f h k. and_then_never S A B s.left o f h k; pure = pure_never S; stop = stop_never S; spend = spend_never S; framed = λ A f s. omega arith; stored = stored_never }

  pub store_ordinal_never : (d : Denoter) (a : Place) (n : ℤ) → NeverRaises (store_ordinal S on d a n)
  store_ordinal_never = store_ordinal_kept S on (NoMoreUnits S) units_closed
