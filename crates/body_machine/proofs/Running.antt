-- What a run comes to, instruction by instruction.
use Rattle.std.proofs.Common.{◌≡◌, refl, sym, ap, subst, ◌∙◌, ℕ, zero, suc, ◌+◌, ◌<◌, ◌≤◌, Bool, true, false, List, [], ◌∷◌, length, Result, Ok, Err, arith}
use Rattle.std.specs.Result.{IsErrAnd}
use Rattle.std.proofs.lemmas.Result.{err_from_is_err_and}
use Rattle.body_code.specs.declared.unit.CodeUnit.{CodeUnit}
use Rattle.estelle_model.specs.Subject.{Subject}
use Rattle.body_values.specs.declared.stop.Stop.{Stop}
use Rattle.body_values.specs.declared.stop.Stop.TheVariants as stop
use Rattle.body_numbers.specs.declared.numbers.Numbers.{Numbers}
use Rattle.body_machine.specs.Machine.{Activation, Machine, Next, Goes, Ends, Stops}
use Rattle.body_machine.specs.Steps.{next, run, Comes}
use Rattle.body_machine.specs.Seen.{IsStep}
use Rattle.body_machine.specs.Ahead.{HasStepped}
use Rattle.body_machine.specs.Runs.{HasRun}
use Rattle.body_machine.proofs.Holding.{still_ended, still_stopped, comes_then}
use Rattle.body_machine.proofs.Measure.{instructions_of, measure, AreWithin, AllWithin, Nearer, next_nearer}

-- ---- one instruction

pub goes_step : (x : Next) (b : Bool) (new : Machine) → b ≡ true → IsStep x (Ok b) new → x ≡ Goes new
goes_step x true new e h = h
goes_step x false new e h = absurd (cc)

pub ends_step : (x : Next) (b : Bool) (new : Machine) → b ≡ false → IsStep x (Ok b) new → x ≡ Ends new.active.stack new.running
ends_step x true new e h = absurd (cc)
ends_step x false new e h = h

-- ---- a bound for all units

abbrev pub lengths : List Activation → ℕ
lengths [] = 0
lengths (a ∷ more) = length a.unit.instrs + lengths more

-- no unit of the code, and none that runs or waits, is longer
abbrev pub bound_of : List CodeUnit → Machine → ℕ
bound_of code m = instructions_of code + (length m.active.unit.instrs + lengths m.waiting)

are_within : (bound : ℕ) (waiting : List Activation) → lengths waiting ≤ bound → AreWithin bound waiting
are_within bound [] less = tt
are_within bound (a ∷ more) less = (omega (arith, less), are_within bound more (omega (arith, less)))

module _ (s : Subject) (n : Numbers) (code : List CodeUnit) where
  -- one more instruction
  run_more : (k : ℕ) (x : Next) (m : Machine) → run s n code k x ≡ Goes m → run s n code (suc k) x ≡ next s n code m
  run_more zero x m e = ap (run s n code 1) e
  run_more (suc k) (Goes y) m e = run_more k (next s n code y) m e
  run_more (suc k) (Ends items running) m e = absurd (cc)
  run_more (suc k) (Stops by left) m e = absurd (cc)

  module _ (first : Machine) where
    -- what a run that began with the first machine has come to
    pub record IsReached (m : Machine) : Type 0 where
      pub within : AllWithin (bound_of code first) m
      pub comes : Comes s n code (Goes first) (Goes m)

    pub reached_first : IsReached first
    reached_first = record { within = (omega arith, are_within (bound_of code first) first.waiting (omega arith)); comes = (0, refl) }

    comes_next : (m : Machine) (x : Next) → IsReached m → next s n code m ≡ x → Comes s n code (Goes first) x
    comes_next m x reached is = (suc reached.comes.0, run_more reached.comes.0 (Goes first) m reached.comes.1 ∙ is)

    nearer : (m new : Machine) → IsReached m → next s n code m ≡ Goes new → Nearer (bound_of code first) m (Goes new)
    nearer m new reached is = subst (Nearer (bound_of code first) m) is (next_nearer (bound_of code first) s n code (omega arith) m reached.within)

    reached_next : (m new : Machine) → IsReached m → next s n code m ≡ Goes new → IsReached new
    reached_next m new reached is = record { within = (nearer m new reached is).1; comes = comes_next m (Goes new) reached is }

    measure_falls : (m new : Machine) → IsReached m → next s n code m ≡ Goes new → measure (bound_of code first) new < measure (bound_of code first) m
    measure_falls m new reached is = (nearer m new reached is).0

    -- ---- an instruction, and some behind it

    abbrev farther : Machine → Machine → Type 0
    farther m o = IsReached o × (measure (bound_of code first) o ≤ measure (bound_of code first) m)

    along : (k : ℕ) (m o : Machine) → IsReached m → run s n code k (Goes m) ≡ Goes o → farther m o
    along zero m o reached e = let same : m ≡ o = cc in subst (farther m) same (reached, omega arith)
    along (suc k) m o reached e = by (next s n code m) refl e (λ y. along k y o)
      where
        by : (x : Next) → next s n code m ≡ x → run s n code k x ≡ Goes o → ((y : Machine) → IsReached y → run s n code k (Goes y) ≡ Goes o → farther y o) → farther m o
        by (Goes y) is e on =
            let h = on y (reached_next m y reached is) e in
            let less = measure_falls m y reached is in
            let more = h.1 in
            (h.0, omega (arith, less, more))
        by (Ends items r) is e on = let h = still_ended s n code k items r in absurd (cc)
        by (Stops f left) is e on = let h = still_stopped s n code k f left in absurd (cc)

    abbrev nearer_now : Machine → Machine → Type 0
    nearer_now m new = IsReached new × (measure (bound_of code first) new < measure (bound_of code first) m)

    pub stepped : (b : Bool) (m new : Machine) → b ≡ true → IsReached m → HasStepped s n code m (Ok b) new → nearer_now m new
    stepped b m new e reached h = by (next s n code m) refl (goes_step (run s n code h.0 (next s n code m)) b new e h.1)
      where
        by : (x : Next) → next s n code m ≡ x → run s n code h.0 x ≡ Goes new → nearer_now m new
        by (Goes y) is e =
            let more = along h.0 y new (reached_next m y reached is) e in
            let less = measure_falls m y reached is in
            let no_more = more.1 in
            (more.0, omega (arith, less, no_more))
        by (Ends items r) is e = let k = still_ended s n code h.0 items r in absurd (cc)
        by (Stops f left) is e = let k = still_stopped s n code h.0 f left in absurd (cc)

    -- what is come to from the instruction at the address on
    comes_on : (m : Machine) (k : ℕ) (x : Next) → IsReached m → run s n code k (next s n code m) ≡ x → Comes s n code (Goes first) x
    comes_on m k x reached is = comes_then s n code (suc reached.comes.0) (Goes first) (next s n code m) x (run_more reached.comes.0 (Goes first) m reached.comes.1) (k, is)

    pub ended : (b : Bool) (m new : Machine) → b ≡ false → IsReached m → HasStepped s n code m (Ok b) new → HasRun s n code first (Ok tt) new
    ended b m new e reached h = comes_on m h.0 (Ends new.active.stack new.running) reached (ends_step (run s n code h.0 (next s n code m)) b new e h.1)

    stops_as : (e : Stop) (m new : Machine) → IsReached m → HasStepped s n code m (Err e) new → HasRun s n code first (Err e) new
    stops_as (stop.Fault f) m new reached h = comes_on m h.0 (Stops _ new.running.left) reached h.1
    stops_as stop.Broken m new reached h = comes_on m h.0 (Stops _ new.running.left) reached h.1
    stops_as stop.Memory m new reached h = tt

    pub stopped : (r : Result (Unit {0}) Stop) (e : Stop) (m new : Machine) → IsErrAnd r (λ y. y ≡ e) → IsReached m → HasStepped s n code m (Err e) new → HasRun s n code first r new
    stopped r e m new is reached h =
        let y = err_from_is_err_and r is in
        subst (λ (o : Result (Unit {0}) Stop). HasRun s n code first o new) (sym (y.1 ∙ ap (λ (x : Stop). Err x) y.2)) (stops_as e m new reached h)
