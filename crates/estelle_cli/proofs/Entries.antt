-- The front of a run is a run, so one entry at most is the first that does not apply.
use Rattle.std.proofs.Common.{◌≡◌, ℕ, zero, suc, ◌<◌, ◌≤◌, ◌⊎◌, inl, inr, List, [], ◌∷◌, length, take, refl, ap, subst, arith}
use Rattle.std.proofs.lemmas.List.{take-take}
use Rattle.estelle_model.specs.declared.event.Event.{Event}
use Rattle.estelle_model.specs.declared.event.Event.TheVariants.{Start, Select, Fire, Fault}
use Rattle.estelle_model.specs.declared.event.End.{End}
use Rattle.estelle_model.specs.Subject.{Subject}
use Rattle.estelle_model.specs.Situation.{Situation}
use Rattle.estelle_model.specs.Firing.{Firing, Ran, Failed, Undefined, start}
use Rattle.estelle_model.specs.Runs.{IsLastIfFault, Goes, Begins, IsRun, next}
use Rattle.trace_check.specs.Judging.{IsRunTo, Apply, IsFirstWrong}

take_none : (n : ℕ) (es : List Event) → es ≡ [] → take n es ≡ []
take_none zero es none = refl
take_none (suc n) [] none = refl
take_none (suc n) (e ∷ es) none = cc

last_of : (n : ℕ) (e : Event) (es : List Event) → IsLastIfFault e es → IsLastIfFault e (take n es)
last_of n (Start outs drops) es h = tt
last_of n (Select system now takes) es h = tt
last_of n (Fire m k outs drops) es h = tt
last_of n (Fault m k kind) es h = take_none n es h

module _ (s : Subject) (budget : ℕ) where
  goes_front : (n : ℕ) (es : List Event) (g : Situation) → Goes s budget g es → Goes s budget g (take n es)
  goes_front zero es g goes = tt
  goes_front (suc n) [] g goes = tt
  goes_front (suc n) (e ∷ es) g goes = (goes.0, last_of n e es goes.1, goes_front n es (next s budget g e) goes.2)

  begins_front : (n : ℕ) (first : Firing) (e : Event) (es : List Event) → Begins s budget first e es → Begins s budget first e (take n es)
  begins_front n (Ran g outs drops left) (Start outs' drops') es h = (h.0, h.1, goes_front n es g h.2)
  begins_front n (Ran g outs drops left) (Select system now takes) es h = absurd h
  begins_front n (Ran g outs drops left) (Fire m k outs' drops') es h = absurd h
  begins_front n (Ran g outs drops left) (Fault m k kind) es h = absurd h
  begins_front n (Failed kind left) (Start outs drops) es h = absurd h
  begins_front n (Failed kind left) (Select system now takes) es h = absurd h
  begins_front n (Failed kind left) (Fire m k outs drops) es h = absurd h
  begins_front n (Failed kind left) (Fault m k kind') es h = (h.0, h.1, h.2, take_none n es h.3)
  begins_front n Undefined e es h = absurd h

  run_front : (n : ℕ) (events : List Event) → IsRun s budget events → IsRun s budget (take (suc n) events)
  run_front n [] run = absurd run
  run_front n (e ∷ es) run = begins_front n (start s budget) e es run

  -- where so many entries apply, so do fewer
  fewer : (events : List Event) (n m : ℕ) → n ≤ m → Apply s budget events (suc m) → Apply s budget events (suc n)
  fewer events n m less h =
      let front = run_front n (take (suc m) events) h in
      let same : take (suc n) (take (suc m) events) ≡ take (suc n) events = take-take (suc n) (suc m) events (omega (arith, less)) in
      subst (IsRun s budget) same front

  less_fewer : (events : List Event) (n m : ℕ) → n < m → Apply s budget events m → Apply s budget events (suc n)
  less_fewer events n zero less h = absurd (omega arith)
  less_fewer events n (suc m) less h = fewer events n m (omega arith) h

  -- the events and the end of a run have no such entry
  pub run_or_wrong : (events : List Event) (e : End) (entry : ℕ) → IsRunTo s budget events e → IsFirstWrong s budget events e entry → ⊥
  run_or_wrong events e entry run (IsFirstWrong.event n inside before wrong) = wrong (run_front n events run.run)
  run_or_wrong events e entry run (IsFirstWrong.ending all wrong) = wrong run.closes

  which : (n m : ℕ) → (n ≡ m) ⊎ ((n < m) ⊎ (m < n))
  which zero zero = inl refl
  which zero (suc m) = inr (inl (omega arith))
  which (suc n) zero = inr (inr (omega arith))
  which (suc n) (suc m) = elim (which n m) [ inl same ↦ inl (ap (λ k. suc k) same) | inr order ↦ elim order [ inl less ↦ inr (inl (omega arith)) | inr less ↦ inr (inr (omega arith)) ] ]

  both_events : (events : List Event) (n m : ℕ) → Apply s budget events n → (Apply s budget events (suc n) → ⊥) → Apply s budget events m → (Apply s budget events (suc m) → ⊥) → suc n ≡ suc m
  both_events events n m before wrong before' wrong' =
      elim (which n m) [
        | inl same ↦ ap (λ k. suc k) same
        | inr order ↦ elim order [
          | inl less ↦ absurd (wrong (less_fewer events n m less before'))
          | inr less ↦ absurd (wrong' (less_fewer events m n less before))
        ]
      ]

  -- and no others have two
  pub one_wrong : (events : List Event) (e : End) {first second : ℕ} → IsFirstWrong s budget events e first → IsFirstWrong s budget events e second → first ≡ second
  one_wrong events e (IsFirstWrong.event n inside before wrong) (IsFirstWrong.event m inside' before' wrong') = both_events events n m before wrong before' wrong'
  one_wrong events e (IsFirstWrong.event n inside before wrong) (IsFirstWrong.ending all wrong') = absurd (wrong (less_fewer events n (length events) inside all))
  one_wrong events e (IsFirstWrong.ending all wrong) (IsFirstWrong.event m inside before wrong') = absurd (wrong' (less_fewer events m (length events) inside all))
  one_wrong events e (IsFirstWrong.ending all wrong) (IsFirstWrong.ending all' wrong') = refl
