-- A run makes no more outputs than its start and its firings have units.
use Rattle.std.proofs.Common.{◌≡◌, ℕ, suc, Bool, true, false, cond, Option, ◌+◌, ◌*◌, ◌≤◌, ◌<◌, List, [], ◌∷◌, length, refl, sym, ap, ◌∙◌, subst, arith}
use Rattle.std.proofs.Math.Nat.{mul-suc, mul-le-mul_left}
use Rattle.std.proofs.lemmas.List.Sums.{sum_by-cons}
use Rattle.pascal_values.specs.declared.fault.Fault as fault
use Rattle.estelle_tree.specs.Paths.{Path}
use Rattle.estelle_tree.specs.Timers.{pair}
use Rattle.estelle_model.specs.declared.effect.Out.{Out}
use Rattle.estelle_model.specs.declared.event.Event.{Event}
use Rattle.estelle_model.specs.declared.event.Event.TheVariants.{Start, Select, Fire, Fault}
use Rattle.estelle_model.specs.declared.event.End.{End}
use Rattle.estelle_model.specs.Subject.{Subject}
use Rattle.estelle_model.specs.Situation.{Situation}
use Rattle.estelle_model.specs.Firing.{Firing, Ran, Failed, Undefined, fire, start, bare}
use Rattle.estelle_model.specs.Runs.{HasRun, Applies, Goes, Begins, IsRun, next, fired, after_events, started, situation}
use Rattle.estelle_model.specs.Ends.{is_fire, fires}
use Rattle.estelle_model.specs.Choosers.{Draw}
use Rattle.estelle_model.specs.Schedule.{Kept, Reaches, IsScheduled}
use Rattle.estelle_model_legality.proofs.Lists.{count_append}
use Rattle.situation_units.proofs.Weighing.{firings_are_within, starts_are_within}
use Rattle.estelle_model_fates.specs.Fates.{outputs}
use Rattle.estelle_model_fates.proofs.Fates.{outputs_are_counted}
use Rattle.run_counts.specs.Counts.{OutputsAreWithin}

module _ (s : Subject) (budget : ℕ) where
  fired_within : (g : Situation) (m : Path) (n : ℕ) (outs : List Out) (drops : List ℕ) (f : Firing) → fire s budget g m n ≡ f → HasRun outs drops f → (fired (pair m n) g f).made ≤ g.made + budget
  fired_within g m n outs drops (Ran after outs' drops' left) is ran = (firings_are_within s budget g m n after outs' drops' left is).made
  fired_within g m n outs drops (Failed kind left) is ran = absurd ran
  fired_within g m n outs drops Undefined is ran = absurd ran

  -- one firing more has a budget more
  once_more : (k : ℕ) → budget * (k + 1) ≡ budget * k + budget
  once_more k = let e : k + 1 ≡ suc k = omega arith in ap (λ n. budget * n) e ∙ mul-suc budget k

  goes_within : (es : List Event) (g : Situation) → Goes s budget g es → (after_events s budget g es).made ≤ g.made + budget * fires es
  goes_within [] g goes = omega arith
  goes_within (Start outs drops ∷ es) g goes = absurd goes.0
  goes_within (Select system now takes ∷ es) g goes = goes_within es (next s budget g (Select system now takes)) goes.2
  goes_within (Fire m n outs drops ∷ es) g goes =
      let one = fired_within g m n outs drops (fire s budget g m n) refl goes.0.ran in
      let rest = goes_within es (next s budget g (Fire m n outs drops)) goes.2 in
      let count : fires (Fire m n outs drops ∷ es) ≡ fires es + 1 = let one_more = sum_by-cons (λ e. cond (is_fire e) 1 0) (Fire m n outs drops) es in omega arith in
      let more : budget * fires (Fire m n outs drops ∷ es) ≡ budget * fires es + budget = ap (λ k. budget * k) count ∙ once_more (fires es) in
      omega (arith, one, rest, more)
  goes_within (Fault m n kind ∷ es) g goes = goes_within es g goes.2

  begins_within : (first : Firing) (e : Event) (es : List Event) → start s budget ≡ first → Begins s budget first e es → (after_events s budget (started s first) es).made ≤ budget * (fires (e ∷ es) + 1)
  begins_within (Ran g outs drops left) (Start outs' drops') es is begins =
      let one = (starts_are_within s budget g outs drops left is).made in
      let rest = goes_within es g begins.2 in
      omega (arith, one, rest, once_more (fires es))
  begins_within (Ran g outs drops left) (Select system now takes) es is begins = absurd begins
  begins_within (Ran g outs drops left) (Fire m n outs' drops') es is begins = absurd begins
  begins_within (Ran g outs drops left) (Fault m n kind) es is begins = absurd begins
  begins_within (Failed kind left) (Start outs drops) es is begins = absurd begins
  begins_within (Failed kind left) (Select system now takes) es is begins = absurd begins
  begins_within (Failed kind left) (Fire m n outs drops) es is begins = absurd begins
  begins_within (Failed kind left) (Fault m n kind') es is begins =
      subst (λ (xs : List Event). (after_events s budget (bare s) xs).made ≤ budget * (fires (Fault m n kind' ∷ xs) + 1)) (sym begins.3) (omega arith)
  begins_within Undefined e es is begins = absurd begins

  run_within : (events : List Event) → IsRun s budget events → (situation s budget events).made ≤ budget * (fires events + 1)
  run_within [] run = absurd run
  run_within (e ∷ es) run = begins_within (start s budget) e es refl run

pub outputs_are_within : OutputsAreWithin
outputs_are_within s budget events run =
    let counted = outputs_are_counted s budget events run in
    let within = run_within s budget events run in
    omega (arith, counted, within)

-- ---- under a limit of firings

one_at_most : (b : Bool) → cond b 1 0 ≤ 1
one_at_most true = omega arith
one_at_most false = omega arith

-- of one event
fires_one : (e : Event) → fires (e ∷ []) ≤ 1
fires_one (Start outs drops) = omega arith
fires_one (Select system now takes) = omega arith
fires_one (Fire m n outs drops) = omega arith
fires_one (Fault m n kind) = omega arith

module _ {C : Type 0} (draw : Draw C) (s : Subject) (budget turns : ℕ) (clock : Option ℕ) (chooser : C) where
  reached_below : {events : List Event} {kept : Kept C} → Reaches draw s budget turns clock chooser events kept → fires events ≤ turns + 1
  reached_below (Reaches.begins e) = let one = fires_one e in omega arith
  reached_below (Reaches.goes_on before kept e rest more below planned) =
      let some = count_append Event is_fire before e in
      let one = one_at_most (is_fire e) in
      omega arith
  reached_below (Reaches.waits events kept now more below waiting answer) = reached_below more

  -- so the run that is scheduled under this limit makes no more outputs than that many firings have units
  pub scheduled_outputs : (events : List Event) (e : End) → IsRun s budget events → IsScheduled draw s budget turns clock chooser events e → length (outputs events) ≤ budget * (turns + 2)
  scheduled_outputs events e run scheduled =
      let within = outputs_are_within s budget events run in
      let below = reached_below scheduled.reached in
      let more : budget * (fires events + 1) ≤ budget * (turns + 2) = mul-le-mul_left budget (omega (arith, below)) in
      omega arith
