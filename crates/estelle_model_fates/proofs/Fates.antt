-- Each output of a run has one fate.
use Rattle.std.proofs.Common.{◌≡◌, ℕ, suc, ◌+◌, Bool, true, false, List, [], ◌∷◌, ◌++◌, length, Ok, Err, Option, Some, None, cond, refl, sym, ap, subst, ◌∙◌, arith}
use Rattle.std.specs.FinMap as map
use Rattle.pascal_values.specs.declared.value.Value.{Value}
use Rattle.estelle_tree.specs.declared.link.IpAddr.{IpAddr}
use Rattle.estelle_tree.specs.Paths.{Path}
use Rattle.estelle_model.specs.declared.effect.Out.{Out}
use Rattle.estelle_model.specs.declared.image.Interaction.{Interaction}
use Rattle.estelle_model.specs.declared.event.Event.{Event}
use Rattle.estelle_model.specs.declared.event.Event.TheVariants.{Start, Select, Fire, Fault}
use Rattle.estelle_tree.specs.Queues.{waits_at}
use Rattle.estelle_tree.specs.Timers.{pair}
use Rattle.estelle_model.specs.Steps.{StepResult}
use Rattle.estelle_model.specs.Blocks.{fresh}
use Rattle.estelle_model.specs.Clauses.{fire_step, start_step}
use Rattle.estelle_model.specs.Transitions.{Transition, When}
use Rattle.estelle_model.specs.Subject.{Subject}
use Rattle.estelle_model.specs.Situation.{Waiting, Situation, Acting, on_situation}
use Rattle.estelle_model.specs.Queues.{Found, NotNeeded, Head, Absent, one_queue, queue, head_at, is_named, named, found, received}
use Rattle.estelle_model.specs.Firing.{Firing, Ran, Failed, Undefined, begun, done, untimed, taken, fire_with, fire_found, fire_of, fire, transition_at, start, bare}
use Rattle.estelle_model.specs.Jobs.{received_by}
use Rattle.estelle_model.specs.Runs.{HasRun, fired, next, Applies, Goes, Begins, IsRun, started, after_events, situation}
use Rattle.estelle_model_fates.specs.Fates.{Fate, outs_of, outputs, lost_after, number_of, dropped_by, consumed_by, numbers, times, fates_by, fates_from, fates, OutputsHaveOneFate, NoOthersHaveFates, OutputsAreCounted}
use Rattle.estelle_model_fates.specs.Fates as fates
use Rattle.estelle_model_fates.proofs.EveryBlock.{Ends, fire_step_ends, start_step_ends}
use Rattle.estelle_model_fates.proofs.Counts.{occurs, one_below, is_one, is_nothing, none_below, times_length, IsCounted, counted, head_counted}

-- ---- firings

-- Of a firing that ran with these numbers consumed: each number that waited, and one for each output, has become one of the others; and there are so many outputs more.
abbrev Accounts : ℕ → Situation → List ℕ → Firing → Type 0
Accounts i g taken (Ran after outs drops left) = (occurs i taken + occurs i drops + occurs i (lost_after g.made outs) + occurs i (numbers after.mail) + one_below i g.made ≡ occurs i (numbers g.mail) + one_below i after.made) × (after.made ≡ g.made + length outs)
Accounts i g taken (Failed kind left) = Unit {0}
Accounts i g taken Undefined = Unit {0}

length_append : {A : Type 0} (xs ys : List A) → length (xs ++ ys) ≡ length xs + length ys
length_append [] ys = omega arith
length_append (x ∷ xs) ys = let h = length_append xs ys in omega (arith, h)

pub named_head : (w : Option When) (f : Found) (item : Interaction) → named w f ≡ Head item → f ≡ Head item
named_head w NotNeeded item h = h
named_head w Absent item h = h
named_head w (Head j) item h = by (is_named j w) h
  where
    by : (b : Bool) → cond b (Head j) Absent ≡ Head item → Head j ≡ Head item
    by true e = e
    by false e = absurd (cc)

-- what has a `when` needs an interaction
module _ (s : Subject) (g : Situation) (m : Path) (w : When) where
  abbrev at : IpAddr
  at = record { path = m; ip = w.ip }

  head_needed : (x : Waiting) (b : Bool) → cond b (Head x.item) Absent ≡ NotNeeded → ⊥
  head_needed x true e = absurd (cc)
  head_needed x false e = absurd (cc)

  queue_needed : (xs : List Waiting) → head_at at xs ≡ NotNeeded → ⊥
  queue_needed [] e = absurd (cc)
  queue_needed (x ∷ xs) e = head_needed x (waits_at at x) e

  name_needed : (item : Interaction) (b : Bool) → cond b (Head item) Absent ≡ NotNeeded → ⊥
  name_needed item true e = absurd (cc)
  name_needed item false e = absurd (cc)

  named_needed : (f : Found) → found s g m (Some w) ≡ f → named (Some w) f ≡ NotNeeded → ⊥
  named_needed NotNeeded e h = queue_needed (queue s g at) e
  named_needed Absent e h = absurd (cc)
  named_needed (Head item) e h = name_needed item (is_named item (Some w)) h

  pub is_needed : received s g m (Some w) ≡ NotNeeded → ⊥
  is_needed h = named_needed (found s g m (Some w)) refl h

module _ (i : ℕ) (s : Subject) (budget : ℕ) where
  none_taken : (g : Situation) → IsCounted i g.made g.mail (begun g)
  none_taken g = record { made = omega arith; each = omega arith }

  done_counted : (g : Situation) (mail : List Waiting) (o : StepResult Acting (Unit {0})) → Ends Acting on_situation (IsCounted i g.made mail) (counted i g.made mail) o → (taken : List ℕ) → occurs i (numbers mail) + occurs i taken ≡ occurs i (numbers g.mail) → Accounts i g taken (done o)
  done_counted g mail (Ok r) h taken e = (let x = h.each in omega (arith, x, e), h.made)
  done_counted g mail (Err e) h taken is = tt

  start_accounts : Accounts i (bare s) [] (start s budget)
  start_accounts = done_counted (bare s) [] (start_step Acting on_situation s (fresh (begun (bare s)) budget)) (start_step_ends Acting on_situation (IsCounted i 0 []) (counted i 0 []) s (begun (bare s)) budget (none_taken (bare s))) [] refl

  module _ (g : Situation) (m : Path) where
    same_made : (o : Option When) → (taken s g m o).made ≡ g.made
    same_made None = refl
    same_made (Some w) = refl

    with_accounts : (t : Transition) (values : List Value) (consumed : List ℕ) → occurs i (numbers (taken s g m t.when).mail) + occurs i consumed ≡ occurs i (numbers g.mail) → Accounts i g consumed (fire_with s budget g m t values)
    with_accounts t values consumed e = done_counted g (taken s g m t.when).mail (fire_step Acting on_situation s m t values (fresh (begun (taken s g m t.when)) budget))
        (fire_step_ends Acting on_situation (IsCounted i g.made (taken s g m t.when).mail) (counted i g.made (taken s g m t.when).mail) s m t values (begun (taken s g m t.when)) budget (record { made = let x = same_made t.when in omega (arith, x); each = let x : one_below i (taken s g m t.when).made ≡ one_below i g.made = ap (one_below i) (same_made t.when) in omega (arith, x) }))
        consumed e

    taken_counts : (o : Option When) (f : Found) → received s g m o ≡ f → (item : Interaction) → f ≡ Head item → occurs i (numbers (taken s g m o).mail) + occurs i (item.number ∷ []) ≡ occurs i (numbers g.mail)
    taken_counts None f is item h = absurd (let wrong : NotNeeded ≡ Head item = is ∙ h in cc)
    taken_counts (Some w) f is item h =
        let x = head_counted i (one_queue s g.core.instances (record { path = m; ip = w.ip })) (record { path = m; ip = w.ip }) g.mail item (named_head (Some w) (found s g m (Some w)) item (is ∙ h)) in
        omega (arith, x)

    not_needed : (o : Option When) → received s g m o ≡ NotNeeded → occurs i (numbers (taken s g m o).mail) + occurs i [] ≡ occurs i (numbers g.mail)
    not_needed None h = omega arith
    not_needed (Some w) h = absurd (is_needed s g m w h)

    found_accounts : (t : Transition) (f : Found) → received s g m t.when ≡ f → Accounts i g (number_of f) (fire_found s budget g m t f)
    found_accounts t NotNeeded is = with_accounts t [] [] (not_needed t.when is)
    found_accounts t (Head item) is = with_accounts t item.values (item.number ∷ []) (taken_counts t.when (Head item) is item refl)
    found_accounts t Absent is = tt

    of_accounts : (o : Option Transition) → Accounts i g (number_of (received_by s g m o)) (fire_of s budget g m o)
    of_accounts None = tt
    of_accounts (Some t) = found_accounts t (received s g m t.when) refl

    fire_accounts : (n : ℕ) → Accounts i g (number_of (received_by s g m (transition_at s n (map.get g.core.instances m)))) (fire s budget g m n)
    fire_accounts n = by (fire_of s budget g m (transition_at s n (map.get g.core.instances m))) (of_accounts (transition_at s n (map.get g.core.instances m)))
      where
        by : (f : Firing) → Accounts i g (number_of (received_by s g m (transition_at s n (map.get g.core.instances m)))) f → Accounts i g (number_of (received_by s g m (transition_at s n (map.get g.core.instances m)))) (untimed m n f)
        by (Ran after outs drops left) h = h
        by (Failed kind left) h = tt
        by Undefined h = tt

  -- ---- events

  by_length : (g : Situation) (k : ℕ) (e : Event) → length (fates_by s g k e i) ≡ occurs i (consumed_by s g e) + (occurs i (dropped_by e) + occurs i (lost_after g.made (outs_of e)))
  by_length g k e =
      let consumed : List Fate = times i (fates.Consumed k) (consumed_by s g e) in
      let dropped : List Fate = times i (fates.Dropped k) (dropped_by e) in
      let lost : List Fate = times i (fates.Lost k) (lost_after g.made (outs_of e)) in
      let x : length (fates_by s g k e i) ≡ length (consumed ++ dropped) + length lost = length_append (consumed ++ dropped) lost in
      let y : length (consumed ++ dropped) ≡ length consumed + length dropped = length_append consumed dropped in
      let a : length consumed ≡ occurs i (consumed_by s g e) = times_length i (fates.Consumed k) (consumed_by s g e) in
      let b : length dropped ≡ occurs i (dropped_by e) = times_length i (fates.Dropped k) (dropped_by e) in
      let c : length lost ≡ occurs i (lost_after g.made (outs_of e)) = times_length i (fates.Lost k) (lost_after g.made (outs_of e)) in
      omega (arith, x, y, a, b, c)

  -- what an event makes of an output, and the situations before and after it
  abbrev EventAccounts : Situation → ℕ → Event → Situation → Type 0
  EventAccounts g k e after = length (fates_by s g k e i) + occurs i (numbers after.mail) + one_below i g.made ≡ occurs i (numbers g.mail) + one_below i after.made

  fired_accounts : (g : Situation) (k : ℕ) (m : Path) (n : ℕ) (outs : List Out) (drops : List ℕ) (f : Firing) → HasRun outs drops f → Accounts i g (consumed_by s g (Fire m n outs drops)) f → EventAccounts g k (Fire m n outs drops) (fired (pair m n) g f)
  fired_accounts g k m n outs drops (Ran after outs' drops' left) ran h =
      let l = by_length g k (Fire m n outs drops) in
      let d : occurs i drops' ≡ occurs i drops = ap (occurs i) ran.1 in
      let o : occurs i (lost_after g.made outs') ≡ occurs i (lost_after g.made outs) = ap (λ (x : List Out). occurs i (lost_after g.made x)) ran.0 in
      let x = h.0 in omega (arith, l, d, o, x)
  fired_accounts g k m n outs drops (Failed kind left) ran h = absurd ran
  fired_accounts g k m n outs drops Undefined ran h = absurd ran

  event_accounts : (g : Situation) (k : ℕ) (e : Event) → Applies s budget g e → EventAccounts g k e (next s budget g e)
  event_accounts g k (Start outs drops) applies = absurd applies
  event_accounts g k (Select system now takes) applies = omega arith
  event_accounts g k (Fire m n outs drops) applies = fired_accounts g k m n outs drops (fire s budget g m n) applies.ran (fire_accounts g m n)
  event_accounts g k (Fault m n kind) applies = omega arith

  -- ---- runs

  goes_accounts : (es : List Event) (g : Situation) (k : ℕ) → Goes s budget g es → length (fates_from s budget g k es i) + one_below i g.made ≡ occurs i (numbers g.mail) + one_below i (after_events s budget g es).made
  goes_accounts [] g k goes = let x = times_length i fates.Waits (numbers g.mail) in omega (arith, x)
  goes_accounts (e ∷ es) g k goes =
      let x = event_accounts g k e goes.0 in
      let y = goes_accounts es (next s budget g e) (suc k) goes.2 in
      let z = length_append (fates_by s g k e i) (fates_from s budget (next s budget g e) (suc k) es i) in
      omega (arith, x, y, z)

  -- so many outputs more there have been
  fired_makes : (g : Situation) (m : Path) (n : ℕ) (outs : List Out) (drops taken : List ℕ) (f : Firing) → HasRun outs drops f → Accounts i g taken f → (fired (pair m n) g f).made ≡ g.made + length outs
  fired_makes g m n outs drops taken (Ran after outs' drops' left) ran h = let x : length outs' ≡ length outs = ap (λ (os : List Out). length os) ran.0 in let y = h.1 in omega (arith, x, y)
  fired_makes g m n outs drops taken (Failed kind left) ran h = absurd ran
  fired_makes g m n outs drops taken Undefined ran h = absurd ran

  event_makes : (g : Situation) (e : Event) → Applies s budget g e → (next s budget g e).made ≡ g.made + length (outs_of e)
  event_makes g (Start outs drops) applies = absurd applies
  event_makes g (Select system now takes) applies = omega arith
  event_makes g (Fire m n outs drops) applies = fired_makes g m n outs drops (consumed_by s g (Fire m n outs drops)) (fire s budget g m n) applies.ran (fire_accounts g m n)
  event_makes g (Fault m n kind) applies = omega arith

  goes_makes : (es : List Event) (g : Situation) → Goes s budget g es → (after_events s budget g es).made ≡ g.made + length (outputs es)
  goes_makes [] g goes = omega arith
  goes_makes (e ∷ es) g goes =
      let x = event_makes g e goes.0 in
      let y = goes_makes es (next s budget g e) goes.2 in
      let z : length (outputs (e ∷ es)) ≡ length (outs_of e) + length (outputs es) = length_append (outs_of e) (outputs es) in
      omega (arith, x, y, z)

  begins_makes : (first : Firing) (e : Event) (es : List Event) → Accounts i (bare s) [] first → Begins s budget first e es → (after_events s budget (started s first) es).made ≡ length (outputs (e ∷ es))
  begins_makes (Ran g outs drops left) (Start outs' drops') es h begins =
      let x = h.1 in
      let y = goes_makes es g begins.2 in
      let o : length outs' ≡ length outs = ap (λ (os : List Out). length os) begins.0 in
      let z : length (outputs (Start outs' drops' ∷ es)) ≡ length outs' + length (outputs es) = length_append outs' (outputs es) in
      omega (arith, x, y, z, o)
  begins_makes (Ran g outs drops left) (Select system now takes) es h begins = absurd begins
  begins_makes (Ran g outs drops left) (Fire m n outs' drops') es h begins = absurd begins
  begins_makes (Ran g outs drops left) (Fault m n kind) es h begins = absurd begins
  begins_makes (Failed kind left) (Start outs drops) es h begins = absurd begins
  begins_makes (Failed kind left) (Select system now takes) es h begins = absurd begins
  begins_makes (Failed kind left) (Fire m n outs drops) es h begins = absurd begins
  begins_makes (Failed kind left) (Fault m n kind') es h begins = subst (λ (xs : List Event). (after_events s budget (bare s) xs).made ≡ length (outputs xs)) (sym begins.3) refl
  begins_makes Undefined e es h begins = absurd begins

  run_makes : (events : List Event) → IsRun s budget events → (situation s budget events).made ≡ length (outputs events)
  run_makes [] run = absurd run
  run_makes (e ∷ es) run = begins_makes (start s budget) e es start_accounts run

  -- what becomes of it from the start on
  begins_accounts : (first : Firing) (e : Event) (es : List Event) → Accounts i (bare s) [] first → Begins s budget first e es
      → length (fates_by s (bare s) 0 e i ++ fates_from s budget (started s first) 1 es i) ≡ one_below i (after_events s budget (started s first) es).made
  begins_accounts (Ran g outs drops left) (Start outs' drops') es h begins =
      let l = by_length (bare s) 0 (Start outs' drops') in
      let d : occurs i drops ≡ occurs i drops' = ap (occurs i) (sym begins.1) in
      let o : occurs i (lost_after 0 outs) ≡ occurs i (lost_after 0 outs') = ap (λ (x : List Out). occurs i (lost_after 0 x)) (sym begins.0) in
      let y = goes_accounts es g 1 begins.2 in
      let z = length_append (fates_by s (bare s) 0 (Start outs' drops') i) (fates_from s budget g 1 es i) in
      let zero : one_below i 0 ≡ 0 = none_below i in
      let x = h.0 in omega (arith, l, d, o, y, z, x, zero)
  begins_accounts (Ran g outs drops left) (Select system now takes) es h begins = absurd begins
  begins_accounts (Ran g outs drops left) (Fire m n outs' drops') es h begins = absurd begins
  begins_accounts (Ran g outs drops left) (Fault m n kind) es h begins = absurd begins
  begins_accounts (Failed kind left) (Start outs drops) es h begins = absurd begins
  begins_accounts (Failed kind left) (Select system now takes) es h begins = absurd begins
  begins_accounts (Failed kind left) (Fire m n outs drops) es h begins = absurd begins
  begins_accounts (Failed kind left) (Fault m n kind') es h begins = subst (λ (xs : List Event). length (fates_from s budget (bare s) 1 xs i) ≡ one_below i (after_events s budget (bare s) xs).made) (sym begins.3) (let zero : one_below i 0 ≡ 0 = none_below i in omega (arith, zero))
  begins_accounts Undefined e es h begins = absurd begins

  pub run_accounts : (events : List Event) → IsRun s budget events → length (fates s budget events i) ≡ one_below i (situation s budget events).made
  run_accounts [] run = absurd run
  run_accounts (e ∷ es) run = begins_accounts (start s budget) e es start_accounts run

just_one : (xs : List Fate) → length xs ≡ 1 → (f : Fate) × (xs ≡ f ∷ [])
just_one [] h = absurd (omega (arith, h))
just_one (x ∷ []) h = (x, refl)
just_one (x ∷ y ∷ xs) h = absurd (omega (arith, h))

just_none : (xs : List Fate) → length xs ≡ 0 → xs ≡ []
just_none [] h = refl
just_none (x ∷ xs) h = absurd (omega (arith, h))

pub outputs_have_one_fate : OutputsHaveOneFate
outputs_have_one_fate s budget events run i some within = just_one (fates s budget events i) (run_accounts i s budget events run ∙ is_one i (situation s budget events).made some within)

pub no_others : NoOthersHaveFates
no_others s budget events run i no_output = just_none (fates s budget events i) (run_accounts i s budget events run ∙ is_nothing i (situation s budget events).made no_output)

pub outputs_are_counted : OutputsAreCounted
outputs_are_counted s budget events run = run_makes 0 s budget events run
