-- The numbers of what an event drops rise.
use Rattle.std.proofs.Common.{length-append, ◌≡◌, ℕ, suc, ◌+◌, ◌^◌, ◌≤◌, Bool, true, false, List, [], ◌∷◌, ◌++◌, length, map as each, Ok, Err, Option, Some, None, cond, arith, refl}
use Rattle.std.specs.Prelude.{filter, fold, nat_lt, nat_eq}
use Rattle.std.specs.List.{AllByRecursion}
use Rattle.std.specs.FinMap as map
use Rattle.std.proofs.lemmas.Bool.{ltb-true, ltb-false}
use Rattle.std.proofs.lemmas.Bool.Decides.{nat_tests}
use Rattle.pascal_values.specs.declared.value.Value.{Value}
use Rattle.pascal_values.specs.Sets.{IsRising}
use Rattle.estelle_tree.specs.Paths.{Path, child}
use Rattle.estelle_tree.specs.Queues.{waits_inside}
use Rattle.estelle_model.specs.declared.event.Event.{Event}
use Rattle.estelle_model.specs.Effects.{StatementEffect, Output, Connect, Disconnect, Attach, Detach, Create, Remove}
use Rattle.estelle_model.specs.Steps.{StepResult}
use Rattle.estelle_model.specs.Blocks.{fresh}
use Rattle.estelle_model.specs.Clauses.{fire_step, start_step}
use Rattle.estelle_model.specs.Transitions.{Transition}
use Rattle.estelle_model.specs.Subject.{Subject}
use Rattle.estelle_model.specs.Situation.{Situation, Acting, on_situation, acting_after, put_number, drops_after}
use Rattle.estelle_model.specs.Queues.{Found, NotNeeded, Head, Absent, received}
use Rattle.estelle_model.specs.Firing.{Firing, Ran, Failed, Undefined, begun, done, untimed, taken, fire_with, fire_found, fire_of, fire, transition_at, start, bare}
use Rattle.estelle_model.specs.Runs.{next, IsRun, started, situation}
use Rattle.trace_text.specs.Forms.{IsNumber}
use Rattle.estelle_model_fates.specs.Fates.{Fate, outs_of, dropped_by, lost_after, consumed_by, times, numbers, fates_by, fates_from, fates}
use Rattle.estelle_model_fates.specs.Fates as fates
use Rattle.estelle_model.proofs.AlikeFirings.{situation_is_faithful}
use Rattle.estelle_model_fates.proofs.EveryBlock.{IsInvariant, Ends, fire_step_ends, start_step_ends}
use Rattle.estelle_model_fates.proofs.Counts.{occurs, one_if, one_below, times_length}
use Rattle.estelle_model_fates.proofs.Fates.{run_accounts}

-- ---- they never fall

abbrev pub SortedFrom : ℕ → List ℕ → Type 0
SortedFrom low [] = Unit {0}
SortedFrom low (d ∷ ds) = (low ≤ d) × SortedFrom d ds

put_sorted : (low n : ℕ) (ds : List ℕ) → low ≤ n → SortedFrom low ds → SortedFrom low (put_number ds n)
put_sorted low n [] h k = (h, tt)
put_sorted low n (d ∷ ds) h k = by (nat_lt n d) refl (put_sorted d n ds)
  where
    by : (b : Bool) → nat_lt n d ≡ b → (d ≤ n → SortedFrom d ds → SortedFrom d (put_number ds n)) → SortedFrom low (cond b (n ∷ d ∷ ds) (d ∷ put_number ds n))
    by true is rest = let less = ltb-true n d is in (h, (omega (arith, less), k.1))
    by false is rest = (k.0, rest (ltb-false n d is) k.1)

put_all : (ns ds : List ℕ) → SortedFrom 0 ds → SortedFrom 0 (fold put_number ds ns)
put_all [] ds h = h
put_all (n ∷ ns) ds h = put_all ns (put_number ds n) (put_sorted 0 n ds (omega arith) h)

abbrev DropsSorted : Acting → Type 0
DropsSorted a = SortedFrom 0 a.drops

sorted_after : (e : StatementEffect) (a : Acting) → DropsSorted a → DropsSorted (acting_after e a)
unfolding drops_after
sorted_after (Output from ip name values) a h = h
sorted_after (Connect p q) a h = h
sorted_after (Disconnect p) a h = h
sorted_after (Attach upper lower) a h = h
sorted_after (Detach upper) a h = h
sorted_after (Create p k i) a h = h
sorted_after (Remove p k) a h = put_all (each (λ w. w.item.number) (filter (waits_inside (child p k)) a.situation.mail)) a.drops h

drops_sorted : IsInvariant Acting on_situation DropsSorted
drops_sorted = record { faithful = situation_is_faithful; does = λ e a may h. sorted_after e a h; keeps = λ p change a h. h }

abbrev pub HasSorted : Firing → Type 0
HasSorted (Ran after outs drops left) = SortedFrom 0 drops
HasSorted (Failed kind left) = Unit {0}
HasSorted Undefined = Unit {0}

done_sorted : (o : StepResult Acting (Unit {0})) → Ends Acting on_situation DropsSorted drops_sorted o → HasSorted (done o)
done_sorted (Ok r) h = h
done_sorted (Err e) h = tt

module _ (s : Subject) (budget : ℕ) where
  pub start_sorted : HasSorted (start s budget)
  start_sorted = done_sorted (start_step Acting on_situation s (fresh (begun (bare s)) budget)) (start_step_ends Acting on_situation DropsSorted drops_sorted s (begun (bare s)) budget tt)

  module _ (g : Situation) (m : Path) where
    with_sorted : (t : Transition) (values : List Value) → HasSorted (fire_with s budget g m t values)
    with_sorted t values = done_sorted (fire_step Acting on_situation s m t values (fresh (begun (taken s g m t.when)) budget)) (fire_step_ends Acting on_situation DropsSorted drops_sorted s m t values (begun (taken s g m t.when)) budget tt)

    found_sorted : (t : Transition) (f : Found) → HasSorted (fire_found s budget g m t f)
    found_sorted t NotNeeded = with_sorted t []
    found_sorted t (Head i) = with_sorted t i.values
    found_sorted t Absent = tt

    of_sorted : (o : Option Transition) → HasSorted (fire_of s budget g m o)
    of_sorted None = tt
    of_sorted (Some t) = found_sorted t (received s g m t.when)

    pub fire_sorted : (n : ℕ) → HasSorted (fire s budget g m n)
    fire_sorted n = by (fire_of s budget g m (transition_at s n (map.get g.core.instances m))) (of_sorted (transition_at s n (map.get g.core.instances m)))
      where
        by : (f : Firing) → HasSorted f → HasSorted (untimed m n f)
        by (Ran after outs drops left) h = h
        by (Failed kind left) h = tt
        by Undefined h = tt

-- ---- none is dropped twice

-- each number of these is that of an output that there has been, and stands there once
abbrev pub AreOnce : ℕ → List ℕ → Type 0
AreOnce made ds = (i : ℕ) → occurs i ds ≤ one_below i made

module _ (i : ℕ) (s : Subject) (budget : ℕ) where
  dropped_of : (g : Situation) (k : ℕ) (e : Event) → occurs i (dropped_by e) ≤ length (fates_by s g k e i)
  dropped_of g k e =
      let consumed : List Fate = times i (fates.Consumed k) (consumed_by s g e) in
      let dropped : List Fate = times i (fates.Dropped k) (dropped_by e) in
      let lost : List Fate = times i (fates.Lost k) (lost_after g.made (outs_of e)) in
      let x : length (fates_by s g k e i) ≡ length (consumed ++ dropped) + length lost = length-append (consumed ++ dropped) lost in
      let y : length (consumed ++ dropped) ≡ length consumed + length dropped = length-append consumed dropped in
      let b : length dropped ≡ occurs i (dropped_by e) = times_length i (fates.Dropped k) (dropped_by e) in
      omega (arith, x, y, b)

  dropped_from : (es : List Event) (g : Situation) (k most : ℕ) → length (fates_from s budget g k es i) ≤ most → AllByRecursion (λ (e : Event). occurs i (dropped_by e) ≤ most) es
  dropped_from [] g k most h = tt
  dropped_from (e ∷ es) g k most h =
      let x = length-append (fates_by s g k e i) (fates_from s budget (next s budget g e) (suc k) es i) in
      let y = dropped_of g k e in
      (omega (arith, h, x, y), dropped_from es (next s budget g e) (suc k) most (omega (arith, h, x)))

  dropped_in : (events : List Event) → IsRun s budget events → AllByRecursion (λ (e : Event). occurs i (dropped_by e) ≤ one_below i (situation s budget events).made) events
  dropped_in [] run = absurd run
  dropped_in (e ∷ es) run =
      let h = run_accounts i s budget (e ∷ es) run in
      let x = length-append (fates_by s (bare s) 0 e i) (fates_from s budget (started s (start s budget)) 1 es i) in
      let y = dropped_of (bare s) 0 e in
      (omega (arith, h, x, y), dropped_from es (started s (start s budget)) 1 (one_below i (situation s budget (e ∷ es)).made) (omega (arith, h, x)))

swapped : (most : ℕ → ℕ) (es : List Event) → ((i : ℕ) → AllByRecursion (λ (e : Event). occurs i (dropped_by e) ≤ most i) es) → AllByRecursion (λ (e : Event). (i : ℕ) → occurs i (dropped_by e) ≤ most i) es
swapped most [] h = tt
swapped most (e ∷ es) h = (λ i. (h i).0, swapped most es (λ i. (h i).1))

pub drops_once : (s : Subject) (budget : ℕ) (events : List Event) → IsRun s budget events → AllByRecursion (λ (e : Event). AreOnce (situation s budget events).made (dropped_by e)) events
drops_once s budget events run = swapped (λ i. one_below i (situation s budget events).made) events (λ i. dropped_in i s budget events run)

-- ---- so they rise

none_first : (d : ℕ) (ds : List ℕ) → SortedFrom d ds → occurs d ds ≡ 0 → SortedFrom (d + 1) ds
none_first d [] h e = tt
none_first d (n ∷ ns) h e = (by (nat_eq d n) refl e, h.1)
  where
    by : (b : Bool) → nat_eq d n ≡ b → cond b 1 0 + occurs d ns ≡ 0 → d + 1 ≤ n
    by true is z = absurd (omega (arith, z))
    by false is z = let low = h.0 in grind (arith, nat_tests, is, low)

itself : (d : ℕ) → one_if d d ≡ 1
itself d = grind (arith, nat_tests)

at_most_one : (d made : ℕ) → one_below d made ≤ 1
at_most_one d made = grind (arith, nat_tests)

later_less : (d made : ℕ) (ds : List ℕ) → AreOnce made (d ∷ ds) → AreOnce made ds
later_less d made ds h i = let x = h i in omega (arith, x)

pub rise : (low made : ℕ) (ds : List ℕ) → SortedFrom low ds → AreOnce made ds → AllByRecursion IsNumber ds → low ≤ 2 ^ 64 → IsRising low ds (2 ^ 64)
rise low made [] h once fits within = within
rise low made (d ∷ ds) h once fits within =
    let x = once d in
    let y = itself d in
    let z = at_most_one d made in
    let last = fits.0.1 in
    (h.0, rise (d + 1) made ds (none_first d ds h.1 (omega (arith, x, y, z))) (later_less d made ds once) fits.1 (omega (arith, last)))
