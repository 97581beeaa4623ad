-- A step as a caller sees it; after a refusal the run is as before, and so is its end.
use Rattle.std.proofs.Common.{◌≡◌, ℕ, ◌+◌, ◌≤◌, List, [], ◌∷◌, ◌++◌, length, Option, Some, None, refl, sym, ap, subst, ◌∙◌, ⊎_elim, arith}
use Rattle.std.specs.Prelude.{Result, Ok, Err, IfOk, OnErr}
use Rattle.std.proofs.lemmas.List.Elements.{filter_map-append}
use Rattle.std.proofs.lemmas.List.{length-append}
use Rattle.outside.specs.Counts.{Rose}
use Rattle.estelle_model.specs.declared.event.End.{End}
use Rattle.estelle_model.specs.declared.event.End.TheVariants.{Clock}
use Rattle.run_history.specs.declared.entry.Entry.{Entry}
use Rattle.run_history.specs.declared.entry.What.{What}
use Rattle.run_history.specs.declared.entry.What.TheVariants as what
use Rattle.run_history.specs.Histories.{event_of, project}
use Rattle.run_history.specs.Tickets.{ticket_of, tickets}
use Rattle.estelle_model.specs.Choosers.{Draw}
use Rattle.situation.specs.declared.execution.Execution.{Execution}
use Rattle.situation.specs.declared.limits.Stepped.{Stepped}
use Rattle.situation.specs.declared.limits.Stepped.TheVariants as did
use Rattle.situation.specs.Runs.{ending, AreCounted}
use Rattle.situation.specs.Worlds.{IsKept, IsExecution, IsUnchanged, HasStepped, Leaves, limits_of}
use Rattle.situation.specs.Steps.{IsCause, IsCounted}
use Rattle.situation.specs.Known.{Known, IsAsBefore, IsPlannedStep, LeavesLess}

-- ---- an end among the entries

-- an entry is an event, or a ticket, or neither
one : (n : ℕ) (w : What) → length (project (record { by = n; what = w } ∷ [])) + length (tickets (record { by = n; what = w } ∷ [])) ≤ 1
one n (what.Event e) = omega arith
one n (what.Take k m t) = omega arith
one n (what.Ended e) = omega arith

projects : (es fs : List Entry) → length (project (es ++ fs)) ≡ length (project es) + length (project fs)
projects es fs = ap length (filter_map-append (λ (x : Entry). event_of x.what) es fs) ∙ length-append (project es) (project fs)

takes : (es fs : List Entry) → length (tickets (es ++ fs)) ≡ length (tickets es) + length (tickets fs)
takes es fs = ap length (filter_map-append (λ (x : Entry). ticket_of x.what) es fs) ∙ length-append (tickets es) (tickets fs)

at_most : (es : List Entry) → length (project es) + length (tickets es) ≤ length es
at_most [] = omega arith
at_most (e ∷ es) = omega (arith, one e.by e.what, at_most es, projects (e ∷ []) es, takes (e ∷ []) es)

-- with an end they are not all events and tickets
none_ended : (es : List Entry) (by : ℕ) (e : End) → AreCounted (es ++ ending by e ∷ []) → ⊥
none_ended es by e h = omega (arith, h, at_most es, projects es (ending by e ∷ []), takes es (ending by e ∷ []), length-append es (ending by e ∷ []))

abbrev last_of : Entry → List Entry → Entry
last_of x [] = x
last_of x (y ∷ ys) = last_of y ys

last_is : (x : Entry) (es : List Entry) (y : Entry) → last_of x (es ++ y ∷ []) ≡ y
last_is x [] y = refl
last_is x (z ∷ es) y = last_is z es y

one_end : (es fs : List Entry) (by by' : ℕ) (e f : End) → es ++ ending by e ∷ [] ≡ fs ++ ending by' f ∷ [] → e ≡ f
one_end es fs by by' e f same =
    let whole : ending by e ≡ ending by' f = sym (last_is (ending by e) es (ending by e)) ∙ ap (last_of (ending by e)) same ∙ last_is (ending by e) fs (ending by' f) in
    let inner : what.Ended e ≡ what.Ended f = ap (λ (x : Entry). x.what) whole in
    cc

-- ---- counts

rose_since : (first faults faults' : ℕ) → first ≤ faults → Rose faults faults' → Rose first faults'
rose_since first faults faults' later rose = omega (arith, later, rose)

pub rose_still : (first faults faults' : ℕ) → faults ≤ faults' → Rose first faults → Rose first faults'
rose_still first faults faults' later rose = omega (arith, later, rose)

-- ---- refusals

module _ {H : Type 0} where
  end_as_before : (c n : Execution H) → IsExecution c → IsUnchanged c n → n.end ≡ c.end
  end_as_before c n k u = by c.end n.end k u.keeps
    where
      by : (x y : Option End) → IsKept c x → IsKept n y → y ≡ x
      by None None k l = refl
      by None (Some f) k l = absurd (none_ended l.closed.before l.closed.writer f (subst AreCounted (sym u.entries ∙ l.closed.last) k.going.counted))
      by (Some e) None k l = absurd (none_ended k.closed.before k.closed.writer e (subst AreCounted (u.entries ∙ k.closed.last) l.going.counted))
      by (Some e) (Some f) k l = ap Some (one_end l.closed.before k.closed.before l.closed.writer k.closed.writer f e (sym l.closed.last ∙ u.entries ∙ k.closed.last))

  -- what a caller knows of a run
  abbrev pub seen : {C : Type 0} → ℕ → Execution H → C → Known C H
  seen first c clock = record { first = first; writer = c.writer; room = record { shared = c.state.shared; notes = c.state.notes }; subject = c.state.program.now; limits = limits_of c; history = c.history; end = c.end; time = c.time; systems = c.systems.items; chooser = c.chooser; clock = clock }

  pub as_before : {A E C : Type 0} (first : ℕ) (r : Result A E) (c n : Execution H) (clock clock' : C) → IsExecution c → OnErr r (IsUnchanged c n) → OnErr r (IsAsBefore (seen first c clock) (seen first n clock'))
  as_before first (Ok a) c n clock clock' k u = tt
  as_before first (Err e) c n clock clock' k u = record { first = refl; writer = u.writer; subject = ap (λ p. p.now) u.program; limits = u.limits; entries = u.entries; end = end_as_before c n k u; time = u.time; systems = u.systems }

  -- ---- steps

  leaves_so : {C : Type 0} (first : ℕ) (c n : Execution H) (clock clock' : C) (d : Stepped) → Leaves c n d → LeavesLess (seen first c clock) (seen first n clock') d
  leaves_so first c n clock clock' did.Selected h = h
  leaves_so first c n clock clock' did.Waited h = h
  leaves_so first c n clock clock' did.Fired h = h
  leaves_so first c n clock clock' did.Faulted h = h
  leaves_so first c n clock clock' (did.Ended e) h = h

  -- the run is kept, with its program
  pub still_kept : {E : Type 0} (draw : Draw H) (moment moment' : Option ℕ) (r : Result Stepped E) (c n : Execution H) → IfOk r (HasStepped draw moment moment' c n) → OnErr r (IsUnchanged c n) → IsExecution n × (n.state.program.now ≡ c.state.program.now)
  still_kept draw moment moment' (Ok d) c n h u = (h.keeps, ap (λ p. p.now) h.goes_on.program)
  still_kept draw moment moment' (Err e) c n h u = (u.keeps, ap (λ p. p.now) u.program)

  -- what is known of the clock's count then
  pub still_counted : {E : Type 0} (draw : Draw H) (moment moment' : Option ℕ) (r : Result Stepped E) (c n : Execution H) (first faults faults' : ℕ) → IsExecution c → faults ≤ faults' → IsCounted first c.end faults
      → IfOk r (HasStepped draw moment moment' c n) → OnErr r (IsUnchanged c n) → IfOk r (IsCause c.end faults faults') → IsCounted first n.end faults'
  still_counted draw moment moment' (Ok d) c n first faults faults' k later before h u cause =
      record { later = omega (arith, before.later, later); rose = λ ended. ⊎_elim (λ (rose : Rose faults faults'). rose_since first faults faults' before.later rose) (λ (was : c.end ≡ Some Clock). rose_still first faults faults' later (before.rose was)) (cause (h.ends ended)) }
  still_counted draw moment moment' (Err e) c n first faults faults' k later before h u cause =
      record { later = omega (arith, before.later, later); rose = λ ended. rose_still first faults faults' later (before.rose (sym (end_as_before c n k u) ∙ ended)) }

  pub planned_step : {C : Type 0} (draw : Draw H) (moment : C → Option ℕ) (first : ℕ) (d : Stepped) (c n : Execution H) (clock clock' : C) → HasStepped draw (moment clock) (moment clock') c n d
      → IsPlannedStep draw moment (seen first c clock) (seen first n clock') d
  planned_step draw moment first d c n clock clock' h = record {
    first = refl;
    writer = h.goes_on.writer;
    subject = ap (λ p. p.now) h.goes_on.program;
    limits = h.goes_on.limits;
    planned = h.goes_on.planned;
    leaves = leaves_so first c n clock clock' d h.leaves;
    adds = h.adds;
    waits = h.waits;
    ends = h.ends;
  }

  pub planned : {E C : Type 0} (draw : Draw H) (moment : C → Option ℕ) (first : ℕ) (r : Result Stepped E) (c n : Execution H) (clock clock' : C) → IfOk r (HasStepped draw (moment clock) (moment clock') c n)
      → IfOk r (IsPlannedStep draw moment (seen first c clock) (seen first n clock'))
  planned draw moment first (Ok d) c n clock clock' h = planned_step draw moment first d c n clock clock' h
  planned draw moment first (Err e) c n clock clock' h = tt
