-- What the end of a run comes to, and a refusal.
use Rattle.std.proofs.Common.{◌≡◌, ℕ, ◌+◌, ◌*◌, ◌^◌, ◌<◌, true, List, [], ◌∷◌, ◌++◌, length, Option, Some, None, refl, sym, ap, subst, ◌∙◌}
use Rattle.std.specs.Prelude.{unwrap_or}
use Rattle.pascal_values.specs.declared.fault.Fault as fault
use Rattle.estelle_tree.specs.Paths.{Path}
use Rattle.estelle_tree.specs.Timers.{next_due}
use Rattle.estelle_model.specs.declared.event.Event.TheVariants.{Fault}
use Rattle.estelle_model.specs.declared.event.End.{End}
use Rattle.estelle_model.specs.declared.event.End.TheVariants.{Dead, Turns, Clock, Faulted}
use Rattle.estelle_tree.specs.declared.transition.Pair.{Pair}
use Rattle.estelle_model.specs.Situation.{Situation}
use Rattle.estelle_model.specs.Delays.{has_delays}
use Rattle.estelle_model.specs.Choosers.{Draw}
use Rattle.estelle_model_legality.specs.Instances.{LeadsToStates}
use Rattle.run_history.specs.declared.entry.Entry.{Entry}
use Rattle.estelle_model.specs.Runs.{situation}
use Rattle.situation_state.specs.At.{IsAt}
use Rattle.run_history.specs.Histories.{project, fires}
use Rattle.run_history.specs.declared.entry.Taken.{Taken}
use Rattle.run_history.specs.Tickets.{tickets}
use Rattle.run_history.specs.OpenTickets.{open_in, untaken}
use Rattle.situation_steps.specs.Ends.{HasEnded}
use Rattle.situation_steps.proofs.Ends.{turns_end, clocks_end_selections, clocks_end_waits}
use Rattle.situation_steps.proofs.Dead.{dead_ends}
use Rattle.situation_steps.proofs.Waiting.{timers_are_waited_for}
use Rattle.situation.specs.declared.limits.Stepped.{Stepped}
use Rattle.situation.specs.declared.limits.Stepped.TheVariants as did
use Rattle.situation.specs.declared.execution.Execution.{Execution}
use Rattle.situation.specs.Planned.{IsPlannedOn}
use Rattle.situation.specs.Runs.{noted, ending, IsClosed}
use Rattle.situation.specs.Worlds.{AddsEnd, IsOpenExecution, IsEndedExecution, HasStepped, now, left_in}
use Rattle.situation.specs.Steps.{GoesOn, IsDueAt, IsIdle, MayWaitFor, IsFaultAt}
use Rattle.situation.proofs.Adding.{adds_on, all_taken}
use Rattle.situation.proofs.Planned.{leads_ended}
use Rattle.situation.proofs.Steps.{project_end, fires_same, ended_closes, fault_fires, fault_tickets, guard_faults_now}
use Rattle.situation.proofs.OpenTickets.{ended_open}
use Rattle.situation.proofs.Untaken.{all_untaken}
use Rattle.run_history.proofs.OpenTickets.{tickets_same}

-- the step that says an end
abbrev pub says : End → Option End → Stepped
says e x = did.Ended (unwrap_or x e)

module _ {H : Type 0} where
  -- ---- ends

  abbrev pub with_end : Execution H → Execution H → End → Execution H
  with_end c n e = record c { history = n.history; end = Some e }

  -- what is kept of it, whatever the limit of firings
  pub record MayEnd (c : Execution H) : Type 0 where
    pub leads : LeadsToStates c.state.program.now
    pub room : c.state.budget * (c.turns + 1) < 2 ^ 63
    pub delays : c.delays ≡ has_delays c.state.program.now
    pub left : List Pair
    pub at : IsAt (now c) left c.state
    pub taken : length (tickets c.history.entries) ≡ c.tickets
    pub fired : c.tickets ≡ fires c.history.entries + length (open_in c.history.entries)

  pub may_end : (c : Execution H) → IsOpenExecution c → MayEnd c
  may_end c o = record { leads = o.leads; room = o.room; delays = o.delays; left = left_in c; at = o.at; taken = o.taken; fired = o.fired }

  -- a history that ends, and leads to the same situation, ends the execution
  pub ends_so : (c n : Execution H) (e : End) → MayEnd c → IsClosed c.state.program.now c.state.budget c.turns n.history.entries c.time.waited e
      → situation c.state.program.now c.state.budget (project n.history.entries) ≡ now c → fires n.history.entries ≡ fires c.history.entries
      → length (tickets n.history.entries) ≡ length (tickets c.history.entries) → open_in n.history.entries ≡ open_in c.history.entries → IsEndedExecution (with_end c n e) e
  ends_so c n e o closed same count given still = record {
    leads = o.leads;
    room = o.room;
    delays = o.delays;
    closed = closed;
    left = o.left;
    at = subst (λ (g : Situation). IsAt g o.left c.state) (sym same) o.at;
    taken = given ∙ o.taken;
    fired = all_taken e n.history.entries c.tickets (o.fired ∙ (λ i. sym count i + length (sym still i)));
  }

  -- an end that a step says is the end
  pub ended_step : (draw : Draw H) (moment : Option ℕ) (c n : Execution H) (e : End) (k : ℕ) → GoesOn k c → IsClosed c.state.program.now c.state.budget c.turns (c.history.entries ++ ending c.writer e ∷ []) c.time.waited e
      → n.history.entries ≡ c.history.entries ++ ending c.writer e ∷ [] → AddsEnd c.writer c.history.entries n.history.entries e → HasStepped draw moment moment c (with_end c n e) (did.Ended e)
  ended_step draw moment c n e k opened closed entries_are adds = record {
    keeps = ends_so c n e (may_end c opened.is_open) (subst (λ (xs : List Entry). IsClosed c.state.program.now c.state.budget c.turns xs c.time.waited e) (sym entries_are) closed)
        (ap (λ (xs : List Entry). situation c.state.program.now c.state.budget (project xs)) entries_are ∙ ap (situation c.state.program.now c.state.budget) (project_end c.history.entries c.writer e))
        (ap fires entries_are ∙ fires_same c.history.entries (ending c.writer e) refl)
        (ap (λ (xs : List Entry). length (tickets xs)) entries_are ∙ ap length (tickets_same c.history.entries (ending c.writer e) refl))
        (ap open_in entries_are ∙ ended_open c.history.entries c.writer e);
    goes_on = record {
      program = refl;
      limits = refl;
      writer = refl;
      planned = λ known told. leads_ended draw c.state.program.now c.state.budget c.turns c.history.entries c.chooser c.time known e n.history.entries (ap project entries_are ∙ project_end c.history.entries c.writer e) moment told;
    };
    leaves = refl;
    adds = adds_on c.writer c.turns c.end c.history.entries n.history.entries (did.Ended e) opened.unended adds;
    waits = refl;
    ends = λ is. ap (says e) is;
  }

  -- so is one of the events
  ended_so : (draw : Draw H) (moment : Option ℕ) (c n : Execution H) (e : End) (k : ℕ) → GoesOn k c → HasEnded c.state.program.now c.state.budget c.turns (project c.history.entries) c.time.waited e
      → n.history.entries ≡ c.history.entries ++ ending c.writer e ∷ [] → AddsEnd c.writer c.history.entries n.history.entries e → HasStepped draw moment moment c (with_end c n e) (did.Ended e)
  ended_so draw moment c n e k opened h entries_are adds =
      ended_step draw moment c n e k opened (ended_closes c.state.program.now c.state.budget c.turns c.history.entries c.time c.systems.items opened.is_open.going c.writer e h) entries_are adds

  -- the first guard that faults ends the run
  pub faulted_step : (draw : Draw H) (moment : Option ℕ) (c n : Execution H) (at : ℕ) → GoesOn 2 c → IsDueAt at c → (m : Path) (k : ℕ) (kind : fault.Fault) → IsFaultAt at c m k kind
      → n.history.entries ≡ (c.history.entries ++ noted c.writer (Fault m k kind) ∷ []) ++ ending c.writer (Faulted kind) ∷ [] → HasStepped draw moment moment c (with_end c n (Faulted kind)) (did.Ended (Faulted kind))
  faulted_step draw moment c n at opened due m k kind first entries_are =
      let o = opened.is_open in
      let s = c.state.program.now in
      let b = c.state.budget in
      let t = c.turns in
      let es = c.history.entries in
      let w = c.writer in
      let h = guard_faults_now draw s o.leads b t es c.time c.systems.items o.going due.below at due.first.0 due.first.1 w m k kind (first due.first.0 due.first.1.there) c.chooser in
      record {
        keeps = ends_so c n (Faulted kind) (may_end c o) (subst (λ (xs : List Entry). IsClosed s b t xs c.time.waited (Faulted kind)) (sym entries_are) h.closed)
            (ap (λ (xs : List Entry). situation s b (project xs)) entries_are ∙ h.stays) (ap fires entries_are ∙ fault_fires es w m k kind) (ap (λ (xs : List Entry). length (tickets xs)) entries_are ∙ fault_tickets es w m k kind)
            (ap open_in entries_are ∙ h.left_open);
        goes_on = record {
          program = refl;
          limits = refl;
          writer = refl;
          planned = subst (λ (xs : List Entry). IsPlannedOn draw s b t es c.chooser c.time moment xs c.chooser c.time moment (did.Ended (Faulted kind))) (sym entries_are) (h.planned c.chooser moment);
        };
        leaves = refl;
        adds = adds_on w t c.end es n.history.entries (did.Ended (Faulted kind)) opened.unended (m, k, entries_are);
        waits = refl;
        ends = λ is. ap (says (Faulted kind)) is;
      }

  -- where nothing is left and nothing is under way, nothing is pending
  pub none_pending : (c : Execution H) → IsOpenExecution c → IsIdle c → (now c).pending ≡ []
  none_pending c o idle =
      sym (all_untaken (now c).pending) ∙ ap (λ (os : List Taken). untaken os (now c).pending) (sym (sym o.flying ∙ idle.none_flying)) ∙ sym o.at.left ∙ idle.none

  -- so does the limit of firings
  pub turns_step : (draw : Draw H) (moment : Option ℕ) (c n : Execution H) (k : ℕ) → GoesOn k c → fires c.history.entries ≡ c.turns → n.history.entries ≡ c.history.entries ++ ending c.writer Turns ∷ []
      → HasStepped draw moment moment c (with_end c n Turns) (did.Ended Turns)
  turns_step draw moment c n k opened full entries_are =
      ended_so draw moment c n Turns k opened (turns_end c.state.program.now c.state.budget c.turns (project c.history.entries) c.time c.systems.items opened.is_open.going.under_way full) entries_are entries_are

  -- a deadlock
  pub dead_step : (draw : Draw H) (moment : Option ℕ) (c n : Execution H) (k : ℕ) → GoesOn k c → IsIdle c → next_due c.state.timers ≡ None → n.history.entries ≡ c.history.entries ++ ending c.writer Dead ∷ []
      → HasStepped draw moment moment c (with_end c n Dead) (did.Ended Dead)
  dead_step draw moment c n k opened idle none entries_are =
      let o = opened.is_open in
      ended_so draw moment c n Dead k opened
      (dead_ends c.state.program.now c.state.budget c.turns (project c.history.entries) c.time c.systems.items o.going.under_way idle.none_due (none_pending c o idle) (ap next_due (sym o.at.timers) ∙ none) idle.below)
      entries_are entries_are

  -- and a clock that fails, where it is asked for a selection
  pub clock_step : (draw : Draw H) (moment : Option ℕ) (c n : Execution H) (at k : ℕ) → GoesOn k c → IsDueAt at c → c.delays ≡ true → n.history.entries ≡ c.history.entries ++ ending c.writer Clock ∷ []
      → HasStepped draw moment moment c (with_end c n Clock) (did.Ended Clock)
  clock_step draw moment c n at k opened due delays entries_are =
      let o = opened.is_open in
      ended_so draw moment c n Clock k opened
      (clocks_end_selections c.state.program.now c.state.budget c.turns (project c.history.entries) c.time c.systems.items o.going.under_way (sym o.delays ∙ delays) at due.first.0 due.first.1 due.below)
      entries_are entries_are

  -- or is waited for
  pub wait_fails : (draw : Draw H) (moment : Option ℕ) (c n : Execution H) (due k : ℕ) → GoesOn k c → MayWaitFor due c → n.history.entries ≡ c.history.entries ++ ending c.writer Clock ∷ []
      → HasStepped draw moment moment c (with_end c n Clock) (did.Ended Clock)
  wait_fails draw moment c n due k opened may entries_are =
      let o = opened.is_open in
      let none : (now c).pending ≡ [] = none_pending c o may.idle in
      let runs : next_due (now c).timers ≡ Some due = ap next_due (sym o.at.timers) ∙ may.due in
      let w = timers_are_waited_for c.state.program.now o.leads c.state.budget (project c.history.entries) c.time c.systems.items o.going.under_way may.idle.none_due none due runs in
      ended_so draw moment c n Clock k opened
      (clocks_end_waits c.state.program.now c.state.budget c.turns (project c.history.entries) c.time c.systems.items o.going.under_way w.delays w.waiting may.idle.below)
      entries_are entries_are
