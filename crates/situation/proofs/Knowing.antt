-- What a caller knows after an advance, a take and a commit.
use Rattle.std.proofs.Common.{◌≡◌, ◌≢◌, ◌<◌, ◌≤◌, ℕ, ◌+◌, List, [], ◌∷◌, ◌++◌, Option, Some, None, sym, ap, subst, ◌∙◌, arith}
use Rattle.std.specs.Prelude.{Result, Ok, Err, IfOk, OnErr, slice_get, option_map, Contains}
use Rattle.estelle_tree.specs.declared.transition.Pair.{Pair}
use Rattle.estelle_tree.specs.Paths.{Path}
use Rattle.estelle_tree.specs.Timers.{pair}
use Rattle.estelle_model.specs.declared.job.Job.{Job}
use Rattle.estelle_model.specs.declared.job.Done.{Done}
use Rattle.estelle_model.specs.declared.event.End.{End}
use Rattle.estelle_model.specs.declared.event.End.TheVariants.{Clock, Faulted}
use Rattle.estelle_model.specs.Subject.{Subject}
use Rattle.estelle_model.specs.Runs.{situation}
use Rattle.estelle_model.specs.Choosers.{Draw, Picks}
use Rattle.estelle_model.specs.Schedule.{NoneDue}
use Rattle.estelle_model_legality.specs.Jobs as legal
use Rattle.run_history.specs.declared.entry.Entry.{Entry}
use Rattle.run_history.specs.declared.entry.Taken.{Taken}
use Rattle.run_history.specs.Histories.{History, project, fires}
use Rattle.run_history.specs.Tickets.{IsJobOf}
use Rattle.run_history.specs.OpenTickets.{open_in, untaken}
use Rattle.situation_state.specs.declared.state.State.{State}
use Rattle.situation_steps.specs.Systems.{NoneIsDue}
use Rattle.situation_steps.proofs.Due.{none_are_due}
use Rattle.situation.specs.declared.limits.Advanced.{Advanced}
use Rattle.situation.specs.declared.limits.Advanced.TheVariants as advanced
use Rattle.situation.specs.declared.limits.Committed.{Committed}
use Rattle.situation.specs.declared.limits.Committed.TheVariants as committed
use Rattle.situation.specs.declared.limits.Stepped.{Stepped}
use Rattle.situation.specs.declared.limits.Stepped.TheVariants as did
use Rattle.situation.specs.declared.execution.Execution.{Execution}
use Rattle.situation.specs.declared.tickets.Choice.{Choice}
use Rattle.situation.specs.Runs.{take_of, taken_as, AreAllTaken}
use Rattle.situation.specs.Known.{Known, IsOfRun, IsKnownBy, IsStill, HasNoneDue, IsReady, IsFlying, IsPlannedAdvance, HasTaken, HasCommitted}
use Rattle.situation.specs.Worlds.{IsOpenExecution, IsKept, IsExecution, HasStepped, IsUnchanged, now, left_in}
use Rattle.situation.specs.Steps as steps
use Rattle.situation.specs.Steps.{GoesOn, HasAdvanced, LeavesClock, HasChosen, HasTakenAt, IsCause, IsCauseOf, IsCounted}
use Rattle.situation.proofs.Kept.{with_memory, reopened}
use Rattle.situation.proofs.Chosen.{taken_opens, taken_job, taken_is_open}
use Rattle.situation.proofs.MoreRoom.{kept_so}
use Rattle.situation.proofs.Refused.{seen, planned_step, still_kept, still_counted, rose_still}

module _ {H C : Type 0} (first : ℕ) where
  -- what is kept of a run is known of it
  pub of_run : (c : Execution H) (clock : C) → IsExecution c → IsOfRun (seen first c clock)
  of_run c clock keeps = by c.end keeps
    where
      by : (e : Option End) → IsKept c e → IsKnownBy (seen first c clock) e
      by None o = record { leads = o.leads; room = o.room; going = o.going; taken = o.taken ∙ o.fired }
      by (Some e) o = record { leads = o.leads; room = o.room; closed = o.closed; taken = subst (AreAllTaken e c.history.entries) (sym o.taken) o.fired }

  -- ---- advances

  none_due : (c : Execution H) (clock : C) → IsExecution c → c.end ≡ None → NoneIsDue c.systems.items → fires c.history.entries < c.turns → HasNoneDue (seen first c clock)
  none_due c clock keeps unended none below =
      let o : IsOpenExecution c = subst (IsKept c) unended keeps in
      record { unended = unended; below = below; none_due = none_are_due c.state.program.now c.state.budget (project c.history.entries) c.time c.systems.items o.going.under_way none }

  still : (c n : Execution H) (clock clock' : C) → steps.IsStill c n → clock' ≡ clock → IsStill (seen first c clock) (seen first n clock')
  still c n clock clock' s same = (
    (λ i. seen first (s.rest i) (same i))
        ∙ (λ i. record (seen first c clock) { history = n.history; room = record { shared = (sym s.rest i).state.shared; notes = (sym s.rest i).state.notes } }),
    s.entries,
  )

  -- ---- what is next, with more memory

  module _ (c : Execution H) (clock : C) (h : History) (same : h.entries ≡ c.history.entries) where
    abbrev more : Known C H
    more = seen first (record c { history = h }) clock

    due_still : HasNoneDue (seen first c clock) → HasNoneDue more
    due_still n = record {
      unended = n.unended;
      below = subst (λ (es : List Entry). fires es < c.turns) (sym same) n.below;
      none_due = subst (λ (es : List Entry). NoneDue c.state.program.now c.state.budget (project es) c.time.waited) (sym same) n.none_due;
    }

    ready_still : IsReady (seen first c clock) → IsReady more
    ready_still r = record {
      next = due_still r.next;
      some = λ none. r.some (subst (λ (es : List Entry). untaken (open_in es) (situation c.state.program.now c.state.budget (project es)).pending ≡ []) same none);
    }

    flying_still : (k : ℕ) → IsFlying k (seen first c clock) → IsFlying k more
    flying_still k f = record {
      next = due_still f.next;
      none = subst (λ (es : List Entry). untaken (open_in es) (situation c.state.program.now c.state.budget (project es)).pending ≡ []) (sym same) f.none;
      first = subst (λ (es : List Entry). option_map (λ o. o.ticket) (slice_get (open_in es) 0) ≡ Some k) (sym same) f.first;
    }

  ready_so : (c : Execution H) (clock : C) → IsExecution c → c.end ≡ None → steps.IsReady c → IsReady (seen first c clock)
  ready_so c clock keeps unended ready =
      let o : IsOpenExecution c = subst (IsKept c) unended keeps in
      record { next = none_due c clock keeps unended ready.none_due ready.below; some = λ none. ready.some (o.at.left ∙ none) }

  flying_so : (c : Execution H) (clock : C) (k : ℕ) → IsExecution c → c.end ≡ None → steps.IsFlying k c → IsFlying k (seen first c clock)
  flying_so c clock k keeps unended flying =
      let o : IsOpenExecution c = subst (IsKept c) unended keeps in
      record {
        next = none_due c clock keeps unended flying.none_due flying.below;
        none = sym o.at.left ∙ flying.none;
        first = ap (λ (os : List Taken). option_map (λ x. x.ticket) (slice_get os 0)) (sym o.flying) ∙ flying.first;
      }

  pub advanced_so : (draw : Draw H) (moment : C → Option ℕ) (c n : Execution H) (clock clock' : C) (d : Advanced) → IsExecution c → HasAdvanced draw (moment clock) (moment clock') c n d → LeavesClock d clock clock'
      → IsPlannedAdvance draw moment (seen first c clock) (seen first n clock') d
  advanced_so draw moment c n clock clock' advanced.Selected keeps h left = planned_step draw moment first did.Selected c n clock clock' h
  advanced_so draw moment c n clock clock' advanced.Waited keeps h left = planned_step draw moment first did.Waited c n clock clock' h
  advanced_so draw moment c n clock clock' advanced.Ready keeps h left = (
    still c n clock clock' h.0 left,
    subst IsReady (λ i. seen first (sym h.0.rest i) (sym left i)) (ready_still c clock n.history h.0.entries (ready_so c clock keeps h.1 h.2)),
  )
  advanced_so draw moment c n clock clock' (advanced.Flying k) keeps h left = (
    still c n clock clock' h.0 left,
    subst (IsFlying k) (λ i. seen first (sym h.0.rest i) (sym left i)) (flying_still c clock n.history h.0.entries k (flying_so c clock k keeps h.1 h.2)),
  )
  advanced_so draw moment c n clock clock' (advanced.Ended e) keeps h left = planned_step draw moment first (did.Ended e) c n clock clock' h

  pub advanced_if : {E : Type 0} (draw : Draw H) (moment : C → Option ℕ) (r : Result Advanced E) (c n : Execution H) (clock clock' : C) → IsExecution c → IfOk r (HasAdvanced draw (moment clock) (moment clock') c n) → IfOk r (λ d. LeavesClock d clock clock')
      → IfOk r (IsPlannedAdvance draw moment (seen first c clock) (seen first n clock'))
  advanced_if draw moment (Ok d) c n clock clock' keeps h left = advanced_so draw moment c n clock clock' d keeps h left
  advanced_if draw moment (Err e) c n clock clock' keeps h left = tt

  -- ---- takes

  pub may_choose : (c : Execution H) (clock : C) → IsExecution c → IsReady (seen first c clock) → GoesOn 0 c
  may_choose c clock keeps ready = record { is_open = subst (IsKept c) ready.next.unended keeps; unended = ready.next.unended; spare = omega arith }

  pub some_left : (c : Execution H) (clock : C) → IsExecution c → IsReady (seen first c clock) → c.state.untaken.items ≢ []
  some_left c clock keeps ready none = let o : IsOpenExecution c = subst (IsKept c) ready.next.unended keeps in ready.some (sym o.at.left ∙ none)

  pub has_taken : (draw : Draw H) (c m n : Execution H) (clock : C) (choice : Choice) (o : IsOpenExecution c) → fires c.history.entries < c.turns → HasChosen draw c m choice → HasTakenAt choice.at (pair choice.path choice.job.trans) m n
      → HasTaken draw (seen first c clock) (seen first n clock) choice.job
  has_taken draw c m n clock choice o below h t =
      let p = pair choice.path choice.job.trans in
      let x : Execution H = with_memory c m in
      let open_x : IsOpenExecution x = reopened c m o h.entries h.flying in
      let below_x : fires m.history.entries < c.turns = subst (λ (es : List Entry). fires es < c.turns) (sym h.entries) below in
      let taken : HasTakenAt choice.at p x n = subst (λ (y : Execution H). HasTakenAt choice.at p y n) h.rest t in
      let job_is : choice.job ≡ legal.job_of c.state.program.now (now x) (c.tickets + 1) c.state.budget p = subst (λ (es : List Entry). choice.job ≡ legal.job_of c.state.program.now (situation c.state.program.now c.state.budget (project es)) (c.tickets + 1) c.state.budget p) (sym h.entries) h.job_is in
      let path_is : choice.path ≡ choice.job.path = sym (ap (λ (j : Job). j.path) h.job_is) in
      let ticket_is : choice.job.ticket ≡ c.tickets + 1 = ap (λ (j : Job). j.ticket) h.job_is in
      let chooser_is : n.chooser ≡ m.chooser = ap (λ (y : Execution H). y.chooser) taken.rest in
      let all : n ≡ record x { state = record c.state { untaken = n.state.untaken }; history = n.history; tickets = c.tickets + 1; flying = n.flying } = taken.rest in
      let state_is : n.state ≡ record c.state { untaken = n.state.untaken } = ap (λ (y : Execution H). y.state) all in
      let subject_is : n.state.program.now ≡ c.state.program.now = ap (λ (y : State). y.program.now) state_is in
      record {
        picked = subst (λ (k : H). Picks draw c.chooser (left_in c) (pair choice.job.path choice.job.trans) k) (sym chooser_is)
            (subst (λ (ps : List Pair). Picks draw c.chooser ps (pair choice.job.path choice.job.trans) m.chooser) o.at.left
            (subst (λ (q : Path). Picks draw c.chooser c.state.untaken.items (pair q choice.job.trans) m.chooser) path_is h.picked));
        ticket = ticket_is ∙ ap (λ (k : ℕ). k + 1) (sym o.taken);
        noted = taken.noted ∙ (λ i. h.entries i ++ take_of c.writer (sym ticket_is i) (pair (path_is i) choice.job.trans) ∷ []);
        is_open = subst (Contains (open_in n.history.entries)) (λ i. taken_as c.writer (sym ticket_is i) (pair (path_is i) choice.job.trans)) (taken_is_open x open_x below_x choice.at p h.there n taken);
        job_of = subst (λ (y : Subject × ℕ). IsJobOf y.0 y.1 n.history.entries choice.job) (λ i. (sym subject_is i, (sym state_is i).budget)) (taken_job x open_x below_x choice.at p h.there n taken choice.job job_is);
        meets = subst (λ (s : Subject). legal.IsJob s choice.job) (sym subject_is) h.meets;
        rest = (λ i. seen first (all i) clock) ∙ (λ i. record (seen first c clock) { history = n.history; chooser = sym chooser_is i; room = record { shared = (sym state_is i).shared; notes = (sym state_is i).notes } });
      }

  -- ---- commits

  pub has_committed : (c n : Execution H) (clock : C) (done : Done) (d : Committed) → steps.HasCommitted c n done d → HasCommitted (seen first c clock) (seen first n clock) done d
  has_committed c n clock done committed.Fired h = (
    h.outs,
    h.drops,
    h.fires,
    record {
      unended = h.unended;
      noted = h.noted;
      rest = (λ i. seen first (h.rest i) clock);
    },
  )
  has_committed c n clock done committed.Faulted h = (
    h.kind,
    h.is,
    h.faults,
    record {
      unended = h.unended;
      noted = h.failed.noted;
      rest = (λ i. seen first (h.failed.rest i) clock)
          ∙ (λ i. record (seen first c clock) {
            history = n.history;
            end = Some (Faulted h.kind);
            systems = (sym h.failed.rest i).systems.items;
            room = record { shared = (sym h.failed.rest i).state.shared; notes = (sym h.failed.rest i).state.notes };
          });
    },
  )
  has_committed c n clock done (committed.Late e) h = (h.0, (λ i. seen first (h.1 i) clock))

-- ---- takes, as they are kept

module _ {H : Type 0} where
  pub taken_keeps : (draw : Draw H) (c m n : Execution H) (choice : Choice) (o : IsOpenExecution c) → c.end ≡ None → fires c.history.entries < c.turns → HasChosen draw c m choice → HasTakenAt choice.at (pair choice.path choice.job.trans) m n
      → IsExecution n × (n.state.program.now ≡ c.state.program.now) × (n.end ≡ c.end)
  taken_keeps draw c m n choice o unended below h t =
      let p = pair choice.path choice.job.trans in
      let x : Execution H = with_memory c m in
      let open_x : IsOpenExecution x = reopened c m o h.entries h.flying in
      let below_x : fires m.history.entries < c.turns = subst (λ (es : List Entry). fires es < c.turns) (sym h.entries) below in
      let taken : HasTakenAt choice.at p x n = subst (λ (y : Execution H). HasTakenAt choice.at p y n) h.rest t in
      let end_is : n.end ≡ c.end = ap (λ (y : Execution H). y.end) taken.rest in (
        subst (IsKept n) (sym (end_is ∙ unended)) (taken_opens x open_x below_x choice.at p h.there n taken),
        ap (λ (y : Execution H). y.state.program.now) taken.rest,
        end_is,
      )

  -- what was picked stands where it was
  pub take_there : (draw : Draw H) (c m : Execution H) (choice : Choice) → HasChosen draw c m choice → slice_get m.state.untaken.items choice.at ≡ Some (pair choice.path choice.job.trans)
  take_there draw c m choice h = ap (λ (x : Execution H). slice_get x.state.untaken.items choice.at) h.rest ∙ h.there

-- ---- what is kept

module _ {H : Type 0} (draw : Draw H) (told after : Option ℕ) (c n : Execution H) (first faults faults' : ℕ) (keeps : IsExecution c) (later : faults ≤ faults') (before : IsCounted first c.end faults) where
  -- the execution, its program, and what is known of the clock's count
  abbrev IsKeptSo : Type 0
  IsKeptSo = IsExecution n × (n.state.program.now ≡ c.state.program.now) × IsCounted first n.end faults'

  by_step : (d : Stepped) → HasStepped draw told after c n d → IsCause c.end faults faults' d → IsKeptSo
  by_step d h cause =
      let r : Result Stepped ℕ = Ok d in
      let kept = still_kept draw told after r c n h tt in
      (kept.0, kept.1, still_counted draw told after r c n first faults faults' keeps later before h tt cause)

  by_still : steps.IsStill c n → IsKeptSo
  by_still s = (
    subst IsExecution (sym s.rest) (kept_so c n.history s.entries c.end keeps),
    ap (λ (x : Execution H). x.state.program.now) s.rest,
    record { later = omega (arith, before.later, later); rose = λ ended. rose_still first faults faults' later (before.rose (sym (ap (λ (x : Execution H). x.end) s.rest) ∙ ended)) },
  )

  by_advance : (d : Advanced) → HasAdvanced draw told after c n d → IsCauseOf c.end faults faults' d → IsKeptSo
  by_advance advanced.Selected h cause = by_step did.Selected h (λ is. absurd (cc))
  by_advance advanced.Waited h cause = by_step did.Waited h (λ is. absurd (cc))
  by_advance advanced.Ready h cause = by_still h.0
  by_advance (advanced.Flying k) h cause = by_still h.0
  by_advance (advanced.Ended e) h cause = by_step (did.Ended e) h (λ is. cause (let same : e ≡ Clock = cc in ap advanced.Ended same))

  pub advance_keeps : {E : Type 0} (r : Result Advanced E) → IfOk r (HasAdvanced draw told after c n) → OnErr r (IsUnchanged c n) → IfOk r (IsCauseOf c.end faults faults') → IsKeptSo
  advance_keeps (Ok d) h u cause = by_advance d h cause
  advance_keeps (Err e) h u cause =
      let r : Result Stepped ℕ = Err 0 in
      let kept = still_kept draw told after r c n tt u in
      (kept.0, kept.1, still_counted draw told after r c n first faults faults' keeps later before tt u tt)
