-- A step that fires: a firing is picked, computed, taken and committed.
use Rattle.std.proofs.Common.{◌≡◌, ℕ, ◌+◌, ◌-◌, ◌*◌, ◌<◌, ◌≤◌, Bool, true, false, not, cond, filter, List, [], ◌∷◌, ◌++◌, length, Option, Some, None, refl, sym, ap, subst, ◌∙◌, arith}
use Rattle.std.specs.Prelude.{Result, Ok, Err, IfOk, map as each, slice_get, option_map, nat_eq, count_by, if◌then◌else◌, Contains}
use Rattle.std.proofs.lemmas.List.{length-map}
use Rattle.estelle_tree.specs.Timers.{pair}
use Rattle.estelle_tree.specs.declared.transition.Pair.{Pair}
use Rattle.estelle_model.specs.declared.event.Event.{Event}
use Rattle.estelle_model.specs.declared.event.Event.TheVariants.{Select, Fire, Fault}
use Rattle.estelle_model.specs.declared.event.End.{End}
use Rattle.estelle_model.specs.declared.event.End.TheVariants.{Clock, Turns, Faulted}
use Rattle.estelle_model.specs.declared.event.End.TheVariants as ends
use Rattle.estelle_model.specs.declared.job.Job.{Job}
use Rattle.estelle_model.specs.declared.job.Done.{Done}
use Rattle.estelle_model.specs.Jobs.{Answers}
use Rattle.estelle_model.specs.Subject.{Subject}
use Rattle.estelle_model.specs.Runs.{FiringFaults, situation}
use Rattle.estelle_model.specs.Choosers.{Draw, Picks}
use Rattle.estelle_model.specs.Schedule.{FiringIsPlanned}
use Rattle.estelle_model_legality.specs.Jobs as legal
use Rattle.effect_log.specs.Rooms.{HasRoomFor}
use Rattle.situation_state.specs.declared.state.State.{State}
use Rattle.run_history.specs.declared.entry.Entry.{Entry}
use Rattle.run_history.specs.declared.entry.Taken.{Taken}
use Rattle.run_history.specs.Histories.{project, fires}
use Rattle.run_history.specs.Tickets.{settled_by, IsJobOf}
use Rattle.run_history.specs.OpenTickets.{open_in, untaken}
use Rattle.run_history.proofs.Entries.{fires_more}
use Rattle.run_history.proofs.OpenTickets.{open_more}
use Rattle.run_history.proofs.Untaken.{itself}
use Rattle.situation_steps.specs.declared.systems.System.{System}
use Rattle.situation_steps.specs.declared.systems.Time.{Time}
use Rattle.situation_steps.specs.Systems.{after_firing}
use Rattle.situation_steps.proofs.Due.{none_are_due}
use Rattle.situation.specs.declared.limits.Stepped.{Stepped}
use Rattle.situation.specs.declared.limits.Stepped.TheVariants as did
use Rattle.situation.specs.declared.limits.Limits.{Limits}
use Rattle.situation.specs.declared.limits.Committed.{Committed}
use Rattle.situation.specs.declared.limits.Committed.TheVariants as committed
use Rattle.situation.specs.declared.execution.Execution.{Execution}
use Rattle.situation.specs.Planned.{kept_of, StepsTo, a_firing, a_fault}
use Rattle.situation.specs.declared.tickets.Choice.{Choice}
use Rattle.situation.specs.Runs.{noted, ending, take_of, taken_as, ended_at, end_at}
use Rattle.situation.specs.Worlds.{IsOpenExecution, IsKept, IsExecution, IsUnchanged, HasStepped, Adds, limits_of, now, work, left_to_do}
use Rattle.situation.specs.Steps.{IsReady, IsFlying, HasChosen, HasReserved, HasTakenAt, MayCommit, HasMade, HasFaulted, HasCommitted, IsInTime, IsStepOf, IsCause}
use Rattle.situation.proofs.Adding.{adds_on}
use Rattle.situation.proofs.Less.{left_open, less_fired}
use Rattle.situation.proofs.Steps.{project_push, project_end, project_take}
use Rattle.situation.proofs.OpenTickets.{taken_open, ended_open}
use Rattle.situation.proofs.Untaken.{all_untaken}
use Rattle.situation.proofs.Kept.{with_memory, reopened, reserved_open, unchanged_memory}
use Rattle.situation.proofs.Chosen.{taken_opens, taken_job, taken_is_open}

-- an end takes nothing out of the events
pub project_ended : (by turns : ℕ) (es : List Entry) → project (ended_at by turns es) ≡ project es
project_ended by turns es = one (nat_eq (fires es) turns)
  where
    one : (x : Bool) → project (cond x (es ++ ending by Turns ∷ []) es) ≡ project es
    one true = project_end es by Turns
    one false = refl

-- no firing ends a run by the clock
not_clock : (turns : ℕ) (o : Option End) (es : List Entry) → o ≡ None → end_at turns o es ≡ Some Clock → ⊥
not_clock turns o es none = one (nat_eq (fires es) turns)
  where
    one : (x : Bool) → cond x (Some Turns) o ≡ Some Clock → ⊥
    one true e = cc
    one false e = let wrong : None ≡ Some Clock = sym none ∙ e in cc

less_ended : (n x y : ℕ) → x ≡ 0 → y ≡ 1 + n → x < y
less_ended n x y x_is y_is = omega (arith, x_is, y_is)

module _ {H : Type 0} where
  -- a firing of the run was taken, and nothing else has happened
  pub record IsTakenFrom (c m : Execution H) (p : Pair) : Type 0 where
    pub program : m.state.program ≡ c.state.program
    pub limits : limits_of m ≡ limits_of c
    pub writer : m.writer ≡ c.writer
    pub systems : m.systems.items ≡ c.systems.items
    pub time : m.time ≡ c.time
    pub end : m.end ≡ c.end
    pub entries : m.history.entries ≡ c.history.entries ++ take_of c.writer (c.tickets + 1) p ∷ []

  module _ (draw : Draw H) (c : Execution H) (o : IsOpenExecution c) (unended : c.end ≡ None) (ready : IsReady c) (none : open_in c.history.entries ≡ []) (p : Pair) (chooser : H) (picked : Picks draw c.chooser c.state.untaken.items p chooser)
      (m : Execution H) (from : IsTakenFrom c m p) (n : Execution H) (done : Done) (done_is : pair done.path done.trans ≡ p) (same_chooser : n.chooser ≡ chooser) where
    abbrev s : Subject
    s = c.state.program.now

    abbrev b : ℕ
    b = c.state.budget

    abbrev t : ℕ
    t = c.turns

    abbrev w : ℕ
    w = c.writer

    abbrev es : List Entry
    es = c.history.entries

    abbrev with_take : List Entry
    with_take = es ++ take_of w (c.tickets + 1) p ∷ []

    same_events : project with_take ≡ project es
    same_events = project_take es w (c.tickets + 1) p

    -- of all that is pending the chooser picked it
    planned : (known : Option ℕ) → FiringIsPlanned draw s b (project es) (kept_of c.chooser c.time known) p.path p.trans n.chooser
    planned known = record {
      none_due = none_are_due s b (project es) c.time c.systems.items o.going.under_way ready.none_due;
      picked = subst (λ (k : H). Picks draw c.chooser (now c).pending p k) (sym same_chooser) (subst (λ (ps : List Pair). Picks draw c.chooser ps p chooser) (o.at.left ∙ ap (λ (os : List Taken). untaken os (now c).pending) none ∙ all_untaken (now c).pending) picked);
    }

    limits_are : (x : Limits) → x ≡ limits_of m → x ≡ limits_of c
    limits_are x same = same ∙ from.limits

    start : left_to_do c ≡ work t (fires es) c.systems.items c.time.may_wait None
    start = left_open c unended

    abbrev all_work : ℕ
    all_work = (t - fires es) * (2 * length c.systems.items + 3) + ((if c.time.may_wait then length c.systems.items + 1 else 0) + count_by (λ (x : System). x.awaits) c.systems.items)

    -- it was made
    pub fired_step : (moment : Option ℕ) → HasMade m n done → HasStepped draw moment moment c n did.Fired
    fired_step moment h =
        let fire_event : Event = Fire p.path p.trans h.outs h.drops in
        let its : List Entry = with_take ++ noted w fire_event ∷ [] in
        let turns_is : m.turns ≡ t = ap (λ (l : Limits). l.turns) from.limits in
        let mid : m.history.entries ++ noted m.writer (Fire done.path done.trans h.outs h.drops) ∷ [] ≡ its = (λ i. from.entries i ++ noted (from.writer i) (Fire (done_is i).path (done_is i).trans h.outs h.drops) ∷ []) in
        let entries_are : n.history.entries ≡ ended_at w t its = h.noted ∙ (λ i. ended_at (from.writer i) (turns_is i) (mid i)) in
        let end_is : n.end ≡ end_at t c.end its = ap (λ (x : Execution H). x.end) h.rest ∙ (λ i. end_at (turns_is i) (from.end i) (mid i)) in
        let program : n.state.program ≡ c.state.program = ap (λ (x : Execution H). x.state.program) h.rest ∙ from.program in
        let limits : limits_of n ≡ limits_of c = limits_are (limits_of n) (ap (λ (x : Execution H). limits_of x) h.rest) in
        let writer : n.writer ≡ w = ap (λ (x : Execution H). x.writer) h.rest ∙ from.writer in
        let time : n.time ≡ record c.time { may_wait = true } = ap (λ (x : Execution H). x.time) h.rest ∙ ap (λ (x : Time). record x { may_wait = true }) from.time in
        let systems : n.systems.items ≡ each (after_firing p.path h.arrivals) c.systems.items = h.systems ∙ (λ i. each (after_firing (done_is i).path h.arrivals) (from.systems i)) in
        let events : project n.history.entries ≡ project es ++ fire_event ∷ [] = ap project entries_are ∙ project_ended w t its ∙ project_push with_take (noted w fire_event) ∙ ap (λ (xs : List Event). xs ++ fire_event ∷ []) same_events in
        let count : fires its ≡ fires es + 1 = omega (arith, fires_more with_take (noted w fire_event), fires_more es (take_of w (c.tickets + 1) p)) in
        let many : length n.systems.items ≡ length c.systems.items = ap length systems ∙ length-map c.systems.items (after_firing p.path h.arrivals) in
        record {
          keeps = h.keeps;
          goes_on = record {
            program = program;
            limits = limits;
            writer = writer;
            planned = λ known told. record {
              known = known;
              told = told;
              steps = subst (λ (q : List Event × Time). StepsTo draw s b t (project es) (kept_of c.chooser c.time known) did.Fired q.0 (kept_of n.chooser q.1 known)) (λ i. (sym events i, sym time i))
                  (a_firing p.path p.trans h.outs h.drops n.chooser ready.below (planned known));
            };
          };
          leaves = less (nat_eq (fires its) t) its (sym limits) time count many entries_are end_is;
          adds = adds_on w t c.end es n.history.entries did.Fired unended (c.tickets + 1, p, h.outs, h.drops, entries_are);
          waits = ap (λ (x : Time). x.waited) time;
          ends = λ clocked. absurd (not_clock t c.end its unended (sym end_is ∙ clocked));
        }
      where
        less : (x : Bool) (its : List Entry) → limits_of c ≡ limits_of n → n.time ≡ record c.time { may_wait = true } → fires its ≡ fires es + 1 → length n.systems.items ≡ length c.systems.items
            → n.history.entries ≡ cond x (its ++ ending w Turns ∷ []) its → n.end ≡ cond x (Some Turns) c.end → left_to_do n < left_to_do c
        less true its limits time count many entries_are end_is =
            less_ended all_work (left_to_do n) (left_to_do c) (ap (work n.turns (fires n.history.entries) n.systems.items n.time.may_wait) end_is) start
        less false its limits time count many entries_are end_is =
            less_fired (fires n.history.entries) (fires es) t c.time.may_wait c.systems.items n.systems.items (left_to_do n) (left_to_do c) (ap fires entries_are ∙ count) ready.below many
            ((λ i. work (sym limits i).turns (fires n.history.entries) n.systems.items (time i).may_wait (end_is i)) ∙ ap (work t (fires n.history.entries) n.systems.items true) unended) start

    -- it faulted
    pub failed_step : (moment : Option ℕ) → HasFaulted m n done → HasStepped draw moment moment c n did.Faulted
    failed_step moment h =
        let fault_event : Event = Fault p.path p.trans h.kind in
        let its : List Entry = (with_take ++ noted w fault_event ∷ []) ++ ending w (Faulted h.kind) ∷ [] in
        let entries_are : n.history.entries ≡ its = h.failed.noted ∙ (λ i. (from.entries i ++ noted (from.writer i) (Fault (done_is i).path (done_is i).trans h.kind) ∷ []) ++ ending (from.writer i) (Faulted h.kind) ∷ []) in
        let end_is : n.end ≡ Some (Faulted h.kind) = ap (λ (x : Execution H). x.end) h.failed.rest in
        let program : n.state.program ≡ c.state.program = ap (λ (x : Execution H). x.state.program) h.failed.rest ∙ from.program in
        let limits : limits_of n ≡ limits_of c = limits_are (limits_of n) (ap (λ (x : Execution H). limits_of x) h.failed.rest) in
        let writer : n.writer ≡ w = ap (λ (x : Execution H). x.writer) h.failed.rest ∙ from.writer in
        let time : n.time ≡ c.time = ap (λ (x : Execution H). x.time) h.failed.rest ∙ from.time in
        let events : project n.history.entries ≡ project es ++ fault_event ∷ [] = ap project entries_are ∙ project_end (with_take ++ noted w fault_event ∷ []) w (Faulted h.kind) ∙ project_push with_take (noted w fault_event) ∙ ap (λ (xs : List Event). xs ++ fault_event ∷ []) same_events in
        let same : (m.state.program.now, m.state.budget, project m.history.entries) ≡ (s, b, project es) = (λ i. ((from.program i).now, (from.limits i).budget, (ap project from.entries ∙ same_events) i)) in
        let faults : FiringFaults s b (now c) p.path p.trans h.kind =
        subst (λ (q : Pair). FiringFaults s b (now c) q.path q.trans h.kind) done_is
        (subst (λ (q : Subject × ℕ × List Event). FiringFaults q.0 q.1 (situation q.0 q.1 q.2) done.path done.trans h.kind) same h.faults) in
        record {
          keeps = h.keeps;
          goes_on = record {
            program = program;
            limits = limits;
            writer = writer;
            planned = λ known told. record {
              known = known;
              told = told;
              steps = subst (λ (q : List Event × Time). StepsTo draw s b t (project es) (kept_of c.chooser c.time known) did.Faulted q.0 (kept_of n.chooser q.1 known)) (λ i. (sym events i, sym time i))
                  (a_fault p.path p.trans h.kind n.chooser ready.below (planned known) faults);
            };
          };
          leaves = less_ended all_work (left_to_do n) (left_to_do c) (ap (work n.turns (fires n.history.entries) n.systems.items n.time.may_wait) end_is) start;
          adds = adds_on w t c.end es n.history.entries did.Faulted unended (c.tickets + 1, p, h.kind, entries_are);
          waits = ap (λ (x : Time). x.waited) time;
          ends = λ clocked. let wrong : Some (Faulted h.kind) ≡ Some Clock = sym end_is ∙ clocked in absurd (cc);
        }

-- ---- what was picked, and is not taken yet

module _ {H : Type 0} (draw : Draw H) (c m1 : Execution H) (o : IsOpenExecution c) (unended : c.end ≡ None) (choice : Choice) (chosen : HasChosen draw c m1 choice) where
  -- where memory is wanting, the run is as before
  pub chosen_unchanged : IsUnchanged c m1
  chosen_unchanged = subst (IsUnchanged c) (sym chosen.rest) (unchanged_memory c m1 o unended chosen.entries chosen.flying)

  module _ (m2 : Execution H) (reserved : HasReserved m1 m2) where
    pub there_then : slice_get m2.state.untaken.items choice.at ≡ Some (pair choice.path choice.job.trans)
    there_then = ap (λ (x : Execution H). slice_get x.state.untaken.items choice.at) reserved.rest ∙ ap (λ (x : Execution H). slice_get x.state.untaken.items choice.at) chosen.rest ∙ chosen.there

    pub reserved_unchanged : IsUnchanged c m2
    reserved_unchanged =
        let grown : HasReserved (with_memory c m1) m2 = subst (λ (x : Execution H). HasReserved x m2) chosen.rest reserved in
        let opened : IsOpenExecution m2 = reserved_open (with_memory c m1) m2 (reopened c m1 o chosen.entries chosen.flying) grown in
        let end_is : m2.end ≡ c.end = ap (λ (x : Execution H). x.end) grown.rest in
        record {
          keeps = subst (IsKept m2) (sym (end_is ∙ unended)) opened;
          program = ap (λ (x : Execution H). x.state.program) grown.rest;
          limits = ap (λ (x : Execution H). limits_of x) grown.rest;
          writer = ap (λ (x : Execution H). x.writer) grown.rest;
          entries = grown.entries ∙ chosen.entries;
          time = ap (λ (x : Execution H). x.time) grown.rest;
          systems = ap (λ (x : Execution H). x.systems.items) grown.rest;
        }

-- ---- what was picked, and computed with room for it, is taken, and may be committed

module _ {H : Type 0} (draw : Draw H) (c m1 m2 m3 : Execution H) (o : IsOpenExecution c) (below : fires c.history.entries < c.turns) (choice : Choice) (chosen : HasChosen draw c m1 choice) (reserved : HasReserved m1 m2)
    (taken : HasTakenAt choice.at (pair choice.path choice.job.trans) m2 m3) where
  abbrev its : Pair
  its = pair choice.path choice.job.trans

  abbrev program : Subject
  program = c.state.program.now

  abbrev units : ℕ
  units = c.state.budget

  -- the execution with more memory
  abbrev more : Execution H
  more = record (with_memory c m1) { state = record c.state { shared = m2.state.shared; notes = m2.state.notes }; history = m2.history }

  reserved_then : HasReserved (with_memory c m1) m2
  reserved_then = subst (λ (x : Execution H). HasReserved x m2) chosen.rest reserved

  more_open : IsOpenExecution more
  more_open = subst IsOpenExecution reserved_then.rest (reserved_open (with_memory c m1) m2 (reopened c m1 o chosen.entries chosen.flying) reserved_then)

  entries_are : m2.history.entries ≡ c.history.entries
  entries_are = reserved_then.entries ∙ chosen.entries

  taken_then : HasTakenAt choice.at its more m3
  taken_then = subst (λ (x : Execution H). HasTakenAt choice.at its x m3) reserved_then.rest taken

  below_then : fires m2.history.entries < c.turns
  below_then = subst (λ (es : List Entry). fires es < c.turns) (sym entries_are) below

  job_then : choice.job ≡ legal.job_of program (now more) (c.tickets + 1) units its
  job_then = subst (λ (es : List Entry). choice.job ≡ legal.job_of program (situation program units (project es)) (c.tickets + 1) units its) (sym entries_are) chosen.job_is

  pub opened_then : IsOpenExecution m3
  opened_then = taken_opens more more_open below_then choice.at its chosen.there m3 taken_then

  pub kept_then : c.end ≡ None → IsExecution m3
  kept_then unended = let end_is : m3.end ≡ c.end = ap (λ (x : Execution H). x.end) taken_then.rest in subst (IsKept m3) (sym (end_is ∙ unended)) opened_then

  -- no end comes before its commit
  pub in_time : c.end ≡ None → (n : Execution H) (done : Done) (d : Committed) → HasCommitted m3 n done d → IsInTime d
  in_time unended n done committed.Fired h = tt
  in_time unended n done committed.Faulted h = tt
  in_time unended n done (committed.Late e) h = let wrong : None ≡ Some e = sym unended ∙ sym (ap (λ (x : Execution H). x.end) taken_then.rest) ∙ h.0 in absurd (cc)

  pub from_then : IsTakenFrom c m3 its
  from_then = record {
    program = ap (λ (x : Execution H). x.state.program) taken_then.rest;
    limits = ap (λ (x : Execution H). limits_of x) taken_then.rest;
    writer = ap (λ (x : Execution H). x.writer) taken_then.rest;
    systems = ap (λ (x : Execution H). x.systems.items) taken_then.rest;
    time = ap (λ (x : Execution H). x.time) taken_then.rest;
    end = ap (λ (x : Execution H). x.end) taken_then.rest;
    entries = taken_then.noted ∙ ap (λ (es : List Entry). es ++ take_of c.writer (c.tickets + 1) its ∷ []) entries_are;
  }

  -- the chooser is as the pick left it
  pub chooser_then : m3.chooser ≡ m1.chooser
  chooser_then = ap (λ (x : Execution H). x.chooser) taken_then.rest

  module _ (done : Done) (answers : Answers program choice.job done) (room : HasRoomFor done.outcome m2.state.shared m2.state.notes) (spare : 3 ≤ m2.history.spare) where
    pub done_is : ◌≡◌ {A = Pair} (pair done.path done.trans) its
    done_is = (λ i. record { path = (answers.path ∙ ap (λ (j : Job). j.path) chosen.job_is) i; trans = answers.trans i })

    ticket_is : done.ticket ≡ c.tickets + 1
    ticket_is = answers.ticket ∙ ap (λ (j : Job). j.ticket) chosen.job_is

    pub may_commit : MayCommit m3 done
    may_commit =
        let subject : m3.state.program.now ≡ program = ap (λ (x : Execution H). x.state.program.now) taken_then.rest in
        let budget : m3.state.budget ≡ units = ap (λ (x : Execution H). x.state.budget) taken_then.rest in
        let state : m3.state ≡ record m2.state { untaken = m3.state.untaken } = ap (λ (x : Execution H). x.state) taken.rest in
        record {
          is_open = subst (Contains (open_in m3.history.entries)) (λ i. taken_as (sym from_then.writer i) (sym ticket_is i) (sym done_is i)) (taken_is_open more more_open below_then choice.at its chosen.there m3 taken_then);
          job = choice.job;
          job_of = subst (λ (q : Subject × ℕ). IsJobOf q.0 q.1 m3.history.entries choice.job) (λ i. (sym subject i, sym budget i)) (taken_job more more_open below_then choice.at its chosen.there m3 taken_then choice.job job_then);
          answers = subst (λ (x : Subject). Answers x choice.job done) (sym subject) answers;
          stores = subst (λ (x : State). HasRoomFor done.outcome x.shared x.notes) (sym state) room;
          spare = omega (arith, spare, taken.spare);
        }

-- ---- the step

-- where nothing was under way, nothing is once what was taken is settled
settled_then : (es : List Entry) (by k : ℕ) (p : Pair) (e : Event) → open_in es ≡ [] → settled_by p.path p.trans e ≡ true → open_in ((es ++ take_of by k p ∷ []) ++ noted by e ∷ []) ≡ []
settled_then es by k p e none settles =
    open_more (es ++ take_of by k p ∷ []) (noted by e)
    ∙ ap (λ (os : List Taken). filter (λ o. not (settled_by o.path o.trans e)) os) (taken_open es by k p ∙ ap (λ (os : List Taken). os ++ taken_as by k p ∷ []) none)
    ∙ ap (λ x. cond (not x) (taken_as by k p ∷ []) []) settles

ended_none : (by turns : ℕ) (es : List Entry) → open_in es ≡ [] → open_in (ended_at by turns es) ≡ []
ended_none by turns es none = one (nat_eq (fires es) turns)
  where
    one : (x : Bool) → open_in (cond x (es ++ ending by Turns ∷ []) es) ≡ []
    one true = ended_open es by Turns ∙ none
    one false = none

module _ {H : Type 0} (draw : Draw H) (c : Execution H) (o : IsOpenExecution c) (unended : c.end ≡ None) (ready : IsReady c) (none : open_in c.history.entries ≡ []) (m1 m2 m3 : Execution H) (choice : Choice) (chosen : HasChosen draw c m1 choice)
    (reserved : HasReserved m1 m2) (taken : HasTakenAt choice.at (pair choice.path choice.job.trans) m2 m3) (done : Done) (answers : Answers c.state.program.now choice.job done)
    (room : HasRoomFor done.outcome m2.state.shared m2.state.notes) (spare : 3 ≤ m2.history.spare) (n : Execution H) where
  abbrev from : IsTakenFrom c m3 (pair choice.path choice.job.trans)
  from = from_then draw c m1 m2 m3 o ready.below choice chosen reserved taken

  abbrev same_pair : ◌≡◌ {A = Pair} (pair done.path done.trans) (pair choice.path choice.job.trans)
  same_pair = done_is draw c m1 m2 m3 o ready.below choice chosen reserved taken done answers room spare

  same_chooser : (x : H) → x ≡ m3.chooser → x ≡ m1.chooser
  same_chooser x is = is ∙ chooser_then draw c m1 m2 m3 o ready.below choice chosen reserved taken

  pub fire_steps : (moment : Option ℕ) (d : Committed) (did : Stepped) → HasCommitted m3 n done d → IsStepOf d did → HasStepped draw moment moment c n did
  fire_steps moment committed.Fired did h is = subst (HasStepped draw moment moment c n) (sym is)
      (fired_step draw c o unended ready none (pair choice.path choice.job.trans) m1.chooser chosen.picked m3 from n done same_pair (same_chooser n.chooser (ap (λ (x : Execution H). x.chooser) h.rest)) moment h)
  fire_steps moment committed.Faulted did h is = subst (HasStepped draw moment moment c n) (sym is)
      (failed_step draw c o unended ready none (pair choice.path choice.job.trans) m1.chooser chosen.picked m3 from n done same_pair (same_chooser n.chooser (ap (λ (x : Execution H). x.chooser) h.failed.rest)) moment h)
  fire_steps moment (committed.Late e) did h is = absurd is

  -- and nothing is under way then
  pub fire_settles : (d : Committed) (did : Stepped) → HasCommitted m3 n done d → IsStepOf d did → open_in n.history.entries ≡ []
  fire_settles committed.Fired did h is =
      let e : Event = Fire choice.path choice.job.trans h.outs h.drops in
      let entries : n.history.entries ≡ ended_at m3.writer m3.turns ((c.history.entries ++ take_of c.writer (c.tickets + 1) (pair choice.path choice.job.trans) ∷ []) ++ noted c.writer e ∷ []) =
      h.noted ∙ (λ i. ended_at m3.writer m3.turns (from.entries i ++ noted (from.writer i) (Fire (same_pair i).path (same_pair i).trans h.outs h.drops) ∷ [])) in
      ap open_in entries ∙ ended_none m3.writer m3.turns ((c.history.entries ++ take_of c.writer (c.tickets + 1) (pair choice.path choice.job.trans) ∷ []) ++ noted c.writer e ∷ [])
      (settled_then c.history.entries c.writer (c.tickets + 1) (pair choice.path choice.job.trans) e none (itself (pair choice.path choice.job.trans)))
  fire_settles committed.Faulted did h is =
      let e : Event = Fault choice.path choice.job.trans h.kind in
      let entries : n.history.entries ≡ ((c.history.entries ++ take_of c.writer (c.tickets + 1) (pair choice.path choice.job.trans) ∷ []) ++ noted c.writer e ∷ []) ++ ending m3.writer (Faulted h.kind) ∷ [] =
      h.failed.noted ∙ (λ i. (from.entries i ++ noted (from.writer i) (Fault (same_pair i).path (same_pair i).trans h.kind) ∷ []) ++ ending m3.writer (Faulted h.kind) ∷ []) in
      ap open_in entries ∙ ended_open ((c.history.entries ++ take_of c.writer (c.tickets + 1) (pair choice.path choice.job.trans) ∷ []) ++ noted c.writer e ∷ []) m3.writer (Faulted h.kind)
      ∙ settled_then c.history.entries c.writer (c.tickets + 1) (pair choice.path choice.job.trans) e none (itself (pair choice.path choice.job.trans))
  fire_settles (committed.Late e) did h is = absurd is

-- what an advance leaves of that, where it is a step
pub advance_settles : (by turns : ℕ) (o : Option End) (es after : List Entry) (d : Stepped) → (d ≡ did.Fired → ⊥) → (d ≡ did.Faulted → ⊥) → open_in es ≡ [] → Adds by turns o es after d → open_in after ≡ []
advance_settles by turns (Some e) es after d fired faulted none h = ap open_in h.1 ∙ none
advance_settles by turns None es after did.Selected fired faulted none h =
    ap open_in h.3 ∙ open_more es (noted by (Select h.0 h.1 h.2)) ∙ ap (λ (os : List Taken). filter (λ o. not (settled_by o.path o.trans (Select h.0 h.1 h.2))) os) none
advance_settles by turns None es after did.Waited fired faulted none h = ap open_in h ∙ none
advance_settles by turns None es after did.Fired fired faulted none h = absurd (fired refl)
advance_settles by turns None es after did.Faulted fired faulted none h = absurd (faulted refl)
advance_settles by turns None es after (did.Ended ends.Dead) fired faulted none h = ap open_in h ∙ ended_open es by ends.Dead ∙ none
advance_settles by turns None es after (did.Ended ends.Turns) fired faulted none h = ap open_in h ∙ ended_open es by ends.Turns ∙ none
advance_settles by turns None es after (did.Ended ends.Clock) fired faulted none h = ap open_in h ∙ ended_open es by ends.Clock ∙ none
advance_settles by turns None es after (did.Ended (ends.Faulted kind)) fired faulted none h =
    ap open_in h.2 ∙ ended_open (es ++ noted by (Fault h.0 h.1 kind) ∷ []) by (ends.Faulted kind) ∙ open_more es (noted by (Fault h.0 h.1 kind))
    ∙ ap (λ (os : List Taken). filter (λ o. not (settled_by o.path o.trans (Fault h.0 h.1 kind))) os) none

module _ {H : Type 0} where
  pub stepped_settles : (draw : Draw H) (moment moment' : Option ℕ) (c n : Execution H) (d : Stepped) → (d ≡ did.Fired → ⊥) → (d ≡ did.Faulted → ⊥) → open_in c.history.entries ≡ [] → HasStepped draw moment moment' c n d → open_in n.history.entries ≡ []
  stepped_settles draw moment moment' c n d fired faulted none h = advance_settles c.writer c.turns c.end c.history.entries n.history.entries d fired faulted none h.adds

  -- where nothing is under way, nothing is found to be
  pub never_flying : (c : Execution H) (k : ℕ) → IsExecution c → c.end ≡ None → open_in c.history.entries ≡ [] → IsFlying k c → ⊥
  never_flying c k keeps unended none f =
      let o : IsOpenExecution c = subst (IsKept c) unended keeps in
      let wrong : None ≡ Some k = sym (ap (λ (os : List Taken). option_map (λ x. x.ticket) (slice_get os 0)) (o.flying ∙ none)) ∙ f.first in
      absurd (cc)

-- a step that commits is no end by the clock
pub unclocked : (d : Committed) (s : Stepped) → IsStepOf d s → s ≡ did.Ended Clock → ⊥
unclocked committed.Fired s is e = let wrong : did.Fired ≡ did.Ended Clock = sym is ∙ e in absurd (cc)
unclocked committed.Faulted s is e = let wrong : did.Faulted ≡ did.Ended Clock = sym is ∙ e in absurd (cc)
unclocked (committed.Late f) s is e = is

-- so nothing is to be told of the clock
pub no_cause : {E : Type 0} (r : Result Stepped E) (before : Option End) (faults faults' : ℕ) → IfOk r (λ s. s ≡ did.Ended Clock → ⊥) → IfOk r (IsCause before faults faults')
no_cause (Ok s) before faults faults' h = λ e. absurd (h e)
no_cause (Err e) before faults faults' h = tt
