-- What a commit comes to: the firing as it is in the situation now, or its fault.
use Rattle.std.proofs.Common.{◌≡◌, ℕ, ◌+◌, ◌^◌, ◌<◌, ◌≤◌, Bool, true, false, cond, List, [], ◌∷◌, ◌++◌, Some, None, refl, sym, ap, subst, ◌∙◌, ⊎_elim, inr, arith, length, get_or}
use Rattle.std.specs.Prelude.{Contains, AllPairs, nat_eq, slice_get}
use Rattle.std.specs.List.{remove}
use Rattle.std.specs.FinMap as map
use Rattle.std.proofs.lemmas.Bool.{cases_lt}
use Rattle.std.proofs.lemmas.Bool.Decides.{nat_tests}
use Rattle.std.proofs.lemmas.Option.{get_or_from_slice_get, slice_get_within, slice_get_read}
use Rattle.pascal_values.specs.declared.fault.Fault as fault
use Rattle.estelle_tree.specs.declared.transition.Pair.{Pair}
use Rattle.estelle_tree.specs.Timers.{pair}
use Rattle.estelle_model.specs.declared.event.Event.{Event}
use Rattle.estelle_model.specs.declared.event.Event.TheVariants.{Fire}
use Rattle.estelle_model.specs.declared.event.End.TheVariants.{Turns, Faulted}
use Rattle.estelle_model.specs.declared.effect.Effect.{Effect}
use Rattle.estelle_model.specs.declared.image.Image.{Image}
use Rattle.estelle_model.specs.declared.job.Done.{Done}
use Rattle.estelle_model.specs.declared.job.Outcome.{Outcome}
use Rattle.estelle_model.specs.declared.job.Outcome.TheVariants as outcome
use Rattle.estelle_model.specs.Subject.{Subject}
use Rattle.estelle_model.specs.Situation.{Situation, Acting}
use Rattle.estelle_model.specs.Runs.{FiringFaults, situation, without}
use Rattle.estelle_model_apart.specs.Answers.{AnswersAsOf}
use Rattle.effect_log.specs.Putting.{IsRan, log_of, after_put}
use Rattle.effect_log.specs.Rooms.{outputs_in}
use Rattle.situation_state.specs.At.{IsAt}
use Rattle.run_history.specs.declared.entry.Entry.{Entry}
use Rattle.run_history.specs.declared.entry.Taken.{Taken}
use Rattle.run_history.specs.Histories.{History, project, fires}
use Rattle.run_history.specs.Tickets.{tickets}
use Rattle.run_history.specs.OpenTickets.{open_in, untaken}
use Rattle.run_history.proofs.OpenTickets.{open_rise, tickets_same}
use Rattle.situation_steps.specs.declared.systems.Time.{Time}
use Rattle.situation_steps.proofs.Ends.{turns_end}
use Rattle.situation_images.specs.Putting.{arrivals_of}
use Rattle.situation.specs.declared.limits.Committed.{Committed}
use Rattle.situation.specs.declared.execution.Execution.{Execution}
use Rattle.situation.specs.Runs.{noted, ending, taken_as, IsGoing, IsClosed, IsJobFor}
use Rattle.situation.specs.Worlds.{IsOpenExecution, IsEndedExecution, IsKept, IsExecution, now, left_in}
use Rattle.situation.specs.Steps.{NoneHas, IsTicketAt, IsUnderTicket, MayCommit, MaySettle, HasFired, HasFailed, SettledSo, HasSettled, HasMade, HasFaulted, HasCommitted}
use Rattle.situation.proofs.Steps.{project_end, fires_same, fault_situation, fault_fires, fault_tickets, ended_closes}
use Rattle.situation.proofs.OpenTickets.{one_fewer, ended_open}
use Rattle.situation.proofs.Flying.{ticket_answers}
use Rattle.situation.proofs.Kept.{own}
use Rattle.situation.proofs.Ended.{MayEnd, ends_so}
use Rattle.situation.proofs.MoreRoom.{kept_so}
use Rattle.situation.proofs.Firings.{answers_in, failing, under_way_pending, failed_closes, failed_open, fired_so, fired_situation, fired_going, fired_open, fired_left, fired_numbers, count_is}

-- ---- the place of a ticket

-- of tickets that rise one with this number is the one
pub one_of : (os : List Taken) → AllPairs (λ (a b : Taken). a.ticket < b.ticket) os → (at : ℕ) (it x : Taken) → slice_get os at ≡ Some it → Contains os x → it.ticket ≡ x.ticket → it ≡ x
one_of os rise at it x there here same =
    ⊎_elim
    (λ (less : at < here.0). absurd (let lower = rise at here.0 x less here.1 in omega (arith, lower, ap (λ (o : Taken). o.ticket) at_it, ap (λ (o : Taken). o.ticket) here.2, same)))
    (λ (most : here.0 ≤ at).
    ⊎_elim
    (λ (less : here.0 < at). absurd (let lower = rise here.0 at x less (slice_get_within os at it there) in omega (arith, lower, ap (λ (o : Taken). o.ticket) at_it, ap (λ (o : Taken). o.ticket) here.2, same)))
    (λ (least : at ≤ here.0). let one : at ≡ here.0 = omega (arith, most, least) in sym at_it ∙ ap (λ (k : ℕ). get_or os k x) one ∙ here.2)
    (cases_lt here.0 at))
    (cases_lt at here.0)
  where
    at_it : get_or os at x ≡ it
    at_it = get_or_from_slice_get os at it x there

not_full : (a b : ℕ) → nat_eq a b ≡ false → a ≤ b → a < b
not_full a b differ most = grind (arith, nat_tests)

full : (a b : ℕ) → nat_eq a b ≡ true → a ≡ b
full a b same = grind (arith, nat_tests)

same_outputs : (x y n : ℕ) → x ≡ y → y + n < 2 ^ 64 → x + n < 2 ^ 64
same_outputs x y n e h = omega (arith, e, h)

module _ {H : Type 0} (c : Execution H) (o : IsOpenExecution c) (done : Done) (may : MayCommit c done) where
  abbrev s : Subject
  s = c.state.program.now

  abbrev b : ℕ
  b = c.state.budget

  abbrev t : ℕ
  t = c.turns

  abbrev es : List Entry
  es = c.history.entries

  abbrev it : Taken
  it = taken_as c.writer done.ticket (pair done.path done.trans)

  as_of : AnswersAsOf s (now c) may.job done
  as_of = ticket_answers s o.leads b es o.going.under_way.run o.going.tickets done c.writer may.is_open may.job may.job_of may.answers

  is_for : IsJobFor s (now c) b (pair done.path done.trans) may.job
  is_for = record { path = sym may.answers.path; trans = sym may.answers.trans; units = may.job_of.budget_is; in_it = as_of.in_it }

  below : fires es < t
  below = o.limit it may.is_open

  -- it is under way
  pub is_flying : Contains c.flying.items it
  is_flying = subst (λ (os : List Taken). Contains os it) (sym o.flying) may.is_open

  -- so its ticket is found
  pub is_found : NoneHas done.ticket c.flying.items → ⊥
  is_found none = none is_flying.0 it (slice_get_read c.flying.items (length c.flying.items) is_flying.0 it refl is_flying.1 (sym is_flying.2)) refl

  -- and stands where its ticket stands
  pub is_there : (at : ℕ) → IsTicketAt done.ticket c.flying.items at → slice_get c.flying.items at ≡ Some it
  is_there at f =
      let rise = subst (AllPairs (λ (x y : Taken). x.ticket < y.ticket)) (sym o.flying) (open_rise es o.going.tickets.in_order) in
      f.there ∙ ap Some (one_of c.flying.items rise at f.it it f.there is_flying f.ticket_is)

  pub is_under_ticket : (at : ℕ) → IsTicketAt done.ticket c.flying.items at → IsUnderTicket at c done
  is_under_ticket at f = record { it = it; there = is_there at f; path = refl; trans = refl }

  module _ (at : ℕ) (f : IsTicketAt done.ticket c.flying.items at) where
    there : slice_get (open_in es) at ≡ Some it
    there = subst (λ (os : List Taken). slice_get os at ≡ Some it) o.flying (is_there at f)

    abbrev is_pending : Contains (now c).pending (pair done.path done.trans)
    is_pending = under_way_pending s o.leads b t es c.time c.systems.items o.going at it there

    numbers : (x : Outcome) → done.outcome ≡ x → IsRan x → c.state.shared.outputs + outputs_in (log_of done.outcome) < 2 ^ 64
    numbers (outcome.Ran image effects) is ran =
        same_outputs c.state.shared.outputs (now c).made (outputs_in (log_of done.outcome)) o.at.stands.outputs
        (fired_numbers s o.leads b t es c.time c.systems.items o.going at it there below may.job is_for done may.answers image effects is o.room)
    numbers (outcome.Faulted kind) is ran = absurd ran

    -- it may be put
    pub may_settle : MaySettle (now c) c done
    may_settle = record {
      may = λ ran. record {
        may = record {
          ran = ran;
          stands = o.at.stands;
          answers = answers_in s b (now c) o.going.under_way.legal (pair done.path done.trans) is_pending may.job is_for done may.answers;
          room = may.stores;
          numbers = numbers done.outcome refl ran;
        };
        empty = o.at.empty;
      };
      spare = may.spare;
    }

    -- ---- its fault

    made_failed : (n : Execution H) (kind : fault.Fault) → done.outcome ≡ outcome.Faulted kind → c.end ≡ None → HasFailed (record c { flying = n.flying }) n done.path done.trans kind → HasFaulted c n done
    made_failed n kind is unended h =
        let w = c.writer in
        let faults : FiringFaults s b (now c) done.path done.trans kind = failing s b (now c) o.going.under_way.legal (pair done.path done.trans) is_pending may.job is_for done may.answers kind is in
        let after : Execution H = record c { flying = n.flying; history = n.history; end = Some (Faulted kind) } in
        let fewer = one_fewer (open_in es) at it there in
        let left_open : length (open_in n.history.entries) ≡ length (remove (open_in es) at) = ap (λ (xs : List Entry). length (open_in xs)) h.noted ∙ ap length (failed_open s o.leads b t es c.time c.systems.items o.going at it there kind) in
        let fired : fires n.history.entries ≡ fires es = ap fires h.noted ∙ fault_fires es w done.path done.trans kind in
        let one_more : c.tickets ≡ fires n.history.entries + length (open_in n.history.entries) + 1 = omega (arith, o.fired, fewer, left_open, fired) in
        let closes : IsEndedExecution after (Faulted kind) = record {
          leads = o.leads;
          room = o.room;
          delays = o.delays;
          closed = subst (λ (xs : List Entry). IsClosed s b t xs c.time.waited (Faulted kind)) (sym h.noted) (failed_closes s o.leads b t es c.time c.systems.items o.going at it there kind faults);
          left = left_in c;
          at = subst (λ (g : Situation). IsAt g (left_in c) c.state) (sym (ap (λ (xs : List Entry). situation s b (project xs)) h.noted ∙ fault_situation s b t es c.time c.systems.items o.going w done.path done.trans kind)) o.at;
          taken = ap (λ (xs : List Entry). length (tickets xs)) h.noted ∙ fault_tickets es w done.path done.trans kind ∙ o.taken;
          fired = inr one_more;
        } in
        record { keeps = subst IsExecution (sym h.rest) closes; unended = unended; kind = kind; is = is; faults = faults; failed = h }

    -- ---- it ran

    module _ (n : Execution H) (unended : c.end ≡ None) (image : Image) (effects : List Effect) (is : done.outcome ≡ outcome.Ran image effects) (h : HasFired (now c) c n at done) where
      abbrev a : Acting
      a = after_put s (now c) done

      abbrev fire_event : Event
      fire_event = Fire done.path done.trans a.outs a.drops

      abbrev its : List Entry
      its = es ++ noted c.writer fire_event ∷ []

      abbrev time : Time
      time = record c.time { may_wait = true }

      abbrev later : Situation
      later = record a.situation { timers = map.remove (now c).timers (pair done.path done.trans); pending = without (pair done.path done.trans) (now c).pending }

      -- the execution as it is before an end is noted
      abbrev put_execution : Execution H
      put_execution = record c { state = own c n.state; history = record n.history { entries = its }; flying = n.flying; systems = n.systems; time = time }

      now_is : situation s b (project its) ≡ later
      now_is = fired_situation s o.leads b t es c.time c.systems.items o.going at it there below may.job is_for done may.answers image effects is

      going : IsGoing s b t its time n.systems.items
      going = subst (IsGoing s b t its time) (sym h.systems) (fired_going s o.leads b t es c.time c.systems.items o.going at it there below may.job is_for done may.answers image effects is)

      still_open : open_in its ≡ remove (open_in es) at
      still_open = fired_open s o.leads b t es c.time c.systems.items o.going at it there below may.job is_for done may.answers image effects is

      count : fires its ≡ fires es + 1
      count = count_is s o.leads b t es c.time c.systems.items o.going at it there below may.job is_for done may.answers image effects is

      at_then : IsAt (now put_execution) (left_in put_execution) (own c n.state)
      at_then =
          let left = fired_left s o.leads b t es c.time c.systems.items o.going at it there below may.job is_for done may.answers image effects is in
          let at_later : IsAt later (left_in c) n.state = h.fired (left_in c) (without (pair done.path done.trans) (now c).pending) o.at in
          subst (λ (g : Situation). IsAt g (untaken (open_in its) g.pending) (own c n.state)) (sym now_is)
          (subst (λ (ps : List Pair). IsAt later ps (own c n.state)) (sym left) (subst (IsAt later (left_in c)) (ap (λ (x : Execution H). x.state) h.rest) at_later))

      tickets_are : length (tickets its) ≡ c.tickets
      tickets_are = ap length (tickets_same es (noted c.writer fire_event) refl) ∙ o.taken

      fired_are : c.tickets ≡ fires its + length (open_in its)
      fired_are = omega (arith, o.fired, count, ap length still_open, one_fewer (open_in es) at it there)

      may_end : MayEnd put_execution
      may_end = record { leads = o.leads; room = o.room; delays = o.delays; left = left_in put_execution; at = at_then; taken = tickets_are; fired = fired_are }

      goes_on : nat_eq (fires its) t ≡ false → IsOpenExecution put_execution
      goes_on e = record {
        leads = o.leads;
        room = o.room;
        delays = o.delays;
        going = going;
        at = at_then;
        flying = h.flying ∙ ap (λ (os : List Taken). remove os at) o.flying ∙ sym still_open;
        taken = tickets_are;
        fired = fired_are;
        limit = λ x here. not_full (fires its) t e going.below;
      }

      -- the limit ends it
      closed_then : nat_eq (fires its) t ≡ true → IsClosed s b t (its ++ ending c.writer Turns ∷ []) time.waited Turns
      closed_then e = ended_closes s b t its time n.systems.items going c.writer Turns (turns_end s b t (project its) time n.systems.items going.under_way (full (fires its) t e))

      keeps_by : (x : Bool) → nat_eq (fires its) t ≡ x → (r : History) → r.entries ≡ cond x (its ++ ending c.writer Turns ∷ []) its → IsExecution (record put_execution { history = r; end = cond x (Some Turns) c.end })
      keeps_by false e r entries_are = subst (IsKept (record put_execution { history = r })) (sym unended) (kept_so put_execution r entries_are None (goes_on e))
      keeps_by true e r entries_are =
          ends_so put_execution (record c { history = r }) Turns may_end
          (subst (λ (xs : List Entry). IsClosed s b t xs time.waited Turns) (sym entries_are) (closed_then e))
          (ap (λ (xs : List Entry). situation s b (project xs)) entries_are ∙ ap (situation s b) (project_end its c.writer Turns))
          (ap fires entries_are ∙ fires_same its (ending c.writer Turns) refl)
          (ap (λ (xs : List Entry). length (tickets xs)) entries_are ∙ ap length (tickets_same its (ending c.writer Turns) refl))
          (ap open_in entries_are ∙ ended_open its c.writer Turns)

      made_so : HasMade c n done
      made_so = record {
        keeps = subst IsExecution (sym h.rest) (keeps_by (nat_eq (fires its) t) refl n.history h.noted);
        unended = unended;
        outs = a.outs;
        drops = a.drops;
        arrivals = arrivals_of s (now c) done;
        fires = fired_so s o.leads b t es c.time c.systems.items o.going at it there below may.job is_for done may.answers image effects is;
        noted = h.noted;
        systems = h.systems;
        rest = h.rest;
      }

    pub committed_so : (n : Execution H) (d : Committed) → c.end ≡ None → HasSettled (now c) c n at done d → HasCommitted c n done d
    committed_so n d unended settled = by done.outcome refl settled
      where
        by : (x : Outcome) → done.outcome ≡ x → SettledSo (now c) c n at done x d → HasCommitted c n done d
        by (outcome.Ran image effects) is h = subst (HasCommitted c n done) (sym h.1) (made_so n unended image effects is h.0)
        by (outcome.Faulted kind) is h = subst (HasCommitted c n done) (sym h.1) (made_failed n kind is unended h.0)
