-- A firing is picked and taken: its job is one that may be run, and its ticket is open then.
use Rattle.std.proofs.Common.{◌≡◌, ℕ, ◌+◌, ◌*◌, ◌^◌, ◌<◌, ◌≤◌, List, [], ◌∷◌, ◌++◌, length, Some, refl, sym, ap, subst, ◌∙◌, arith}
use Rattle.std.specs.Prelude.{Contains, slice_get}
use Rattle.std.specs.List.{remove}
use Rattle.std.specs.VecDeque.{deque_len, deque_capacity}
use Rattle.std.proofs.Math.Nat.{mul-le-mul_left}
use Rattle.std.proofs.lemmas.List.{length-append}
use Rattle.std.proofs.lemmas.List.Elements.{Contains-push}
use Rattle.estelle_tree.specs.declared.transition.Pair.{Pair}
use Rattle.estelle_tree.specs.Timers.{pair}
use Rattle.estelle_model.specs.declared.event.Event.{Event}
use Rattle.estelle_model.specs.declared.job.Job.{Job}
use Rattle.estelle_model.specs.Subject.{Subject}
use Rattle.estelle_model.specs.Jobs.{IsJobIn}
use Rattle.estelle_model.specs.Runs.{situation}
use Rattle.estelle_model.specs.Choosers.{Draw, pick}
use Rattle.estelle_model_legality.specs.Jobs as legal
use Rattle.estelle_model_legality.proofs.Taken.{taken}
use Rattle.estelle_model_legality.proofs.Conditions.{taken_meets}
use Rattle.body_state.specs.InOrder.{InOrder}
use Rattle.run_history.specs.declared.entry.Entry.{Entry}
use Rattle.run_history.specs.declared.entry.Taken.{Taken}
use Rattle.run_history.specs.declared.entry.What.TheVariants as what
use Rattle.run_history.specs.Histories.{project, fires}
use Rattle.run_history.specs.Tickets.{tickets, IsJobOf}
use Rattle.run_history.specs.OpenTickets.{open_in, untaken}
use Rattle.run_history.proofs.Lists.{of_filter}
use Rattle.situation_state.specs.At.{IsAt}
use Rattle.situation_steps.specs.UnderWay.{IsUnderWay}
use Rattle.situation_units.specs.Counting.{births_of, births_at}
use Rattle.situation.specs.declared.execution.Execution.{Execution}
use Rattle.situation.specs.declared.tickets.Choice.{Choice}
use Rattle.situation.specs.Runs.{take_of, taken_as, IsWithin, IsGoing}
use Rattle.situation.specs.Worlds.{IsOpenExecution, now, left_in}
use Rattle.situation.specs.Steps.{HasChosen, HasTakenAt}
use Rattle.situation.proofs.Firings.{found_at, once_more}
use Rattle.situation.proofs.Steps.{project_take, fires_same, counted_take}
use Rattle.situation.proofs.OpenTickets.{taken_tickets, taken_open, taken_count}
use Rattle.situation.proofs.Untaken.{are_once, left_of_take}

module _ {H : Type 0} (c : Execution H) (o : IsOpenExecution c) (below : fires c.history.entries < c.turns) (at : ℕ) (p : Pair) (there : slice_get c.state.untaken.items at ≡ Some p) where
  abbrev s : Subject
  s = c.state.program.now

  abbrev b : ℕ
  b = c.state.budget

  abbrev es : List Entry
  es = c.history.entries

  -- it is pending, and nobody has taken it
  left_there : slice_get (left_in c) at ≡ Some p
  left_there = subst (λ (ps : List Pair). slice_get ps at ≡ Some p) o.at.left there

  untaken_there : Contains (left_in c) p
  untaken_there = found_at (left_in c) at p left_there

  pub pending_there : Contains (now c).pending p
  pending_there = (of_filter _ (now c).pending p untaken_there).0

  -- ---- its job

  -- more children can be born than a firing has units
  has_room : legal.HasRoom b (now c)
  has_room q i is_there =
      let f = fires es in
      let is : births_at q (now c) ≡ i.births = ap births_of is_there in
      let one : b * (f + 1 + 1) ≡ b * (f + 1) + b = once_more b (f + 1) in
      let most : b * (f + 1 + 1) ≤ b * (c.turns + 1) = mul-le-mul_left b (omega (arith, below)) in
      omega (arith, is, o.going.within.births q, one, most, o.room)

  pub job_meets : (job : Job) → job ≡ legal.job_of s (now c) (c.tickets + 1) b p → legal.IsJob s job
  job_meets job is = subst (legal.IsJob s) (sym is) (taken_meets s (now c) o.going.under_way.legal (c.tickets + 1) b has_room p pending_there)

  job_in : (job : Job) → job ≡ legal.job_of s (now c) (c.tickets + 1) b p → IsJobIn s (now c) job
  job_in job is = subst (IsJobIn s (now c)) (sym is) (taken s (now c) o.going.under_way.legal (c.tickets + 1) b p pending_there)

  -- ---- it is taken

  abbrev with_take : List Entry
  with_take = es ++ take_of c.writer (c.tickets + 1) p ∷ []

  next_is : c.tickets + 1 ≡ length (tickets es) + 1
  next_is = ap (λ (k : ℕ). k + 1) (sym o.taken)

  same_events : project with_take ≡ project es
  same_events = project_take es c.writer (c.tickets + 1) p

  same_fires : fires with_take ≡ fires es
  same_fires = fires_same es (take_of c.writer (c.tickets + 1) p) refl

  taken_going : IsGoing s b c.turns with_take c.time c.systems.items
  taken_going = record {
    under_way = subst (λ (events : List Event). IsUnderWay s b events c.time c.systems.items) (sym same_events) o.going.under_way;
    below = omega (arith, same_fires, o.going.below);
    within = subst (λ (events : List Event). IsWithin b (fires with_take) (situation s b events)) (sym same_events) (subst (λ (n : ℕ). IsWithin b n (now c)) (sym same_fires) o.going.within);
    tickets = taken_tickets s b es o.going.tickets c.writer (c.tickets + 1) p next_is untaken_there;
    counted = counted_take es c.writer (c.tickets + 1) p o.going.counted;
  }

  abbrev its : Taken
  its = taken_as c.writer (c.tickets + 1) p

  left_then : untaken (open_in with_take) (now c).pending ≡ remove (left_in c) at
  left_then =
      ap (λ (os : List Taken). untaken os (now c).pending) (taken_open es c.writer (c.tickets + 1) p)
      ∙ left_of_take (open_in es) its (now c).pending (are_once s (now c) o.going.under_way.legal.pending) at left_there

  module _ (n : Execution H) (t : HasTakenAt at p c n) where
    -- the execution then, written out
    abbrev after : Execution H
    after = record c { state = record c.state { untaken = n.state.untaken }; history = n.history; tickets = c.tickets + 1; flying = n.flying }

    state_is : n.state ≡ record c.state { untaken = n.state.untaken }
    state_is = ap (λ (x : Execution H). x.state) t.rest

    at_then : IsAt (situation s b (project n.history.entries)) (untaken (open_in n.history.entries) (situation s b (project n.history.entries)).pending) after.state
    at_then =
        subst (λ (xs : List Entry). IsAt (situation s b (project xs)) (untaken (open_in xs) (situation s b (project xs)).pending) after.state) (sym t.noted)
        (subst (λ (events : List Event). IsAt (situation s b events) (untaken (open_in with_take) (situation s b events).pending) after.state) (sym same_events)
        (subst (λ (ps : List Pair). IsAt (now c) ps after.state) (sym left_then) (subst (IsAt (now c) (remove (left_in c) at)) state_is (t.stands (now c) (left_in c) o.at))))

    opened_after : IsOpenExecution after
    opened_after = record {
      leads = o.leads;
      room = o.room;
      delays = o.delays;
      going = subst (λ (xs : List Entry). IsGoing s b c.turns xs c.time c.systems.items) (sym t.noted) taken_going;
      at = at_then;
      flying = t.flying ∙ ap (λ (os : List Taken). os ++ its ∷ []) o.flying ∙ sym (taken_open es c.writer (c.tickets + 1) p) ∙ ap open_in (sym t.noted);
      taken = ap (λ (xs : List Entry). length (tickets xs)) t.noted ∙ taken_count es c.writer (c.tickets + 1) p ∙ ap (λ (k : ℕ). k + 1) o.taken;
      fired = counts ∙ ap (λ (xs : List Entry). fires xs + length (open_in xs)) (sym t.noted);
      limit = λ x here. subst (λ (xs : List Entry). fires xs < c.turns) (sym t.noted) (subst (λ (k : ℕ). k < c.turns) (sym same_fires) below);
    }
      where
        counts : c.tickets + 1 ≡ fires with_take + length (open_in with_take)
        counts = omega (arith, o.fired, same_fires, ap length (taken_open es c.writer (c.tickets + 1) p), length-append (open_in es) (its ∷ []))

    -- the run goes on
    pub taken_opens : IsOpenExecution n
    taken_opens = subst IsOpenExecution (sym t.rest) opened_after

    -- this is the job of the ticket
    pub taken_job : (job : Job) → job ≡ legal.job_of s (now c) (c.tickets + 1) b p → IsJobOf s b n.history.entries job
    taken_job job is = record {
      by = c.writer;
      before = es;
      after = [];
      take = record { stands = t.noted ∙ (λ i. es ++ (record { by = c.writer; what = what.Take (ticket_is i) (path_is i) (trans_is i) }) ∷ []) };
      budget_is = ap (λ (j : Job). j.budget) is;
      in_situation = job_in job is;
    }
      where
        ticket_is : c.tickets + 1 ≡ job.ticket
        ticket_is = ap (λ (j : Job). j.ticket) (sym is)

        path_is : p.path ≡ job.path
        path_is = ap (λ (j : Job). j.path) (sym is)

        trans_is : p.trans ≡ job.trans
        trans_is = ap (λ (j : Job). j.trans) (sym is)

    -- and that ticket is open
    pub taken_is_open : Contains (open_in n.history.entries) its
    taken_is_open =
        subst (λ (xs : List Entry). Contains (open_in xs) its) (sym t.noted)
        (subst (λ (os : List Taken). Contains os its) (sym (taken_open es c.writer (c.tickets + 1) p)) (Contains-push (open_in es) its))

-- ---- what is picked

module _ {H : Type 0} (draw : Draw H) (c m : Execution H) (o : IsOpenExecution c) (below : fires c.history.entries < c.turns) (choice : Choice) (r : Pair) (here : slice_get c.state.untaken.items choice.at ≡ Some r) (path_is : choice.path ≡ r.path)
    (job_is : choice.job ≡ legal.job_of c.state.program.now (now c) (c.tickets + 1) c.state.budget r) where
  abbrev p : Pair
  p = pair choice.path choice.job.trans

  p_is : p ≡ r
  p_is = (λ i. record { path = path_is i; trans = (ap (λ (j : Job). j.trans) job_is) i })

  pub chosen_so : InOrder choice.job.image.parts → (choice.at, m.chooser) ≡ pick draw c.chooser (length c.state.untaken.items) → c.tickets + 1 < 2 ^ 64 → m.history.entries ≡ c.history.entries → 1 ≤ m.history.spare → m.flying.items ≡ c.flying.items → deque_len m.flying < deque_capacity m.flying
      → m ≡ record c { history = m.history; flying = m.flying; chooser = m.chooser } → HasChosen draw c m choice
  chosen_so in_order drawn number entries spare flying room rest = record {
    there = here ∙ ap Some (sym p_is);
    picked = record {
      takes = subst (λ (k : ℕ). slice_get c.state.untaken.items k ≡ Some p) (ap (λ (x : ℕ × H). x.0) drawn) (here ∙ ap Some (sym p_is));
      leaves = ap (λ (x : ℕ × H). x.1) drawn;
    };
    job_is = job_is ∙ ap (legal.job_of c.state.program.now (now c) (c.tickets + 1) c.state.budget) (sym p_is);
    meets = job_meets c o below choice.at r here choice.job job_is;
    in_order = in_order;
    number = number;
    entries = entries;
    spare = spare;
    flying = flying;
    room = room;
    rest = rest;
  }
