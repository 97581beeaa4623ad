-- A ticket that is open is of a firing that is pending, and what was computed of its job answers that firing.
use Rattle.std.proofs.Common.{◌≡◌, ℕ, false, List, [], ◌∷◌, ◌++◌, sym, ap, subst, ◌∙◌}
use Rattle.std.specs.Prelude.{All, Contains}
use Rattle.std.specs.List.{AllByRecursion, cons_option}
use Rattle.std.proofs.lemmas.List.Elements.{filter_map-append, All-head, All-tail}
use Rattle.estelle_tree.specs.Paths.{Path}
use Rattle.estelle_tree.specs.Timers.{pair}
use Rattle.estelle_model.specs.declared.event.Event.{Event}
use Rattle.estelle_model.specs.declared.event.Event.TheVariants as event
use Rattle.estelle_model.specs.declared.job.Job.{Job}
use Rattle.estelle_model.specs.declared.job.Done.{Done}
use Rattle.estelle_model.specs.Jobs.{Answers, IsJobIn}
use Rattle.estelle_model.specs.Subject.{Subject}
use Rattle.estelle_model.specs.Runs.{IsRun, situation}
use Rattle.estelle_model_legality.specs.Instances.{LeadsToStates}
use Rattle.estelle_model_apart.specs.Apart.{IsOther}
use Rattle.estelle_model_apart.specs.Answers.{AnswersAsOf}
use Rattle.estelle_model_apart.proofs.Runs.{runs_leave, answers_hold_in_runs}
use Rattle.run_history.specs.declared.entry.Entry.{Entry}
use Rattle.run_history.specs.declared.entry.What.{What}
use Rattle.run_history.specs.declared.entry.What.TheVariants as what
use Rattle.run_history.specs.Histories.{event_of, project}
use Rattle.run_history.specs.Tickets.{settled_in, settles, IsTake, IsOpen, AreTickets, IsJobOf}
use Rattle.run_history.specs.OpenTickets.{open_in}
use Rattle.run_history.proofs.OpenTickets.{open_listed}
use Rattle.run_history.proofs.Once.{take_once}
use Rattle.situation.specs.Runs.{taken_as}
use Rattle.situation.proofs.Untaken.{ArePendingIn}

-- what settles a firing alone is its firing
other_event : (m : Path) (n : ℕ) (ev : Event) → settled_in m n (what.Event ev) ≡ false → IsOther m n ev
other_event m n (event.Fire q k outs drops) h = h
other_event m n (event.Fault q k kind) h = tt
other_event m n (event.Start outs drops) h = tt
other_event m n (event.Select system now takes) h = tt

-- so the events that come while its ticket is open are others
others : (m : Path) (n : ℕ) (es : List Entry) → All (λ e. settles m n e ≡ false) es → AllByRecursion (IsOther m n) (project es)
others m n [] h = tt
others m n (e ∷ es) h = by e.what (All-head (λ x. settles m n x ≡ false) e es h) (others m n es (All-tail (λ x. settles m n x ≡ false) e es h))
  where
    by : (w : What) → settled_in m n w ≡ false → AllByRecursion (IsOther m n) (project es) → AllByRecursion (IsOther m n) (cons_option (event_of w) (project es))
    by (what.Event ev) left rest = (other_event m n ev left, rest)
    by (what.Take k q j) left rest = rest
    by (what.Ended end) left rest = rest

module _ (s : Subject) (leads : LeadsToStates s) (budget : ℕ) (es : List Entry) (run : IsRun s budget (project es)) where
  split : (k n by : ℕ) (m : Path) (before after : List Entry) → IsTake es k m n by before after → project es ≡ project before ++ project after
  split k n by m before after take = ap project take.stands ∙ filter_map-append (λ (x : Entry). event_of x.what) before ((record { by = by; what = what.Take k m n }) ∷ after)

  -- what is taken and not settled is pending
  pub open_pending : AreTickets s budget es → (k : ℕ) (m : Path) (n : ℕ) → IsOpen es k m n → Contains (situation s budget (project es)).pending (pair m n)
  open_pending t k m n i =
      let may = t.taken k n i.by m i.before i.after i.take in
      let is = split k n i.by m i.before i.after i.take in
      subst (λ (events : List Event). Contains (situation s budget events).pending (pair m n)) (sym is)
      (runs_leave s leads budget (project i.before) (project i.after) (subst (IsRun s budget) is run) m n may.pending (others m n i.after i.unsettled)).pending

  pub open_are_pending : AreTickets s budget es → ArePendingIn (open_in es) (situation s budget (project es)).pending
  open_are_pending t o here = open_pending t o.ticket o.path o.trans (open_listed es o here).0

  -- and what was computed of its job answers the firing now
  pub open_answers : AreTickets s budget es → (job : Job) (by : ℕ) (before after : List Entry) → IsTake es job.ticket job.path job.trans by before after → All (λ e. settles job.path job.trans e ≡ false) after
      → IsJobIn s (situation s budget (project before)) job → (done : Done) → Answers s job done → AnswersAsOf s (situation s budget (project es)) job done
  open_answers t job by before after take unsettled in_it done answers =
      let may = t.taken job.ticket job.trans by job.path before after take in
      let is = split job.ticket job.trans by job.path before after take in
      subst (λ (events : List Event). AnswersAsOf s (situation s budget events) job done) (sym is)
      (answers_hold_in_runs s leads budget (project before) (project after) (subst (IsRun s budget) is run) job in_it may.pending (others job.path job.trans after unsettled) done answers)

  -- so it does where the ticket is open, and this is its job
  pub ticket_answers : AreTickets s budget es → (done : Done) (by : ℕ) → Contains (open_in es) (taken_as by done.ticket (pair done.path done.trans)) → (job : Job) → IsJobOf s budget es job → Answers s job done
      → AnswersAsOf s (situation s budget (project es)) job done
  ticket_answers t done by here job of answers =
      let i = open_listed es (taken_as by done.ticket (pair done.path done.trans)) here in
      let take : IsTake es done.ticket done.path done.trans of.by of.before of.after =
      record { stands = of.take.stands ∙ (λ j. of.before ++ (record { by = of.by; what = what.Take (sym answers.ticket j) (sym answers.path j) (sym answers.trans j) }) ∷ of.after) } in
      let same = take_once es t.in_order done.ticket done.trans done.trans of.by i.0.by done.path done.path of.before i.0.before of.after i.0.after take i.0.take in
      let unsettled : All (λ e. settles done.path done.trans e ≡ false) of.after = subst (λ (l : List Entry). All (λ e. settles done.path done.trans e ≡ false) l) (sym same.after_is) i.0.unsettled in
      let its : All (λ e. settles job.path job.trans e ≡ false) of.after = subst (λ (q : Path × ℕ). All (λ e. settles q.0 q.1 e ≡ false) of.after) (λ j. (answers.path j, answers.trans j)) unsettled in
      open_answers t job of.by of.before of.after of.take its of.in_situation done answers
