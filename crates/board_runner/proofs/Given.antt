-- What a world gives in a turn.
use Rattle.std.proofs.Common.{◌≡◌, ℕ, List, [], ◌∷◌, ◌++◌, Option, Some, None, refl, sym, ap, ◌∙◌, subst, inl, inr, append_assoc, true≢false}
use Rattle.std.proofs.lemmas.List.{append-nil}
use Rattle.std.proofs.lemmas.List.Elements.{All-nil, All-cons}
use Rattle.std.specs.Prelude.{Result, Ok, Err, IsErr, All, Contains, MatchResult}
use Rattle.estelle_tree.specs.Timers.{pair}
use Rattle.estelle_model.specs.declared.event.Event.TheVariants as event
use Rattle.estelle_model.specs.declared.event.End.{End}
use Rattle.estelle_model.specs.declared.event.End.TheVariants.{Dead, Turns, Faulted, Clock}
use Rattle.estelle_model.specs.declared.job.Job.{Job}
use Rattle.estelle_model.specs.Subject.{Subject}
use Rattle.estelle_model.specs.Choosers.{Draw}
use Rattle.estelle_model_legality.specs.Jobs.{IsJob}
use Rattle.run_history.specs.declared.entry.Entry.{Entry}
use Rattle.run_history.specs.Tickets.{IsJobOf}
use Rattle.run_history.specs.OpenTickets.{open_in}
use Rattle.situation.specs.declared.limits.Stepped.{Stepped}
use Rattle.situation.specs.declared.limits.Stepped.TheVariants as stepped
use Rattle.situation.specs.Runs.{noted, ending, take_of, taken_as}
use Rattle.situation.specs.Worlds.{Adds}
use Rattle.situation.specs.Known.{Known, IsOfRun, IsPlannedStep, IsStill, IsAsBefore, HasNoneDue, IsReady, IsFlying, HasTaken}
use Rattle.situation.proofs.Firings.{found_at}
use Rattle.board_runner.specs.declared.work.Work.{Work}
use Rattle.board_runner.specs.declared.work.Work.TheVariants as work
use Rattle.board_runner.specs.Histories.{Base, base_of, end_in, HaveNoneDue}
use Rattle.board_runner.specs.Turns.{Gives}
use Rattle.board_runner.specs.Going.{told, HasGoneOn, HasGiven}
use Rattle.board_runner.proofs.Ends.{end_is, end_behind}

-- ---- entries of one writer

pub by_one : (number : ℕ) (e : Entry) → e.by ≡ number → All (λ (x : Entry). x.by ≡ number) (e ∷ [])
by_one number e is = All-cons (λ (x : Entry). x.by ≡ number) e [] is (All-nil (λ (x : Entry). x.by ≡ number))

pub by_two : (number : ℕ) (e f : Entry) → e.by ≡ number → f.by ≡ number → All (λ (x : Entry). x.by ≡ number) (e ∷ f ∷ [])
by_two number e f first second = All-cons (λ (x : Entry). x.by ≡ number) e (f ∷ []) first (by_one number f second)

module _ {C H : Type 0} where
  -- ---- where nothing is noted

  pub gone_nowhere : (number : ℕ) (w v : Known C H) → base_of v ≡ base_of w → v.writer ≡ number → v.history.entries ≡ w.history.entries → IsOfRun v → HasGoneOn number w v []
  gone_nowhere number w v base writer entries keeps = record {
    base = base;
    writer = writer;
    entries = entries ∙ sym (append-nil w.history.entries);
    own = All-nil (λ (e : Entry). e.by ≡ number);
    keeps = keeps;
  }

  pub still_base : (w v : Known C H) → IsStill w v → base_of v ≡ base_of w
  still_base w v s = ap base_of s.0

  pub still_writer : (w v : Known C H) → IsStill w v → v.writer ≡ w.writer
  still_writer w v s = ap (λ (x : Known C H). x.writer) s.0

  step_base : (draw : Draw H) (moment : C → Option ℕ) (w v : Known C H) (did : Stepped) → IsPlannedStep draw moment w v did → base_of v ≡ base_of w
  step_base draw moment w v did h = λ i. (h.subject i, h.limits i, h.first i)

  -- what is given behind a world that noted nothing is given behind the one before
  pub given_from : {X : Type 0} (number : ℕ) (r : Result Work X) (w v u : Known C H) → base_of v ≡ base_of w → v.writer ≡ number → v.history.entries ≡ w.history.entries → HasGiven v.writer v u r → HasGiven number w u r
  given_from number r w v u base writer entries g = record {
    added = g.added;
    gone = record {
      base = g.gone.base ∙ base;
      writer = g.gone.writer ∙ writer;
      entries = g.gone.entries ∙ ap (λ (es : List Entry). es ++ g.added) entries;
      own = subst (λ (n : ℕ). All (λ (e : Entry). e.by ≡ n) g.added) writer g.gone.own;
      keeps = g.gone.keeps;
    };
    gives = subst (λ (q : Base × ℕ × List Entry). MatchResult r (Gives q.0 q.1 u.time.waited q.2 g.added) (λ _. g.added ≡ [])) (λ i. (base i, writer i, entries i)) g.gives;
  }

  still_given : {X : Type 0} (r : Result Work X) (w v u : Known C H) → IsStill w v → HasGiven v.writer v u r → HasGiven w.writer w u r
  still_given r w v u s g = given_from w.writer r w v u (still_base w v s) (still_writer w v s) s.1 g

  -- ---- nothing is given

  nothing : {X : Type 0} (x : X) (w v : Known C H) → base_of v ≡ base_of w → v.writer ≡ w.writer → v.history.entries ≡ w.history.entries → IsOfRun v → HasGiven w.writer w v (Err x)
  nothing x w v base writer entries keeps = record { added = []; gone = gone_nowhere w.writer w v base writer entries keeps; gives = refl }

  pub as_before : {X : Type 0} (x : X) (w v : Known C H) → IsOfRun v → IsAsBefore w v → HasGiven w.writer w v (Err x)
  as_before x w v keeps b = nothing x w v (λ i. (b.subject i, b.limits i, b.first i)) b.writer b.entries keeps

  -- a refusal, whatever it tells
  pub refused : {X : Type 0} (r : Result Work X) (w v : Known C H) → IsErr r → ((x : X) → HasGiven w.writer w v (Err x)) → HasGiven w.writer w v r
  refused (Ok work) w v is h = absurd (true≢false (sym is))
  refused (Err x) w v is h = h x

  -- ---- an end that there was

  pub ended_before : {X : Type 0} (w : Known C H) (e : End) → IsOfRun w → w.end ≡ Some e → HasGiven {X = X} w.writer w w (Ok (work.Ended e))
  ended_before w e keeps ended = record {
    added = [];
    gone = gone_nowhere w.writer w w refl refl refl keeps;
    gives = record { ended = ap end_in (append-nil w.history.entries) ∙ end_is w keeps ∙ ended; noted = inl refl };
  }

  -- ---- steps

  module _ (draw : Draw H) (moment : C → Option ℕ) (w v : Known C H) (before : IsOfRun w) (unended : w.end ≡ None) (keeps : IsOfRun v) where
    added_by : (did : Stepped) → IsPlannedStep draw moment w v did → Adds w.writer w.limits.turns None w.history.entries v.history.entries did
    added_by did h = subst (λ (e : Option End). Adds w.writer w.limits.turns e w.history.entries v.history.entries did) unended h.adds

    by_step : {X : Type 0} (did : Stepped) → IsPlannedStep draw moment w v did → (added : List Entry) → v.history.entries ≡ w.history.entries ++ added → All (λ (e : Entry). e.by ≡ w.writer) added
        → (answer : Work) → Gives (base_of w) w.writer v.time.waited w.history.entries added answer → HasGiven {X = X} w.writer w v (Ok answer)
    by_step did h added entries own answer gives = record {
      added = added;
      gone = record { base = step_base draw moment w v did h; writer = h.writer; entries = entries; own = own; keeps = keeps };
      gives = gives;
    }

    pub waited : {X : Type 0} (r : Result Work X) (u : Known C H) → IsPlannedStep draw moment w v stepped.Waited → HasGiven v.writer v u r → HasGiven w.writer w u r
    waited r u h g = given_from w.writer r w v u (step_base draw moment w v stepped.Waited h) h.writer (added_by stepped.Waited h) g

    none_yet : end_in w.history.entries ≡ None
    none_yet = end_is w before ∙ unended

    -- an end that comes by no fault
    comes : {X : Type 0} (e : End) → IsPlannedStep draw moment w v (stepped.Ended e) → v.history.entries ≡ w.history.entries ++ ending w.writer e ∷ [] → HasGiven {X = X} w.writer w v (Ok (work.Ended e))
    comes e h entries =
        by_step (stepped.Ended e) h (ending w.writer e ∷ []) entries (by_one w.writer (ending w.writer e) refl) (work.Ended e)
        (record { ended = end_behind w.history.entries (ending w.writer e ∷ []) none_yet; noted = inr refl })

    pub ended_so : {X : Type 0} (e : End) → IsPlannedStep draw moment w v (stepped.Ended e) → HasGiven {X = X} w.writer w v (Ok (told e))
    ended_so (Faulted kind) h =
        let a = added_by (stepped.Ended (Faulted kind)) h in
        let e : Entry = noted w.writer (event.Fault a.0 a.1 kind) in
        let f : Entry = ending w.writer (Faulted kind) in
        by_step (stepped.Ended (Faulted kind)) h (e ∷ f ∷ []) (a.2 ∙ append_assoc w.history.entries (e ∷ []) (f ∷ [])) (by_two w.writer e f refl refl) work.Moved (inr (a.0, a.1, kind, refl))
    ended_so Dead h = comes Dead h (added_by (stepped.Ended Dead) h)
    ended_so Turns h = comes Turns h (added_by (stepped.Ended Turns) h)
    ended_so Clock h = comes Clock h (added_by (stepped.Ended Clock) h)

  -- ---- others at work, and jobs

  none_due : (w : Known C H) → IsOfRun w → HasNoneDue w → HaveNoneDue (base_of w) w.time.waited w.history.entries
  none_due w keeps n = record { unended = end_is w keeps ∙ n.unended; below = n.below; none_due = n.none_due }

  pub flying : {X : Type 0} (w v : Known C H) (k : ℕ) → IsOfRun v → IsStill w v → IsFlying k v → HasGiven {X = X} w.writer w v (Ok (work.Idle k))
  flying w v k keeps s f =
      still_given (Ok (work.Idle k)) w v v s (record {
        added = [];
        gone = gone_nowhere v.writer v v refl refl refl keeps;
        gives = record { next = none_due v keeps f.next; none = f.none; first = f.first; same = refl };
      })

  taken : {X : Type 0} (draw : Draw H) (w v : Known C H) (job : Job) → IsOfRun w → IsReady w → IsOfRun v → HasTaken draw w v job → HasGiven {X = X} w.writer w v (Ok (work.Job job))
  taken draw w v job before ready keeps t =
      let e : Entry = take_of w.writer job.ticket (pair job.path job.trans) in
      let base : base_of v ≡ base_of w = ap base_of t.rest in
      let time : v.time.waited ≡ w.time.waited = ap (λ (x : Known C H). x.time.waited) t.rest in
      record {
        added = e ∷ [];
        gone = record { base = base; writer = ap (λ (x : Known C H). x.writer) t.rest; entries = t.noted; own = by_one w.writer e refl; keeps = keeps };
        gives = record {
          next = subst (λ (n : ℕ). HaveNoneDue (base_of w) n w.history.entries) (sym time) (none_due w before ready.next);
          untaken = found_at _ _ _ t.picked.takes;
          ticket = t.ticket;
          noted = refl;
          is_open = subst (λ (es : List Entry). Contains (open_in es) (taken_as w.writer job.ticket (pair job.path job.trans))) t.noted t.is_open;
          job_of = subst (λ (q : Base × List Entry). IsJobOf q.0.0 q.0.1.budget q.1 job) (λ i. (base i, t.noted i)) t.job_of;
          meets = subst (λ (s : Subject). IsJob s job) (ap (λ (b : Base). b.0) base) t.meets;
        };
      }

  pub taken_still : {X : Type 0} (draw : Draw H) (w m v : Known C H) (job : Job) → IsOfRun m → IsStill w m → IsReady m → IsOfRun v → HasTaken draw m v job → HasGiven {X = X} w.writer w v (Ok (work.Job job))
  taken_still draw w m v job before s ready keeps t =
      still_given (Ok (work.Job job)) w m v s (taken draw m v job before ready keeps t)

  pub refused_still : {X : Type 0} (x : X) (w m v : Known C H) → IsStill w m → IsOfRun v → IsAsBefore m v → HasGiven w.writer w v (Err x)
  refused_still x w m v s keeps b = still_given (Err x) w m v s (as_before x m v keeps b)
