-- What a turn settles.
use Rattle.std.proofs.Common.{◌≡◌, ℕ, Bool, true, false, cond, ◌+◌, List, [], ◌∷◌, ◌++◌, length, Option, Some, None, refl, sym, ap, ◌∙◌, subst, append_assoc}
use Rattle.std.proofs.lemmas.List.Elements.{All-append}
use Rattle.std.specs.Prelude.{Result, Ok, Err, All, Contains, MatchResult, nat_eq}
use Rattle.estelle_tree.specs.Timers.{pair}
use Rattle.estelle_model.specs.declared.event.Event.TheVariants as event
use Rattle.estelle_model.specs.declared.event.End.{End}
use Rattle.estelle_model.specs.declared.event.End.TheVariants.{Turns, Faulted}
use Rattle.estelle_model.specs.declared.job.Done.{Done}
use Rattle.estelle_model.specs.Subject.{Subject}
use Rattle.estelle_model.specs.Jobs.{Answers}
use Rattle.run_history.specs.declared.entry.Entry.{Entry}
use Rattle.run_history.specs.Histories.{fires}
use Rattle.run_history.specs.Tickets.{tickets, AreTickets, IsJobOf}
use Rattle.run_history.specs.OpenTickets.{open_in}
use Rattle.run_history.proofs.OpenTickets.{stay_open, job_stays}
use Rattle.situation.specs.declared.limits.Committed.{Committed}
use Rattle.situation.specs.declared.limits.Committed.TheVariants as committed
use Rattle.situation.specs.Runs.{noted, ending, taken_as, ended_at, IsGoing, IsClosed, AreAllTaken}
use Rattle.situation.specs.Known.{Known, IsOfRun, IsKnownBy, IsStill, IsOpenBy, IsAnswerIn, HasCommitted}
use Rattle.board_runner.specs.declared.work.Work.{Work}
use Rattle.board_runner.specs.Histories.{Base, base_of}
use Rattle.board_runner.specs.Turns.{Gives, Settles}
use Rattle.board_runner.specs.Going.{HasGoneOn, HasGiven, MayCommit, HasSettled, HasExchanged}
use Rattle.board_runner.proofs.Ends.{end_is}
use Rattle.board_runner.proofs.Given.{by_one, by_two, gone_nowhere, still_base, still_writer}

-- ---- what stands behind a firing

abbrev behind : ℕ → Bool → List Entry
behind by full = cond full (ending by Turns ∷ []) []

fired_by : (by : ℕ) (e : Entry) (full : Bool) → e.by ≡ by → All (λ (x : Entry). x.by ≡ by) (e ∷ behind by full)
fired_by by e true is = by_two by e (ending by Turns) is refl
fired_by by e false is = by_one by e is

ended_is : (by turns : ℕ) (es : List Entry) (e : Entry) → ended_at by turns (es ++ e ∷ []) ≡ es ++ e ∷ behind by (nat_eq (fires (es ++ e ∷ [])) turns)
ended_is by turns es e = one (nat_eq (fires (es ++ e ∷ [])) turns)
  where
    one : (full : Bool) → cond full ((es ++ e ∷ []) ++ ending by Turns ∷ []) (es ++ e ∷ []) ≡ es ++ e ∷ behind by full
    one true = append_assoc es (e ∷ []) (ending by Turns ∷ [])
    one false = refl

module _ {C H : Type 0} where
  -- ---- with more memory

  -- a world of a run is one with more memory
  pub of_run_still : (w v : Known C H) → IsOfRun w → IsStill w v → IsOfRun v
  of_run_still w v keeps s = subst IsOfRun (sym s.0) (by w.end keeps)
    where
      by : (e : Option End) → IsKnownBy w e → IsKnownBy (record w { history = v.history; room = v.room }) e
      by None h = record {
        leads = h.leads;
        room = h.room;
        going = subst (λ (es : List Entry). IsGoing w.subject w.limits.budget w.limits.turns es w.time w.systems) (sym s.1) h.going;
        taken = subst (λ (es : List Entry). length (tickets es) ≡ fires es + length (open_in es)) (sym s.1) h.taken;
      }
      by (Some e) h = record {
        leads = h.leads;
        room = h.room;
        closed = subst (λ (es : List Entry). IsClosed w.subject w.limits.budget w.limits.turns es w.time.waited e) (sym s.1) h.closed;
        taken = subst (λ (es : List Entry). AreAllTaken e es (length (tickets es))) (sym s.1) h.taken;
      }

  -- ---- what is settled, by the writer of the world

  abbrev SettlesIn : Known C H → Known C H → Done → Committed → Type 0
  SettlesIn w v done d = (added : List Entry) × HasGoneOn w.writer w v added × Settles (base_of w) w.writer w.history.entries added done d

  settled : (w v : Known C H) (done : Done) (d : Committed) → IsOfRun w → IsOfRun v → HasCommitted w v done d → SettlesIn w v done d
  settled w v done committed.Fired before keeps h =
      let e : Entry = noted w.writer (event.Fire done.path done.trans h.0 h.1) in
      let full : Bool = nat_eq (fires (w.history.entries ++ e ∷ [])) w.limits.turns in
      let is = ended_is w.writer w.limits.turns w.history.entries e in (
        e ∷ behind w.writer full,
        record {
          base = ap base_of h.3.rest;
          writer = ap (λ (x : Known C H). x.writer) h.3.rest;
          entries = h.3.noted ∙ is;
          own = fired_by w.writer e full refl;
          keeps = keeps;
        },
        record { unended = end_is w before ∙ h.3.unended; outs = h.0; drops = h.1; may = h.2; noted = sym is },
      )
  settled w v done committed.Faulted before keeps h =
      let e : Entry = noted w.writer (event.Fault done.path done.trans h.0) in
      let f : Entry = ending w.writer (Faulted h.0) in (
        e ∷ f ∷ [],
        record {
          base = ap base_of h.3.rest;
          writer = ap (λ (x : Known C H). x.writer) h.3.rest;
          entries = h.3.noted ∙ append_assoc w.history.entries (e ∷ []) (f ∷ []);
          own = by_two w.writer e f refl refl;
          keeps = keeps;
        },
        record { unended = end_is w before ∙ h.3.unended; kind = h.0; is = h.1; faults = h.2; noted = refl },
      )
  settled w v done (committed.Late e) before keeps h = (
    [],
    gone_nowhere w.writer w v (ap base_of h.1) (ap (λ (x : Known C H). x.writer) h.1) (ap (λ (x : Known C H). x.history.entries) h.1) keeps,
    record { ended = end_is w before ∙ h.0; same = refl },
  )

  -- what is settled behind a world that noted nothing is settled behind the one before
  settled_from : (number : ℕ) (w m v : Known C H) (done : Done) (d : Committed) → base_of m ≡ base_of w → m.writer ≡ number → m.history.entries ≡ w.history.entries → IsOfRun m → IsOfRun v → HasCommitted m v done d → HasSettled number w v done (Ok d)
  settled_from number w m v done d base writer entries before keeps h =
      let x = settled m v done d before keeps h in
      record {
        added = x.0;
        gone = record {
          base = x.1.base ∙ base;
          writer = x.1.writer ∙ writer;
          entries = x.1.entries ∙ ap (λ (es : List Entry). es ++ x.0) entries;
          own = subst (λ (n : ℕ). All (λ (e : Entry). e.by ≡ n) x.0) writer x.1.own;
          keeps = keeps;
        };
        settles = subst (λ (q : Base × ℕ × List Entry). Settles q.0 q.1 q.2 x.0 done d) (λ i. (base i, writer i, entries i)) x.2;
      }

  -- ---- what may be committed

  tickets_of : (w : Known C H) → IsOfRun w → AreTickets w.subject w.limits.budget w.history.entries
  tickets_of w keeps = by w.end keeps
    where
      by : (e : Option End) → IsKnownBy w e → AreTickets w.subject w.limits.budget w.history.entries
      by None h = h.going.tickets
      by (Some e) h = h.closed.tickets

  module _ (number : ℕ) (w v m : Known C H) (is : v ≡ record w { writer = number }) (before : IsOfRun v) (s : IsStill v m) (done : Done) where
    same_base : base_of m ≡ base_of w
    same_base = still_base v m s ∙ ap base_of is

    same_writer : m.writer ≡ number
    same_writer = still_writer v m s ∙ ap (λ (x : Known C H). x.writer) is

    same_entries : m.history.entries ≡ w.history.entries
    same_entries = s.1 ∙ ap (λ (x : Known C H). x.history.entries) is

    keeps_still : IsOfRun m
    keeps_still = of_run_still v m before s

    pub open_by : MayCommit number w done → IsOpenBy m done
    open_by may =
        let entries : m.history.entries ≡ may.seen ++ may.more = same_entries ∙ may.entries in
        let it = taken_as number done.ticket (pair done.path done.trans) in
        let all : AreTickets m.subject m.limits.budget (may.seen ++ may.more) = subst (AreTickets m.subject m.limits.budget) entries (tickets_of m keeps_still) in
        subst (λ (q : List Entry × ℕ). Contains (open_in q.0) (taken_as q.1 done.ticket (pair done.path done.trans))) (λ i. (sym entries i, sym same_writer i))
        (stay_open m.subject m.limits.budget may.seen may.more it all may.is_open may.others)

    pub answer_in : MayCommit number w done → IsAnswerIn m done
    answer_in may =
        let entries : m.history.entries ≡ may.seen ++ may.more = same_entries ∙ may.entries in (
          may.job,
          subst (λ (q : Base × List Entry). IsJobOf q.0.0 q.0.1.budget q.1 may.job) (λ i. (sym same_base i, sym entries i)) (job_stays w.subject w.limits.budget may.seen may.more may.job may.job_of),
          subst (λ (x : Subject). Answers x may.job done) (ap (λ (b : Base). b.0) (sym same_base)) may.answers,
        )

    -- there is no memory for it
    pub comes_back : HasSettled number w m done (Err done)
    comes_back = record { added = []; gone = gone_nowhere number w m same_base same_writer same_entries keeps_still; settles = (refl, refl) }

    pub settled_as : (u : Known C H) (d : Committed) → IsOfRun u → HasCommitted m u done d → HasSettled number w u done (Ok d)
    settled_as u d keeps h = settled_from number w m u done d same_base same_writer same_entries keeps_still keeps h

  -- behind an end it is late
  pub late_as : (number : ℕ) (w v : Known C H) (done : Done) (e : End) → v ≡ record w { writer = number } → IsOfRun v → v.end ≡ Some e → HasSettled number w v done (Ok (committed.Late e))
  late_as number w v done e is keeps ended =
      settled_from number w v v done (committed.Late e) (ap base_of is) (ap (λ (x : Known C H). x.writer) is) (ap (λ (x : Known C H). x.history.entries) is) keeps keeps (ended, refl)

  -- ---- and then what is given

  pub exchanged : {X : Type 0} (number : ℕ) (w m v : Known C H) (done : Done) (d : Committed) (r : Result Work X) → HasSettled number w m done (Ok d) → HasGiven number m v r → HasExchanged number w v done (Ok (d, r))
  exchanged number w m v done d r s g = record {
    first = s.added;
    second = g.added;
    gone = record {
      base = g.gone.base ∙ s.gone.base;
      writer = g.gone.writer;
      entries = g.gone.entries ∙ ap (λ (es : List Entry). es ++ g.added) s.gone.entries ∙ append_assoc w.history.entries s.added g.added;
      own = All-append (λ (e : Entry). e.by ≡ number) s.added g.added s.gone.own g.gone.own;
      keeps = g.gone.keeps;
    };
    exchanges = (
      s.settles,
      subst (λ (q : Base × List Entry). MatchResult r (Gives q.0 number v.time.waited q.1 g.added) (λ _. g.added ≡ [])) (λ i. (s.gone.base i, s.gone.entries i)) g.gives,
    );
  }
