-- A execution begins: it is fresh, the start may be settled, and what that comes to.
use Rattle.std.proofs.Common.{◌≡◌, ℕ, ◌+◌, ◌*◌, ◌^◌, ◌<◌, ◌≤◌, List, [], ◌∷◌, ◌++◌, Option, Some, None, refl, sym, ap, subst, ◌∙◌, inl, arith, length}
use Rattle.std.specs.Prelude.{Contains, map as each}
use Rattle.std.specs.FinMap as map
use Rattle.pascal_values.specs.declared.fault.Fault as fault
use Rattle.estelle_tree.specs.declared.transition.Pair.{Pair}
use Rattle.estelle_tree.specs.Timers.{Timers, pair}
use Rattle.estelle_model.specs.declared.event.Event.TheVariants.{Start, Fault}
use Rattle.estelle_model.specs.declared.event.End.{End}
use Rattle.estelle_model.specs.declared.event.End.TheVariants.{Clock, Faulted}
use Rattle.estelle_model.specs.declared.job.Job.{Job}
use Rattle.estelle_model.specs.declared.job.Done.{Done}
use Rattle.estelle_model.specs.declared.job.Outcome.{Outcome}
use Rattle.estelle_model.specs.declared.job.Outcome.TheVariants as outcome
use Rattle.estelle_model.specs.Subject.{Subject}
use Rattle.estelle_model.specs.Situation.{Situation, Acting}
use Rattle.estelle_model.specs.Firing.{start, bare}
use Rattle.estelle_model.specs.Delays.{has_delays}
use Rattle.estelle_model.specs.Jobs.{Answers}
use Rattle.estelle_model.specs.Runs.{situation}
use Rattle.estelle_model_legality.specs.Instances.{LeadsToStates}
use Rattle.estelle_model_legality.specs.Situations.{IsLegal}
use Rattle.estelle_model.specs.Choosers.{Draw}
use Rattle.effect_log.specs.Standing.{Stands}
use Rattle.effect_log.specs.Putting.{IsRan, AnswersIn, log_of, after_put}
use Rattle.effect_log.specs.Rooms.{outputs_in, HasRoomFor}
use Rattle.situation_state.specs.declared.state.State.{State}
use Rattle.situation_state.specs.At.{IsAt}
use Rattle.run_history.specs.declared.entry.Entry.{Entry}
use Rattle.run_history.specs.Histories.{project, fires}
use Rattle.run_history.specs.declared.entry.Taken.{Taken}
use Rattle.run_history.specs.Tickets.{tickets}
use Rattle.run_history.specs.OpenTickets.{open_in, untaken}
use Rattle.situation_steps.specs.declared.systems.Time.{Time}
use Rattle.situation_steps.specs.Systems.{systems_of, first_kept}
use Rattle.situation_steps.specs.Laws.{first_time}
use Rattle.situation.specs.declared.limits.Limits.{Limits}
use Rattle.situation.specs.declared.execution.Execution.{Execution}
use Rattle.situation.specs.Runs.{noted, ending, IsGoing, IsClosed, AreReached}
use Rattle.situation.specs.Worlds.{HasOnlyStarted, IsOpenExecution, IsEndedExecution, IsKept, limits_of}
use Rattle.situation.specs.Steps.{IsFresh, MaySettle, HasBeenPut, HasFailed, StartedSo, HasStarted, FindsSystems, HasAllSystems, IsBegun}
use Rattle.estelle_model.proofs.PrivateParts.{remove_empty}
use Rattle.estelle_model_legality.proofs.Lists.{in_none}
use Rattle.situation.proofs.Untaken.{all_untaken}
use Rattle.situation.proofs.Kept.{own}
use Rattle.situation.proofs.Starts.{start_answers_in, start_numbers, start_situation, start_legal, start_going, start_pending, start_timers, start_reached, start_stays, start_closes, start_failed_reached, only_started, only_failed}

-- the job of the initialization
pub record IsStart (budget : ℕ) (job : Job) : Type 0 where
  pub trans : job.trans ≡ 0
  pub path : job.path ≡ []
  pub units : job.budget ≡ budget

-- ends that differ
not_ended : (o : Option End) → o ≡ None → o ≡ Some Clock → ⊥
not_ended o none some = let wrong : Some Clock ≡ None = sym some ∙ none in cc

not_clocked : (o : Option End) (kind : fault.Fault) → o ≡ Some (Faulted kind) → o ≡ Some Clock → ⊥
not_clocked o kind faulted clocked = let wrong : Some (Faulted kind) ≡ Some Clock = sym faulted ∙ clocked in cc

-- the systems that were found are those of the situation for which the shared state stands
all_found : {H : Type 0} (n x : Execution H) (s : Subject) → n.state.program.now ≡ s → (g : Situation) → ((g : Situation) → Stands n.state.program.now n.state.shared g → IsLegal n.state.program.now g → x.systems.items ≡ each first_kept (systems_of n.state.program.now g))
    → Stands s n.state.shared g → IsLegal s g → x.systems.items ≡ each first_kept (systems_of s g)
all_found {H} n x s is g found stands legal = by n.state.program.now is found
  where
    by : (y : Subject) → y ≡ s → ((g : Situation) → Stands y n.state.shared g → IsLegal y g → x.systems.items ≡ each first_kept (systems_of y g)) → x.systems.items ≡ each first_kept (systems_of s g)
    by y e f = subst (λ (z : Subject). x.systems.items ≡ each first_kept (systems_of z g)) e
        (f g (subst (λ (z : Subject). Stands z n.state.shared g) (sym e) stands) (subst (λ (z : Subject). IsLegal z g) (sym e) legal))

module _ {H : Type 0} (s : Subject) (limits : Limits) (chooser : H) where
  -- it is still fresh with more memory
  pub fresh_still : (f m : Execution H) (x : State) → IsFresh s limits chooser f → m.history.entries ≡ f.history.entries → x.program ≡ f.state.program → x.budget ≡ f.state.budget → ((g : Situation) (ps : List Pair) → IsAt g ps f.state → IsAt g ps x)
      → IsFresh s limits chooser (record f { history = m.history; state = x })
  fresh_still f m x h entries program budget same = record {
    state = record {
      program = ap (λ p. p.now) program ∙ h.state.program;
      budget_is = budget ∙ h.state.budget_is;
      at = subst (λ (y : Subject). IsAt (bare y) [] x) (sym (ap (λ p. p.now) program)) (same (bare f.state.program.now) [] h.state.at);
    };
    turns = h.turns;
    delays = h.delays;
    systems = h.systems;
    time = h.time;
    entries = entries ∙ h.entries;
    tickets = h.tickets;
    flying = h.flying;
    writer = h.writer;
    unended = h.unended;
    chooser_is = h.chooser_is;
  }

  fresh_limits : (c : Execution H) → IsFresh s limits chooser c → limits_of c ≡ limits
  fresh_limits c f = (λ i. record { turns = f.turns i; budget = f.state.budget_is i })

  -- what a execution has that is not changed before the first selection
  record IsAsBegun (x : Execution H) (its : List Entry) : Type 0 where
    program : x.state.program.now ≡ s
    limits_are : limits_of x ≡ limits
    entries : x.history.entries ≡ its
    time : x.time ≡ first_time
    chooser_is : x.chooser ≡ chooser

  -- the parts of a execution that its history is of
  abbrev Whole : Type 0
  Whole = Subject × Limits × List Entry × Time

  abbrev whole : Execution H → Whole
  whole x = (x.state.program.now, limits_of x, x.history.entries, x.time)

  same_whole : (x : Execution H) (its : List Entry) → IsAsBegun x its → (s, limits, its, first_time) ≡ whole x
  same_whole x its a = sym (λ i. (a.program i, a.limits_are i, a.entries i, a.time i))

  -- what is reached, where all is as said
  reached_by : (draw : Draw H) (x : Execution H) (its : List Entry) → IsAsBegun x its → (moment : Option ℕ) → AreReached draw s limits.budget limits.turns moment chooser its chooser first_time moment
      → AreReached draw x.state.program.now x.state.budget x.turns moment chooser x.history.entries x.chooser x.time moment
  reached_by draw x its a moment r =
      subst (λ (c : H). AreReached draw x.state.program.now x.state.budget x.turns moment chooser x.history.entries c x.time moment) (sym a.chooser_is)
      (subst (λ (q : Whole). AreReached draw q.0 q.1.budget q.1.turns moment chooser q.2 chooser q.3 moment) (same_whole x its a) r)

  -- and what has happened
  started_by : (x : Execution H) (its : List Entry) → IsAsBegun x its → (e : Option End) → x.end ≡ e → HasOnlyStarted (start s limits.budget) its e → HasOnlyStarted (start x.state.program.now x.state.budget) x.history.entries x.end
  started_by x its a e is h =
      subst (λ (q : Whole). HasOnlyStarted (start q.0 q.1.budget) q.2 x.end) (same_whole x its a) (subst (HasOnlyStarted (start s limits.budget) its) (sym is) h)

  module _ (leads : LeadsToStates s) (room : limits.budget * (limits.turns + 1) < 2 ^ 63) (job : Job) (start : IsStart limits.budget job) (done : Done) (answers : Answers s job done) where
    few : (o : Outcome) → done.outcome ≡ o → IsRan o → outputs_in (log_of done.outcome) < 2 ^ 64
    few (outcome.Ran image effects) e ran = start_numbers s leads limits.budget limits.turns job start.trans start.path start.units done answers image effects e room
    few (outcome.Faulted kind) e ran = absurd ran

    -- the start may be settled
    pub may_start : (c : Execution H) → IsFresh s limits chooser c → HasRoomFor done.outcome c.state.shared c.state.notes → 2 ≤ c.history.spare → MaySettle (bare c.state.program.now) c done
    may_start c f rooms spare = record {
      may = λ ran. record {
        may = record {
          ran = ran;
          stands = f.state.at.stands;
          answers = subst (λ (x : Subject). AnswersIn x (bare x) done) (sym f.state.program) (start_answers_in s leads limits.budget limits.turns job start.trans start.path start.units done answers);
          room = rooms;
          numbers = let none : c.state.shared.outputs ≡ 0 = f.state.at.stands.outputs in let little = few done.outcome refl ran in omega (arith, none, little);
        };
        empty = f.state.at.empty;
      };
      spare = spare;
    }

    -- it ran
    ran_begun : (draw : Draw H) (c n x : Execution H) → IsFresh s limits chooser c → (o : Outcome) → IsRan o → done.outcome ≡ o → HasBeenPut c n done → FindsSystems None n x → IsBegun draw s limits chooser x
    ran_begun draw c n x f (outcome.Faulted kind) ran is h found = absurd ran
    ran_begun draw c n x f (outcome.Ran image effects) ran is h found =
        let b = limits.budget in
        let t = limits.turns in
        let a : Acting = after_put s (bare s) done in
        let its : List Entry = noted 0 (Start a.outs a.drops) ∷ [] in
        let situation_is = start_situation s leads b t job start.trans start.path start.units done answers image effects is in
        let z : State = own c n.state in
        let same : x ≡ record c { state = z; history = n.history; systems = x.systems } = found.1 ∙ ap (λ (y : Execution H). record y { systems = x.systems }) h.rest in
        let state_is : n.state ≡ z = ap (λ (y : Execution H). y.state) h.rest in
        let program_is : x.state.program.now ≡ s = ap (λ (y : Execution H). y.state.program.now) same ∙ f.state.program in
        let program_then : n.state.program.now ≡ s = ap (λ (y : Execution H). y.state.program.now) h.rest ∙ f.state.program in
        let entries_are : x.history.entries ≡ its = ap (λ (y : Execution H). y.history.entries) same ∙ h.noted ∙ (λ i. f.entries i ++ noted (f.writer i) (Start (after_put (f.state.program i) (bare (f.state.program i)) done).outs (after_put (f.state.program i) (bare (f.state.program i)) done).drops) ∷ []) in
        let as_begun : IsAsBegun x its = record {
          program = program_is;
          limits_are = ap (λ (y : Execution H). limits_of y) same ∙ fresh_limits c f;
          entries = entries_are;
          time = ap (λ (y : Execution H). y.time) same ∙ f.time;
          chooser_is = ap (λ (y : Execution H). y.chooser) same ∙ f.chooser_is;
        } in
        let all = same_whole x its as_begun in
        let unended : x.end ≡ None = ap (λ (y : Execution H). y.end) same ∙ f.unended in
        let tickets_are : x.tickets ≡ 0 = ap (λ (y : Execution H). y.tickets) same ∙ f.tickets in
        let put = h.put a.situation.pending f.state.at in
        let at_n : IsAt (record a.situation { timers = map.remove map.empty (pair done.path done.trans); pending = a.situation.pending }) [] n.state =
        subst (λ (y : Subject). IsAt (record (after_put y (bare y) done).situation { timers = map.remove map.empty (pair done.path done.trans); pending = a.situation.pending }) [] n.state) f.state.program put in
        let no_timers : map.remove map.empty (pair done.path done.trans) ≡ a.situation.timers = remove_empty (pair done.path done.trans) ∙ sym (start_timers s leads b t job start.trans start.path start.units done answers image effects is) in
        let at_a : IsAt a.situation a.situation.pending n.state = subst (λ (ps : List Pair). IsAt a.situation ps n.state) (sym (start_pending s leads b t job start.trans start.path start.units done answers image effects is))
        (subst (λ (ts : Timers). IsAt (record a.situation { timers = ts; pending = a.situation.pending }) [] n.state) no_timers at_n) in
        let stands_then : Stands s n.state.shared a.situation = subst (λ (y : Subject). Stands y n.state.shared a.situation) program_then at_a.stands in
        let legal = start_legal s leads b t job start.trans start.path start.units done answers image effects is in
        let systems_are : x.systems.items ≡ each first_kept (systems_of s a.situation) = all_found n x s program_then a.situation found.0 stands_then legal in
        let at_x : IsAt (situation s b (project its)) (untaken (open_in its) (situation s b (project its)).pending) x.state = subst (λ (g : Situation). IsAt g (untaken (open_in its) g.pending) x.state) (sym situation_is)
        (subst (λ (ps : List Pair). IsAt a.situation ps x.state) (sym (all_untaken a.situation.pending)) (subst (IsAt a.situation a.situation.pending) (state_is ∙ sym (ap (λ (y : Execution H). y.state) same)) at_a)) in
        let going : IsGoing s b t its first_time x.systems.items = start_going s leads b t job start.trans start.path start.units done answers image effects is x.systems.items systems_are in
        let opened : IsOpenExecution x = record {
          leads = subst LeadsToStates (sym program_is) leads;
          room = subst (λ (l : Limits). l.budget * (l.turns + 1) < 2 ^ 63) (sym as_begun.limits_are) room;
          delays = ap (λ (y : Execution H). y.delays) same ∙ f.delays ∙ ap has_delays (sym program_is);
          going = subst (λ (q : Whole). IsGoing q.0 q.1.budget q.1.turns q.2 q.3 x.systems.items) all going;
          at = subst (λ (q : Whole). IsAt (situation q.0 q.1.budget (project q.2)) (untaken (open_in q.2) (situation q.0 q.1.budget (project q.2)).pending) x.state) all at_x;
          flying = ap (λ (y : Execution H). y.flying.items) same ∙ f.flying ∙ sym (ap open_in entries_are);
          taken = ap (λ (es : List Entry). length (tickets es)) entries_are ∙ sym tickets_are;
          fired = tickets_are ∙ ap (λ (es : List Entry). fires es + length (open_in es)) (sym entries_are);
          limit = λ o here. absurd (in_none Taken o (subst (λ (es : List Entry). Contains (open_in es) o) entries_are here));
        } in
        record {
          keeps = subst (IsKept x) (sym unended) opened;
          of = record { subject = program_is; same = as_begun.limits_are };
          begun = λ moment. reached_by draw x its as_begun moment (start_reached s leads b t job start.trans start.path start.units done answers image effects is draw chooser moment);
          starts = started_by x its as_begun None unended (only_started s leads b t job start.trans start.path start.units done answers image effects is);
          time = as_begun.time;
          none = ap open_in entries_are;
          writer = ap (λ (y : Execution H). y.writer) same ∙ f.writer;
          unclocked = λ ended. absurd (not_ended x.end unended ended);
        }

    -- it faulted
    failed_begun : (draw : Draw H) (c n x : Execution H) → IsFresh s limits chooser c → (kind : fault.Fault) → done.outcome ≡ outcome.Faulted kind → HasFailed c n [] 0 kind → x ≡ n → IsBegun draw s limits chooser x
    failed_begun draw c n x f kind is h found =
        let b = limits.budget in
        let t = limits.turns in
        let its : List Entry = (noted 0 (Fault [] 0 kind) ∷ []) ++ ending 0 (Faulted kind) ∷ [] in
        let same : x ≡ record c { history = n.history; end = Some (Faulted kind) } = found ∙ h.rest in
        let program_is : x.state.program.now ≡ s = ap (λ (y : Execution H). y.state.program.now) same ∙ f.state.program in
        let as_begun : IsAsBegun x its = record {
          program = program_is;
          limits_are = ap (λ (y : Execution H). limits_of y) same ∙ fresh_limits c f;
          entries = ap (λ (y : Execution H). y.history.entries) same ∙ h.noted ∙ (λ i. (f.entries i ++ noted (f.writer i) (Fault [] 0 kind) ∷ []) ++ ending (f.writer i) (Faulted kind) ∷ []);
          time = ap (λ (y : Execution H). y.time) same ∙ f.time;
          chooser_is = ap (λ (y : Execution H). y.chooser) same ∙ f.chooser_is;
        } in
        let ended : x.end ≡ Some (Faulted kind) = ap (λ (y : Execution H). y.end) same in
        let closed : IsClosed s b t its 0 (Faulted kind) = start_closes s leads b t job start.trans start.path start.units done answers kind is in
        let there : IsClosed x.state.program.now x.state.budget x.turns x.history.entries x.time.waited (Faulted kind) =
        subst (λ (q : Whole). IsClosed q.0 q.1.budget q.1.turns q.2 q.3.waited (Faulted kind)) (same_whole x its as_begun) closed in
        let situation_is = start_stays s leads b t job start.trans start.path start.units done answers kind is in
        let at_x : IsAt (situation s b (project its)) (situation s b (project its)).pending x.state = subst (λ (g : Situation). IsAt g g.pending x.state) (sym situation_is)
        (subst (IsAt (bare s) []) (sym (ap (λ (y : Execution H). y.state) same)) (subst (λ (y : Subject). IsAt (bare y) [] c.state) f.state.program f.state.at)) in
        let tickets_are : x.tickets ≡ 0 = ap (λ (y : Execution H). y.tickets) same ∙ f.tickets in
        let closes : IsEndedExecution x (Faulted kind) = record {
          leads = subst LeadsToStates (sym program_is) leads;
          room = subst (λ (l : Limits). l.budget * (l.turns + 1) < 2 ^ 63) (sym as_begun.limits_are) room;
          delays = ap (λ (y : Execution H). y.delays) same ∙ f.delays ∙ ap has_delays (sym program_is);
          closed = there;
          left = (situation s b (project its)).pending;
          at = subst (λ (q : Whole). IsAt (situation q.0 q.1.budget (project q.2)) (situation s b (project its)).pending x.state) (same_whole x its as_begun) at_x;
          taken = ap (λ (es : List Entry). length (tickets es)) as_begun.entries ∙ sym tickets_are;
          fired = inl (tickets_are ∙ ap (λ (es : List Entry). fires es + length (open_in es)) (sym as_begun.entries));
        } in
        record {
          keeps = subst (IsKept x) (sym ended) closes;
          of = record { subject = program_is; same = as_begun.limits_are };
          begun = λ moment. reached_by draw x its as_begun moment (start_failed_reached s leads b t job start.trans start.path start.units done answers kind is draw chooser moment);
          starts = started_by x its as_begun (Some (Faulted kind)) ended (only_failed s leads b t job start.trans start.path start.units done answers kind is);
          time = as_begun.time;
          none = ap open_in as_begun.entries;
          writer = ap (λ (y : Execution H). y.writer) same ∙ f.writer;
          unclocked = λ clocked. absurd (not_clocked x.end kind ended clocked);
        }

    pub has_begun : (draw : Draw H) (c n x : Execution H) → IsFresh s limits chooser c → HasStarted c n done → HasAllSystems n x → IsBegun draw s limits chooser x
    has_begun draw c n x f h found = by done.outcome refl h
      where
        by : (o : Outcome) → done.outcome ≡ o → StartedSo c n done o → IsBegun draw s limits chooser x
        by (outcome.Ran image effects) is h =
            let unended : n.end ≡ None = ap (λ (y : Execution H). y.end) h.rest ∙ f.unended in
            ran_begun draw c n x f (outcome.Ran image effects) tt is h (subst (λ (e : Option End). FindsSystems e n x) unended found)
        by (outcome.Faulted kind) is h =
            let ended : n.end ≡ Some (Faulted kind) = ap (λ (y : Execution H). y.end) h.rest in
            failed_begun draw c n x f kind is h (subst (λ (e : Option End). FindsSystems e n x) ended found)
