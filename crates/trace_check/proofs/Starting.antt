-- What the initialization comes to, and the first event of a trace.
use Rattle.std.proofs.Common.{◌≡◌, ℕ, ◌+◌, ◌≤◌, List, [], ◌∷◌, take, Option, Some, refl, sym, ap, subst, ◌∙◌, arith}
use Rattle.std.specs.Prelude.{slice_get}
use Rattle.std.specs.FinMap as map
use Rattle.pascal_values.specs.declared.fault.Fault as fault
use Rattle.estelle_tree.specs.declared.transition.Pair.{Pair}
use Rattle.estelle_tree.specs.Paths.{Path}
use Rattle.estelle_tree.specs.Timers.{Timers, pair}
use Rattle.estelle_model.specs.declared.event.Event.{Event}
use Rattle.estelle_model.specs.declared.event.Event.TheVariants.{Start, Select, Fire, Fault}
use Rattle.estelle_model.specs.declared.effect.Out.{Out}
use Rattle.estelle_model.specs.declared.job.Done.{Done}
use Rattle.estelle_model.specs.declared.job.Outcome.{Outcome}
use Rattle.estelle_model.specs.declared.job.Outcome.TheVariants as outcome
use Rattle.estelle_model.specs.Subject.{Subject}
use Rattle.estelle_model.specs.Situation.{Situation, Acting}
use Rattle.estelle_model.specs.Firing.{Firing, Failed, bare, start}
use Rattle.estelle_model.specs.Jobs.{Answers, IsAnswer}
use Rattle.estelle_model.specs.Runs.{Begins, IsRun, started, situation, situation_at}
use Rattle.estelle_model.specs.Ends.{last_event, IsNoFault, IsFault}
use Rattle.estelle_model.proofs.PrivateParts.{remove_empty}
use Rattle.estelle_model_legality.specs.Instances.{LeadsToStates}
use Rattle.estelle_model_legality.specs.Keeping.{IsStarted}
use Rattle.estelle_model_legality.specs.Situations.{IsLegal}
use Rattle.estelle_model_legality.proofs.Started.{start_is_legal}
use Rattle.effect_log.specs.Putting.{IsRan, AnswersIn, after_put, firing_of, log_of}
use Rattle.effect_log.specs.Rooms.{outputs_in}
use Rattle.effect_log.proofs.Answered.{puts-are-firings}
use Rattle.situation_steps.specs.UnderWay.{HasRoot}
use Rattle.situation_steps.proofs.Roots.{has_root, bare_root}
use Rattle.situation_units.specs.Counting.{births_at}
use Rattle.situation_state.specs.declared.state.State.{State}
use Rattle.situation_state.specs.At.{IsAt}
use Rattle.situation_state.proofs.Counted.{IsPutSo, put_so, made_is}
use Rattle.trace_check.specs.Going.{IsGoing, IsFaulted}
use Rattle.estelle_model_legality.specs.Jobs.{start_job}
use Rattle.trace_check.proofs.Prefixes.{take_more}
use Rattle.trace_check.proofs.Computed.{ran_so}
use Rattle.trace_check.proofs.Nexts.{timers_same, pending_same, root_same}

-- ---- the first event

module _ (s : Subject) (budget : ℕ) (events : List Event) (e : Event) (at : slice_get events 0 ≡ Some e) where
  first_alone : take 1 events ≡ e ∷ []
  first_alone = take_more events 0 e at

  begins_of : (f : Firing) → start s budget ≡ f → IsRun s budget (take 1 events) → Begins s budget f e []
  begins_of f is run = subst (λ (x : Firing). Begins s budget x e []) is (subst (IsRun s budget) first_alone run)

  of_begins : (f : Firing) → start s budget ≡ f → Begins s budget f e [] → IsRun s budget (take 1 events)
  of_begins f is begins = subst (IsRun s budget) (sym first_alone) (subst (λ (x : Firing). Begins s budget x e []) (sym is) begins)

  last_first : last_event (take 1 events) ≡ Some e
  last_first = ap last_event first_alone

  situation_first : situation_at s budget events 1 ≡ started s (start s budget)
  situation_first = ap (situation s budget) first_alone

-- ---- the initialization faults

pub start_fails : (s : Subject) (budget : ℕ) (done : Done) → Answers s (start_job s budget) done → (kind : fault.Fault) → done.outcome ≡ outcome.Faulted kind → start s budget ≡ Failed kind done.left
start_fails s budget done answers kind is = subst (λ (o : Outcome). IsAnswer s [] 0 (bare s) o done.left (start s budget)) is answers.answers

module _ (s : Subject) (budget : ℕ) (events : List Event) (own : fault.Fault) (left : ℕ) (fails : start s budget ≡ Failed own left) where
  pub no_start : (outs : List Out) (drops : List ℕ) → slice_get events 0 ≡ Some (Start outs drops) → IsRun s budget (take 1 events) → ⊥
  no_start outs drops at run = begins_of s budget events (Start outs drops) at (Failed own left) fails run

  pub no_first_selection : (system : Path) (now : ℕ) (takes : List Pair) → slice_get events 0 ≡ Some (Select system now takes) → IsRun s budget (take 1 events) → ⊥
  no_first_selection system now takes at run = begins_of s budget events (Select system now takes) at (Failed own left) fails run

  pub no_first_firing : (m : Path) (n : ℕ) (outs : List Out) (drops : List ℕ) → slice_get events 0 ≡ Some (Fire m n outs drops) → IsRun s budget (take 1 events) → ⊥
  no_first_firing m n outs drops at run = begins_of s budget events (Fire m n outs drops) at (Failed own left) fails run

  module _ (m : Path) (n : ℕ) (kind : fault.Fault) (at : slice_get events 0 ≡ Some (Fault m n kind)) where
    pub first_told : IsRun s budget (take 1 events) → (m ≡ []) × (n ≡ 0) × (kind ≡ own)
    first_told run = let b = begins_of s budget events (Fault m n kind) at (Failed own left) fails run in (b.0, b.1, b.2)

    pub first_faulted : m ≡ [] → n ≡ 0 → kind ≡ own → IsFaulted s budget events 1 own
    first_faulted path trans same = record {
      run = of_begins s budget events (Fault m n kind) at (Failed own left) fails (path, trans, same, refl);
      fault = subst (λ (o : Option Event). IsFault o own) (sym (last_first s budget events (Fault m n kind) at)) same;
    }

-- ---- it runs

module _ (s : Subject) (budget : ℕ) (done : Done) (answers : Answers s (start_job s budget) done) (is : IsRan done.outcome) where
  pub start_answers : AnswersIn s (bare s) done
  start_answers = record { job = start_job s budget; at = (refl, refl); answers = answers }

  abbrev a : Acting
  a = after_put s (bare s) done

  pub start_is : start s budget ≡ ran_so done.path done.trans a done.left
  unfolding start_answers
  start_is = puts-are-firings s (bare s) done is start_answers

  abbrev firing : Firing
  firing = firing_of s (bare s) start_answers.job start_answers.job.trans

  its : IsPutSo s (bare s) done firing
  its = put_so s (bare s) done is start_answers

  -- the situation after it
  abbrev pub started_to : Situation
  started_to = record a.situation { timers = (bare s).timers }

  started_is : started s (start s budget) ≡ started_to
  started_is = ap (started s) start_is
      ∙ (λ i. record a.situation { timers = map.remove (timers_same s (bare s) done firing its i) (pair done.path done.trans) })
      ∙ (λ i. record a.situation { timers = remove_empty (pair done.path done.trans) i })

  -- a state that stands for what was put, with any timers of it, stands for that situation
  pub started_at : (c : State) → IsAt (record a.situation { timers = map.remove (bare s).timers (pair done.path done.trans); pending = a.situation.pending }) [] c → IsAt started_to started_to.pending c
  started_at c h =
      let none : started_to.pending ≡ [] = pending_same s (bare s) done firing its in
      subst (λ (ps : List Pair). IsAt started_to ps c) (sym none) (subst (λ (ts : Timers). IsAt (record a.situation { timers = ts; pending = a.situation.pending }) [] c) (remove_empty (pair done.path done.trans)) h)

  pub started_made : a.situation.made ≡ 0 + outputs_in (log_of done.outcome)
  started_made = made_is s (bare s) done firing its

  module _ (events : List Event) where
    pub no_first_select : (system : Path) (now : ℕ) (takes : List Pair) → slice_get events 0 ≡ Some (Select system now takes) → IsRun s budget (take 1 events) → ⊥
    no_first_select system now takes at run = begins_of s budget events (Select system now takes) at (ran_so done.path done.trans a done.left) start_is run

    pub no_first_fire : (m : Path) (n : ℕ) (outs : List Out) (drops : List ℕ) → slice_get events 0 ≡ Some (Fire m n outs drops) → IsRun s budget (take 1 events) → ⊥
    no_first_fire m n outs drops at run = begins_of s budget events (Fire m n outs drops) at (ran_so done.path done.trans a done.left) start_is run

    pub no_first_fault : (m : Path) (n : ℕ) (kind : fault.Fault) → slice_get events 0 ≡ Some (Fault m n kind) → IsRun s budget (take 1 events) → ⊥
    no_first_fault m n kind at run = begins_of s budget events (Fault m n kind) at (ran_so done.path done.trans a done.left) start_is run

    module _ (outs : List Out) (drops : List ℕ) (at : slice_get events 0 ≡ Some (Start outs drops)) where
      pub start_told : IsRun s budget (take 1 events) → (a.outs ≡ outs) × (a.drops ≡ drops)
      start_told run = let b = begins_of s budget events (Start outs drops) at (ran_so done.path done.trans a done.left) start_is run in (sym b.0, sym b.1)

      pub first_is : situation_at s budget events 1 ≡ started_to
      first_is = situation_first s budget events (Start outs drops) at ∙ started_is

      pub start_goes : LeadsToStates s → a.outs ≡ outs → a.drops ≡ drops → a.situation.made ≤ budget → ((p : Path) → births_at p a.situation ≤ budget) → IsGoing s budget events 1
      start_goes leads same dropped few births =
          let made : (situation_at s budget events 1).made ≡ a.situation.made = ap (λ (h : Situation). h.made) first_is in
          let legal : IsLegal s (started s (start s budget)) = subst (λ (f : Firing). IsLegal s (started s f)) (sym start_is) (subst (IsStarted s) start_is (start_is_legal s leads budget)) in
          let root = root_same s (bare s) done firing its (has_root (bare s) (bare_root s)) in
          let kept : HasRoot started_to = (root.0, root.1, root.2) in
          record {
            run = of_begins s budget events (Start outs drops) at (ran_so done.path done.trans a done.left) start_is (sym same, sym dropped, tt);
            goes_on = subst IsNoFault (sym (last_first s budget events (Start outs drops) at)) tt;
            legal = subst (IsLegal s) (sym (situation_first s budget events (Start outs drops) at)) legal;
            root = subst HasRoot (sym first_is) kept;
            made = omega (arith, made, few);
            births = λ p. let same : births_at p (situation_at s budget events 1) ≡ births_at p a.situation = ap (births_at p) first_is in omega (arith, same, births p);
          }
